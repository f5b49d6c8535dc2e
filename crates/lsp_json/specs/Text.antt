-- The JSON and the data that tokens stand for.
use Rattle.std.specs.Prelude.{ℕ, List, ◌∷◌, Option, Some, None, IsSome, option_and_then}
use Rattle.json.specs.Token.{Token}
use Rattle.json.specs.Json as json
use Rattle.json.specs.Tree.{depth, items_depth, members_depth}
use Rattle.serde_json.specs.Data.{Data, Items, Members, null, no_items, no_members}
use Rattle.serde_json.specs.Read.{of_json, of_items, of_members, max_depth}

abbrev pub json_or_null : Option (json.Json × List Token) → json.Json
json_or_null None = json.null
json_or_null (Some p) = p.0

abbrev pub data_or_null : Option Data → Data
data_or_null None = null
data_or_null (Some d) = d

abbrev pub items_or_none : Option Items → Items
items_or_none None = no_items
items_or_none (Some ds) = ds

abbrev pub items_within : json.Json → json.Items
items_within json.null = json.no_items
items_within (json.boolean b) = json.no_items
items_within (json.number s) = json.no_items
items_within (json.string s) = json.no_items
items_within (json.array js) = js
items_within (json.object ms) = json.no_items

abbrev pub members_within : json.Json → json.Members
members_within json.null = json.no_members
members_within (json.boolean b) = json.no_members
members_within (json.number s) = json.no_members
members_within (json.string s) = json.no_members
members_within (json.array js) = json.no_members
members_within (json.object ms) = ms

-- the JSON that the tokens begin with
unfoldable pub text_json : List Token → json.Json
text_json ts = json_or_null (json.value max_depth ts)

-- the items up to the bracket that closes an array
unfoldable pub json_items : List Token → json.Items
json_items ts = items_within (text_json (Token.begin_array ∷ ts))

-- the members up to the bracket that closes an object
unfoldable pub json_members : List Token → json.Members
json_members ts = members_within (text_json (Token.begin_object ∷ ts))

unfoldable pub text_data : List Token → Data
text_data ts = data_or_null (of_json (text_json ts))

unfoldable pub text_items : List Token → Items
text_items ts = items_or_none (of_items (json_items ts))

-- these members, put after those that were found
unfoldable pub text_members : List Token → Members → Option Members
text_members ts found = of_members (json_members ts) found

-- how deep they nest
unfoldable pub text_depth : List Token → ℕ
text_depth ts = depth (text_json ts)

unfoldable pub text_items_depth : List Token → ℕ
text_items_depth ts = items_depth (json_items ts)

unfoldable pub text_members_depth : List Token → ℕ
text_members_depth ts = members_depth (json_members ts)

-- the data of the value that the tokens begin with, where serde_json reads it
unfoldable pub text_read : List Token → Option Data
text_read ts = option_and_then (λ p. of_json p.0) (json.value max_depth ts)

unfoldable pub text_items_read : List Token → Option Items
text_items_read ts = option_and_then (λ p. of_items (items_within p.0)) (json.value max_depth (Token.begin_array ∷ ts))

unfoldable pub text_members_read : List Token → Option Members
text_members_read ts = option_and_then (λ p. of_members (members_within p.0) no_members)
    (json.value max_depth (Token.begin_object ∷ ts))

abbrev pub Stands : List Token → Type 0
Stands ts = IsSome (text_read ts)

abbrev pub StandsItems : List Token → Type 0
StandsItems ts = IsSome (text_items_read ts)

abbrev pub StandsMembers : List Token → Type 0
StandsMembers ts = IsSome (text_members_read ts)
