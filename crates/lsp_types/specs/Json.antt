-- The JSON that a type is written as.
use Rattle.std.specs.Prelude.{◌≡◌, Bool, false, List, ℕ, [], ◌∷◌, fold, Option, Some, None}
use Rattle.serde_json.specs.Data.{Data, Members, no_members, member, object, put}
use Rattle.serde_json.specs.Find.{as_object}

-- one more member: its key, and its value if it has one
unfoldable pub with_member : Members → List ℕ × Option Data → Members
with_member members (key, None) = members
with_member members (key, Some value) = put key value members

-- more members, one after another
abbrev pub with_members : Members → List (List ℕ × Option Data) → Members
with_members members more = fold with_member members more

-- the object with these members
abbrev pub object_of : List (List ℕ × Option Data) → Data
object_of members = object (with_members no_members members)

-- the members of an object, one after another
abbrev pub each_of : Members → List (List ℕ × Option Data)
each_of no_members = []
each_of (member key value members) = (key, Some value) ∷ each_of members

-- the members of an object beside others
abbrev pub with_object : Members → Option Members → Members
with_object members (Some rest) = with_members members (each_of rest)
with_object members None = members

-- the members of a value beside others. One that is no object has none.
abbrev pub with_rest : Members → Option Data → Members
with_rest members (Some rest) = with_object members (as_object rest)
with_rest members None = members

-- the object with these members, and with those of another object
abbrev pub object_with : List (List ℕ × Option Data) → Option Data → Data
object_with members rest = object (with_rest (with_members no_members members) rest)

-- an object under way has these members, unless an allocation failed
abbrev pub Has : Bool → Members → Members → Type 0
Has failed members wanted = failed ≡ false → members ≡ wanted
