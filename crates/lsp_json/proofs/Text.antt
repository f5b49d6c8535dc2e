-- What tokens stand for, whatever the depth at which they were read.
use Rattle.std.proofs.Common.{◌≡◌, ℕ, ◌≤◌, List, ◌∷◌, ◌++◌, Option, Some, None, IsSome, is_some, option_and_then}
use Rattle.std.proofs.Common.{true≢false, refl, sym, ap, ◌∙◌, subst, arith, append_assoc}
use Rattle.json.specs.Token.{Token}
use Rattle.json.specs.Json as json
use Rattle.json.specs.Json.{read_key, after_end_array}
use Rattle.json.specs.Find.{BeginsWith, InItems, InMembers}
use Rattle.json.specs.Tree.{json_tokens, items_tokens, members_tokens, depth, items_depth, members_depth}
use Rattle.json.proofs.Found.{items_close, items_go_on, members_close, members_go_on, not_found, opened}
use Rattle.json.proofs.Grammar.{closed_array, members_no_key, read_key_is}
use Rattle.json.proofs.Nesting.{value-depth}
use Rattle.json.proofs.Printed.Trees.{value-json_tokens}
use Rattle.json.proofs.Unique.Spelling.{value-json_tokens_back}
use Rattle.serde_json.specs.Data.{Data, Items, Members, no_members}
use Rattle.serde_json.specs.Read.{of_json, of_items, of_members}
use Rattle.lsp_json.specs.Text.{json_or_null, data_or_null, items_or_none, items_within, members_within, text_json}
use Rattle.lsp_json.specs.Text.{json_items, json_members, text_data, text_items, text_read, text_items_read}
use Rattle.lsp_json.specs.Text.{text_members_read, Stands, StandsItems, StandsMembers}

-- the tokens begin with a value that serde_json reads
pub record Known (ts : List Token) : Type 0 where
  pub begins : BeginsWith ts (text_json ts)
  pub nests : depth (text_json ts) ≤ 127
  pub means : of_json (text_json ts) ≡ Some (text_data ts)

pub record KnownItems (ts : List Token) : Type 0 where
  pub inside : InItems ts (json_items ts)
  pub nests : items_depth (json_items ts) ≤ 126
  pub means : of_items (json_items ts) ≡ Some (text_items ts)

pub record KnownMembers (ts : List Token) : Type 0 where
  pub inside : InMembers ts (json_members ts)
  pub nests : members_depth (json_members ts) ≤ 126
  pub all : Members
  pub means : of_members (json_members ts) no_members ≡ Some all

some_is : {A : Type 0} (o : Option A) (a : A) → o ≡ Some a → IsSome o
some_is o a e = ap is_some e

-- a value is read at each depth that is enough for it
pub read_at : (ts : List Token) (j : json.Json) (m : ℕ) → BeginsWith ts j → depth j ≤ m
    → (rest : List Token) × (json.value m ts ≡ Some (j, rest))
read_at ts j m (d, rest, e) h =
    (rest, ap (json.value m) (value-json_tokens_back d ts rest j e) ∙ value-json_tokens j m rest h)

text_json_is : (ts : List Token) (j : json.Json) → BeginsWith ts j → depth j ≤ 127 → text_json ts ≡ j
unfolding text_json
text_json_is ts j begins h = ap json_or_null (read_at ts j 127 begins h).1

pub stands : (ts : List Token) (j : json.Json) (d : Data) → BeginsWith ts j → depth j ≤ 127 → of_json j ≡ Some d
    → (text_json ts ≡ j) × (text_data ts ≡ d) × Stands ts
unfolding text_data text_read
stands ts j d begins h e =
    let is = text_json_is ts j begins h in
    let same : data_or_null (of_json (text_json ts)) ≡ d = ap (λ x. data_or_null (of_json x)) is ∙ ap data_or_null e in
    (is, same, ap (λ o. is_some (option_and_then (λ p. of_json p.0) o)) (read_at ts j 127 begins h).1 ∙ ap is_some e)

known_at : (ts : List Token) (o : Option (json.Json × List Token)) (p : Option Data) → json.value 127 ts ≡ o
    → option_and_then (λ x. of_json x.0) o ≡ p → IsSome p → Known ts
unfolding text_json text_data
known_at ts o None is e h = absurd (true≢false (sym h))
known_at ts None (Some d) is e h = not_found d e
known_at ts (Some (j, rest)) (Some d) is e h =
    let same : json_or_null (json.value 127 ts) ≡ j = ap json_or_null is in
    record {
      begins = subst (BeginsWith ts) (sym same) (127, rest, is);
      nests = subst (λ x. depth x ≤ 127) (sym same) (value-depth 127 ts rest j is);
      means = ap of_json same ∙ e ∙ ap (λ x. Some (data_or_null x)) (sym e)
          ∙ ap (λ x. Some (data_or_null (of_json x))) (sym same);
    }

pub known : (ts : List Token) → Stands ts → Known ts
unfolding text_read
known ts h = known_at ts (json.value 127 ts) (text_read ts) refl refl h

-- ---- the items of an array

abbrev ItemsFirst : List Token → json.Items → Type 0
ItemsFirst ts js = (rest : List Token) × (ts ≡ items_tokens js ++ rest)

items_end : (ts : List Token) (js : json.Items) → js ≡ json.no_items → (rest : List Token) → ts ≡ Token.end_array ∷ rest
    → ItemsFirst ts js
items_end ts js none rest e = (rest, e ∙ ap (λ x. items_tokens x ++ rest) (sym none))

items_first_at : (js : json.Items) (ts : List Token) (o : Option (List Token)) → after_end_array ts ≡ o → InItems ts js
    → ItemsFirst ts js
items_first_at js ts (Some rest) e h =
    items_end ts js (items_close rest js (subst (λ x. InItems x js) (closed_array ts rest e) h)) rest
    (closed_array ts rest e)
items_first_at json.no_items ts None e h =
    let f = items_go_on ts json.no_items e h in
    let never : json.no_items ≡ json.item f.1 f.3 = f.5 in
    cc
items_first_at (json.item i is) ts None e h =
    let f = items_go_on ts (json.item i is) e h in
    let both : json.item i is ≡ json.item f.1 f.3 = f.5 in
    let first : f.1 ≡ i = cc in
    let later : f.3 ≡ is = cc in
    let more = items_first_at is f.2 (after_end_array f.2) refl (subst (InItems f.2) later f.6) in
    let here : ts ≡ json_tokens f.1 ++ f.2 = value-json_tokens_back f.0 ts f.2 f.1 f.4 in (
      more.0,
      here ∙ ap (λ x. json_tokens x ++ f.2) first ∙ ap (λ x. json_tokens i ++ x) more.1
          ∙ sym (append_assoc (json_tokens i) (items_tokens is) more.0),
    )

items_first : (ts : List Token) (js : json.Items) → InItems ts js → ItemsFirst ts js
items_first ts js h = items_first_at js ts (after_end_array ts) refl h

-- the array that has these items
read_array : (ts : List Token) (js : json.Items) → InItems ts js → items_depth js ≤ 126
    → (rest : List Token) × (json.value 127 (Token.begin_array ∷ ts) ≡ Some (json.array js, rest))
read_array ts js inside h =
    let f = items_first ts js inside in
    let enough : depth (json.array js) ≤ 127 = omega arith in
    (f.0, ap (λ x. json.value 127 (Token.begin_array ∷ x)) f.1 ∙ value-json_tokens (json.array js) 127 f.0 enough)

pub stands_items : (ts : List Token) (js : json.Items) (ds : Items) → InItems ts js → items_depth js ≤ 126
    → of_items js ≡ Some ds → (json_items ts ≡ js) × (text_items ts ≡ ds) × StandsItems ts
unfolding json_items text_items text_json text_items_read
stands_items ts js ds inside h e =
    let read = (read_array ts js inside h).1 in
    let is : json_items ts ≡ js = ap (λ o. items_within (json_or_null o)) read in
    let same : items_or_none (of_items (json_items ts)) ≡ ds =
    ap (λ x. items_or_none (of_items x)) is ∙ ap items_or_none e in
    (is, same, ap (λ o. is_some (option_and_then (λ p. of_items (items_within p.0)) o)) read ∙ ap is_some e)

array_shape : (ts : List Token) (j : json.Json) (rest : List Token) → Token.begin_array ∷ ts ≡ json_tokens j ++ rest
    → (js : json.Items) × (j ≡ json.array js)
array_shape ts json.null rest e = let f : Token.begin_array ∷ ts ≡ Token.null ∷ rest = e in absurd (cc)
array_shape ts (json.boolean b) rest e = let f : Token.begin_array ∷ ts ≡ Token.boolean b ∷ rest = e in absurd (cc)
array_shape ts (json.number s) rest e = let f : Token.begin_array ∷ ts ≡ Token.number s ∷ rest = e in absurd (cc)
array_shape ts (json.string s) rest e = let f : Token.begin_array ∷ ts ≡ Token.string s ∷ rest = e in absurd (cc)
array_shape ts (json.array js) rest e = (js, refl)
array_shape ts (json.object ms) rest e =
    let f : Token.begin_array ∷ ts ≡ Token.begin_object ∷ (members_tokens ms ++ rest) = e in absurd (cc)

known_items_at : (ts : List Token) (o : Option (json.Json × List Token)) (p : Option Items)
    → json.value 127 (Token.begin_array ∷ ts) ≡ o → option_and_then (λ x. of_items (items_within x.0)) o ≡ p → IsSome p
    → KnownItems ts
unfolding json_items text_items text_json
known_items_at ts o None is e h = absurd (true≢false (sym h))
known_items_at ts None (Some ds) is e h = not_found ds e
known_items_at ts (Some (j, rest)) (Some ds) is e h =
    let s = array_shape ts j rest (value-json_tokens_back 127 (Token.begin_array ∷ ts) rest j is) in
    let whole : json.value 127 (Token.begin_array ∷ ts) ≡ Some (json.array s.0, rest) =
    is ∙ ap (λ x. Some (x, rest)) s.1 in
    let same : items_within (json_or_null (json.value 127 (Token.begin_array ∷ ts))) ≡ s.0 =
    ap (λ o. items_within (json_or_null o)) whole in
    let items_are : of_items s.0 ≡ Some ds = ap (λ x. of_items (items_within x)) (sym s.1) ∙ e in
    let shallow : items_depth s.0 ≤ 126 =
    omega (arith, value-depth 127 (Token.begin_array ∷ ts) rest (json.array s.0) whole) in
    record {
      inside = subst (InItems ts) (sym same) (opened (Token.begin_array ∷ ts) (json.array s.0) (127, rest, whole));
      nests = subst (λ x. items_depth x ≤ 126) (sym same) shallow;
      means = ap of_items same ∙ items_are ∙ ap (λ x. Some (items_or_none x)) (sym items_are)
          ∙ ap (λ x. Some (items_or_none (of_items x))) (sym same);
    }

pub known_items : (ts : List Token) → StandsItems ts → KnownItems ts
unfolding text_items_read
known_items ts h = known_items_at ts (json.value 127 (Token.begin_array ∷ ts)) (text_items_read ts) refl refl h

-- ---- the members of an object

abbrev MembersFirst : List Token → json.Members → Type 0
MembersFirst ts ms = (rest : List Token) × (ts ≡ members_tokens ms ++ rest)

members_end : (ts : List Token) (ms : json.Members) → ms ≡ json.no_members → (rest : List Token)
    → ts ≡ Token.end_object ∷ rest → MembersFirst ts ms
members_end ts ms none rest e = (rest, e ∙ ap (λ x. members_tokens x ++ rest) (sym none))

members_first_at : (ms : json.Members) (ts : List Token) (o : Option (Option (List ℕ) × List Token)) → read_key ts ≡ o
    → InMembers ts ms → MembersFirst ts ms
members_first_at ms ts None e (d, n, rest, h) = not_found (ms, rest) (sym (members_no_key (json.value d) n ts e) ∙ h)
members_first_at ms ts (Some (None, rest)) e h =
    members_end ts ms (members_close Token.end_object rest ms (λ x. x)
    (subst (λ x. InMembers x ms) (read_key_is ts None rest e) h)) rest (read_key_is ts None rest e)
members_first_at json.no_members ts (Some (Some k, rest)) e h =
    let f = members_go_on k rest json.no_members
    (subst (λ x. InMembers x json.no_members) (read_key_is ts (Some k) rest e) h) in
    let never : json.no_members ≡ json.member k f.1 f.3 = f.5 in
    cc
members_first_at (json.member l m ms) ts (Some (Some k, rest)) e h =
    let is = read_key_is ts (Some k) rest e in
    let f = members_go_on k rest (json.member l m ms) (subst (λ x. InMembers x (json.member l m ms)) is h) in
    let both : json.member l m ms ≡ json.member k f.1 f.3 = f.5 in
    let key : k ≡ l = cc in
    let first : f.1 ≡ m = cc in
    let later : f.3 ≡ ms = cc in
    let more = members_first_at ms f.2 (read_key f.2) refl (subst (InMembers f.2) later f.6) in
    let here : rest ≡ json_tokens f.1 ++ f.2 = value-json_tokens_back f.0 rest f.2 f.1 f.4 in
    let spelled : rest ≡ (json_tokens m ++ members_tokens ms) ++ more.0 =
    here ∙ ap (λ x. json_tokens x ++ f.2) first ∙ ap (λ x. json_tokens m ++ x) more.1
    ∙ sym (append_assoc (json_tokens m) (members_tokens ms) more.0) in (
      more.0,
      is ∙ ap (λ x. Token.key k ∷ x) spelled
          ∙ ap (λ x. Token.key x ∷ ((json_tokens m ++ members_tokens ms) ++ more.0)) key,
    )

members_first : (ts : List Token) (ms : json.Members) → InMembers ts ms → MembersFirst ts ms
members_first ts ms h = members_first_at ms ts (read_key ts) refl h

-- the object that has these members
read_object : (ts : List Token) (ms : json.Members) → InMembers ts ms → members_depth ms ≤ 126
    → (rest : List Token) × (json.value 127 (Token.begin_object ∷ ts) ≡ Some (json.object ms, rest))
read_object ts ms inside h =
    let f = members_first ts ms inside in
    let enough : depth (json.object ms) ≤ 127 = omega arith in
    (f.0, ap (λ x. json.value 127 (Token.begin_object ∷ x)) f.1 ∙ value-json_tokens (json.object ms) 127 f.0 enough)

pub stands_members : (ts : List Token) (ms : json.Members) (all : Members) → InMembers ts ms → members_depth ms ≤ 126
    → of_members ms no_members ≡ Some all → (json_members ts ≡ ms) × StandsMembers ts
unfolding json_members text_json text_members_read
stands_members ts ms all inside h e =
    let read = (read_object ts ms inside h).1 in
    let is : json_members ts ≡ ms = ap (λ o. members_within (json_or_null o)) read in
    (is, ap (λ o. is_some (option_and_then (λ p. of_members (members_within p.0) no_members) o)) read ∙ ap is_some e)

object_shape : (ts : List Token) (j : json.Json) (rest : List Token) → Token.begin_object ∷ ts ≡ json_tokens j ++ rest
    → (ms : json.Members) × (j ≡ json.object ms)
object_shape ts json.null rest e = let f : Token.begin_object ∷ ts ≡ Token.null ∷ rest = e in absurd (cc)
object_shape ts (json.boolean b) rest e = let f : Token.begin_object ∷ ts ≡ Token.boolean b ∷ rest = e in absurd (cc)
object_shape ts (json.number s) rest e = let f : Token.begin_object ∷ ts ≡ Token.number s ∷ rest = e in absurd (cc)
object_shape ts (json.string s) rest e = let f : Token.begin_object ∷ ts ≡ Token.string s ∷ rest = e in absurd (cc)
object_shape ts (json.array js) rest e =
    let f : Token.begin_object ∷ ts ≡ Token.begin_array ∷ (items_tokens js ++ rest) = e in absurd (cc)
object_shape ts (json.object ms) rest e = (ms, refl)

known_members_at : (ts : List Token) (o : Option (json.Json × List Token)) (p : Option Members)
    → json.value 127 (Token.begin_object ∷ ts) ≡ o
    → option_and_then (λ x. of_members (members_within x.0) no_members) o ≡ p → IsSome p → KnownMembers ts
unfolding json_members text_json
known_members_at ts o None is e h = absurd (true≢false (sym h))
known_members_at ts None (Some all) is e h = not_found all e
known_members_at ts (Some (j, rest)) (Some all) is e h =
    let s = object_shape ts j rest (value-json_tokens_back 127 (Token.begin_object ∷ ts) rest j is) in
    let whole : json.value 127 (Token.begin_object ∷ ts) ≡ Some (json.object s.0, rest) =
    is ∙ ap (λ x. Some (x, rest)) s.1 in
    let same : members_within (json_or_null (json.value 127 (Token.begin_object ∷ ts))) ≡ s.0 =
    ap (λ o. members_within (json_or_null o)) whole in
    let members_are : of_members s.0 no_members ≡ Some all =
    ap (λ x. of_members (members_within x) no_members) (sym s.1) ∙ e in
    let shallow : members_depth s.0 ≤ 126 =
    omega (arith, value-depth 127 (Token.begin_object ∷ ts) rest (json.object s.0) whole) in
    record {
      inside = subst (InMembers ts) (sym same) (opened (Token.begin_object ∷ ts) (json.object s.0) (127, rest, whole));
      nests = subst (λ x. members_depth x ≤ 126) (sym same) shallow;
      all = all;
      means = ap (λ x. of_members x no_members) same ∙ members_are;
    }

pub known_members : (ts : List Token) → StandsMembers ts → KnownMembers ts
unfolding text_members_read
known_members ts h = known_members_at ts (json.value 127 (Token.begin_object ∷ ts)) (text_members_read ts) refl refl h
