-- What a look into a text finds, in the data that the text stands for.
use Rattle.std.proofs.Common.{◌≡◌, ◌≤◌, ◌<◌, ℕ, suc, List, Option, Some, None, IfNone, MatchOption, is_some, option_map}
use Rattle.std.proofs.Common.{option_and_then, sym, ap, ◌∙◌, subst, arith}
use Rattle.json.specs.Token.{Token}
use Rattle.json.specs.Json as json
use Rattle.json.specs.Find as find
use Rattle.json.specs.Find.{BeginsWith, InItems, InMembers, NextItem, NextMember, Finds}
use Rattle.json.specs.Tree.{depth, items_depth, members_depth}
use Rattle.serde_json.specs.Data.{Members, no_items, item, no_members, object, put}
use Rattle.serde_json.specs.Find.{get, as_array, as_object}
use Rattle.serde_json.specs.Read.{of_json, of_items, of_members}
use Rattle.lsp_json.specs.Text.{items_or_none, text_json, json_items, json_members, text_data, text_items, text_members}
use Rattle.lsp_json.specs.Text.{text_depth, text_items_depth, text_members_depth, Stands, StandsItems, StandsMembers}
use Rattle.lsp_json.proofs.Text.{known, known_items, known_members, stands, stands_items, stands_members}
use Rattle.lsp_json.proofs.Views.{get_none, get_some, array-of_json, item-of_items, no_object-of_json, object-of_json}
use Rattle.lsp_json.proofs.Views.{member-of_members, any_members}

pub got_none : (ts : List Token) (name : List ℕ) → Stands ts → find.get name (text_json ts) ≡ None
    → None ≡ get name (text_data ts)
got_none ts name h e = get_none name (text_json ts) (text_data ts) (known ts h).means e

pub got : (ts r : List Token) (name : List ℕ) → Stands ts → Finds (Some r) (find.get name (text_json ts))
    → Stands r × (Some (text_data r) ≡ get name (text_data ts))
got ts r name h f =
    let k = known ts h in
    let g = get_some name (text_json ts) f.0 (text_data ts) k.means f.1 in
    let s = stands r f.0 g.0 f.2 (omega (arith, g.2, k.nests)) g.1 in
    (s.2, ap Some s.1 ∙ g.3)

-- ---- the items of an array

abbrev pub OpensArray : List Token → List Token → Type 0
OpensArray ts r = (js : json.Items) × (text_json ts ≡ json.array js) × InItems r js

pub items_of : (ts r : List Token) → Stands ts → OpensArray ts r
    → StandsItems r × (Some (text_items r) ≡ as_array (text_data ts)) × (text_items_depth r < text_depth ts)
unfolding text_depth text_items_depth
items_of ts r h f =
    let k = known ts h in
    let a = array-of_json f.0 (text_data ts) (ap of_json (sym f.1) ∙ k.means) in
    let deep : depth (text_json ts) ≡ suc (items_depth f.0) = ap depth f.1 in
    let s = stands_items r f.0 a.0 f.2 (omega (arith, k.nests, deep)) a.1 in
    let same : items_depth (json_items r) ≡ items_depth f.0 = ap items_depth s.0 in
    (s.2, ap Some s.1 ∙ ap as_array a.2, omega (arith, deep, same))

pub no_next_item : (old new : List Token) → StandsItems old → NextItem old None new → text_items old ≡ no_items
unfolding text_items
no_next_item old new h next =
    let k = known_items old h in
    ap (λ js. items_or_none (of_items js)) (next (json_items old) k.inside)

pub record ItemStep (old r new : List Token) : Type 0 where
  pub here : Stands r
  pub later : StandsItems new
  pub value : text_items old ≡ item (text_data r) (text_items new)
  pub deep : text_depth r ≤ text_items_depth old
  pub deep_later : text_items_depth new ≤ text_items_depth old

pub next_item : (old r new : List Token) → StandsItems old → NextItem old (Some r) new → ItemStep old r new
unfolding text_depth text_items_depth
next_item old r new h next =
    let k = known_items old h in
    let n = next (json_items old) k.inside in
    let i = item-of_items n.0 n.1 (text_items old) (ap of_items (sym n.2) ∙ k.means) in
    let deep : items_depth (json_items old) ≡ items_depth (json.item n.0 n.1) = ap items_depth n.2 in
    let first : depth n.0 ≤ items_depth (json.item n.0 n.1) = omega arith in
    let second : items_depth n.1 ≤ items_depth (json.item n.0 n.1) = omega arith in
    let here = stands r n.0 i.0 n.3 (omega (arith, k.nests, deep, first)) i.2 in
    let later = stands_items new n.1 i.1 n.4 (omega (arith, k.nests, deep, second)) i.3 in
    record {
      here = here.2;
      later = later.2;
      value = i.4 ∙ ap (λ d. item d i.1) (sym here.1) ∙ ap (item (text_data r)) (sym later.1);
      deep = omega (arith, deep, first, ap depth here.0);
      deep_later = omega (arith, deep, second, ap items_depth later.0);
    }

-- ---- the members of an object

abbrev pub OpensObject : List Token → List Token → Type 0
OpensObject ts r = (ms : json.Members) × (text_json ts ≡ json.object ms) × InMembers r ms

pub record Opened (ts r : List Token) : Type 0 where
  pub later : StandsMembers r
  pub all : Members
  pub value : text_members r no_members ≡ Some all
  pub whole : object all ≡ text_data ts
  pub deep : text_members_depth r < text_depth ts

pub members_of : (ts r : List Token) → Stands ts → OpensObject ts r → Opened ts r
unfolding text_depth text_members_depth text_members
members_of ts r h f =
    let k = known ts h in
    let a = object-of_json f.0 (text_data ts) (ap of_json (sym f.1) ∙ k.means) in
    let deep : depth (text_json ts) ≡ suc (members_depth f.0) = ap depth f.1 in
    let s = stands_members r f.0 a.0 f.2 (omega (arith, k.nests, deep)) a.1 in
    record {
      later = s.1;
      all = a.0;
      value = ap (λ ms. of_members ms no_members) s.0 ∙ a.1;
      whole = a.2;
      deep = omega (arith, deep, ap members_depth s.0);
    }

pub no_next_member : (old new : List Token) (found : Members) → StandsMembers old → NextMember old None new
    → text_members old found ≡ Some found
unfolding text_members
no_next_member old new found h next =
    let k = known_members old h in
    ap (λ ms. of_members ms found) (next (json_members old) k.inside)

pub record MemberStep (old : List Token) (key : List ℕ) (r new : List Token) : Type 0 where
  pub here : Stands r
  pub later : StandsMembers new
  pub value : (found : Members) → text_members old found ≡ text_members new (put key (text_data r) found)
  pub deep : text_depth r ≤ text_members_depth old
  pub deep_later : text_members_depth new ≤ text_members_depth old

pub next_member : (old : List Token) (key : List ℕ) (r new : List Token) → StandsMembers old
    → NextMember old (Some (key, r)) new → MemberStep old key r new
unfolding text_depth text_members_depth text_members
next_member old key r new h next =
    let k = known_members old h in
    let n = next (json_members old) k.inside in
    let i = member-of_members key n.0 n.1 no_members k.all (ap (λ ms. of_members ms no_members) (sym n.2) ∙ k.means) in
    let deep : members_depth (json_members old) ≡ members_depth (json.member key n.0 n.1) = ap members_depth n.2 in
    let first : depth n.0 ≤ members_depth (json.member key n.0 n.1) = omega arith in
    let second : members_depth n.1 ≤ members_depth (json.member key n.0 n.1) = omega arith in
    let here = stands r n.0 i.0 n.3 (omega (arith, k.nests, deep, first)) i.1 in
    let alone = any_members n.1 (put key i.0 no_members) no_members k.all i.2 in
    let later = stands_members new n.1 alone.0 n.4 (omega (arith, k.nests, deep, second)) alone.1 in
    record {
      here = here.2;
      later = later.1;
      value = λ found. ap (λ ms. of_members ms found) n.2
          ∙ ap (option_and_then (λ d. of_members n.1 (put key d found))) i.1
          ∙ ap (λ d. of_members n.1 (put key d found)) (sym here.1)
          ∙ ap (λ ms. of_members ms (put key (text_data r) found)) (sym later.0);
      deep = omega (arith, deep, first, ap depth here.0);
      deep_later = omega (arith, deep, second, ap members_depth later.0);
    }

-- ---- whether something was found or not

pub after_next_item : (old : List Token) (o : Option (List Token)) (new : List Token) → StandsItems old
    → NextItem old o new → IfNone o (new ≡ old) → StandsItems new
after_next_item old None new h next stays = subst StandsItems (sym stays) h
after_next_item old (Some r) new h next stays = (next_item old r new h next).later

pub after_next_member : {A : Type 0} (f : A → List ℕ × List Token) (old : List Token) (o : Option A) (new : List Token)
    → StandsMembers old → NextMember old (option_map f o) new → IfNone o (new ≡ old) → StandsMembers new
after_next_member f old None new h next stays = subst StandsMembers (sym stays) h
after_next_member f old (Some m) new h next stays = (next_member old (f m).0 (f m).1 new h next).later

pub is_object_of : (ts : List Token) (o : Option (List Token)) → Stands ts
    → MatchOption o (find.as_object (text_json ts) ≡ None) (OpensObject ts)
    → is_some o ≡ is_some (as_object (text_data ts))
is_object_of ts None h e = ap is_some (no_object-of_json _ _ (known ts h).means e)
is_object_of ts (Some r) h f = ap (λ d. is_some (as_object d)) (members_of ts r h f).whole
