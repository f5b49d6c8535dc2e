-- A value whose tokens fit is one that serde_json reads.
use Rattle.std.proofs.Common.{◌≡◌, ℕ, zero, suc, ◌≤◌, List, ◌∷◌, ◌++◌, Option, Some, None, option_map, option_and_then}
use Rattle.std.proofs.Common.{refl, sym, ap, ◌∙◌, arith, append_assoc, ◌+◌, ◌<◌, length, drop, get_or, map, add-one}
use Rattle.std.proofs.Common.{drop-cons, drop_of_length-le}
use Rattle.json.specs.Token.{Token}
use Rattle.json.specs.Json as json
use Rattle.json.specs.Tree.{json_tokens, items_tokens, members_tokens, depth, items_depth, members_depth}
use Rattle.json.proofs.Found.{not_found}
use Rattle.serde_json.specs.Data.{Num, Data, null, boolean, number, string, array, object, Items, no_items, item}
use Rattle.serde_json.specs.Data.{Members, no_members, put}
use Rattle.serde_json.specs.Read.{number_of, of_json, of_items, of_members}
use Rattle.json.specs.Tape.{node_token}
use Rattle.json.specs.declared.tape.Node.{Node}
use Rattle.lsp_json.specs.Fits.{left_after, left_after_all}

-- the value is read, no deeper than n, and m is left after the rest
pub record Fit (j : json.Json) (rest : List Token) (n m : ℕ) : Type 0 where
  pub nests : depth j ≤ n
  pub data_ : Data
  pub is : of_json j ≡ Some data_
  pub later : left_after_all rest n ≡ Some m

pub record FitItems (js : json.Items) (rest : List Token) (n m : ℕ) : Type 0 where
  pub nests : items_depth js ≤ n
  pub items : Items
  pub is : of_items js ≡ Some items
  pub later : left_after_all rest (suc n) ≡ Some m

pub record FitMembers (ms : json.Members) (rest : List Token) (n m : ℕ) : Type 0 where
  pub nests : members_depth ms ≤ n
  pub is : (found : Members) → (all : Members) × (of_members ms found ≡ Some all)
  pub later : left_after_all rest (suc n) ≡ Some m

number_fits : (s : List ℕ) (rest : List Token) (n m : ℕ) (o : Option Num) → number_of s ≡ o
    → option_and_then (left_after_all rest) (option_map (λ x. n) o) ≡ Some m → Fit (json.number s) rest n m
number_fits s rest n m None is e = not_found m e
number_fits s rest n m (Some x) is e =
    record { nests = omega arith; data_ = number x; is = ap (option_map number) is; later = e }

mutual
  unfolding left_after_all

  pub fit : (j : json.Json) (rest : List Token) (n m : ℕ) → left_after_all (json_tokens j ++ rest) n ≡ Some m
      → Fit j rest n m
  fit json.null rest n m e = record { nests = omega arith; data_ = null; is = refl; later = e }
  fit (json.boolean b) rest n m e = record { nests = omega arith; data_ = boolean b; is = refl; later = e }
  fit (json.number s) rest n m e = number_fits s rest n m (number_of s) refl e
  fit (json.string s) rest n m e = record { nests = omega arith; data_ = string s; is = refl; later = e }
  fit (json.array js) rest zero m e = not_found m e
  fit (json.array js) rest (suc n) m e =
      let f = fit_items js rest n m e in
      record { nests = omega (arith, f.nests); data_ = array f.items; is = ap (option_map array) f.is; later = f.later }
  fit (json.object ms) rest zero m e = not_found m e
  fit (json.object ms) rest (suc n) m e =
      let f = fit_members ms rest n m e in
      let all = f.is no_members in
      record {
        nests = omega (arith, f.nests);
        data_ = object all.0;
        is = ap (option_map object) all.1;
        later = f.later;
      }

  fit_items : (js : json.Items) (rest : List Token) (n m : ℕ) → left_after_all (items_tokens js ++ rest) n ≡ Some m
      → FitItems js rest n m
  fit_items json.no_items rest n m e = record { nests = omega arith; items = no_items; is = refl; later = e }
  fit_items (json.item j js) rest n m e =
      let here = fit j (items_tokens js ++ rest) n m
      (ap (λ ts. left_after_all ts n) (sym (append_assoc (json_tokens j) (items_tokens js) rest)) ∙ e) in
      let more = fit_items js rest n m here.later in
      record {
        nests = omega (arith, here.nests, more.nests);
        items = item here.data_ more.items;
        is = ap (option_and_then (λ d. option_map (item d) (of_items js))) here.is
            ∙ ap (option_map (item here.data_)) more.is;
        later = more.later;
      }

  fit_members : (ms : json.Members) (rest : List Token) (n m : ℕ)
      → left_after_all (members_tokens ms ++ rest) n ≡ Some m → FitMembers ms rest n m
  fit_members json.no_members rest n m e = record { nests = omega arith; is = λ found. (found, refl); later = e }
  fit_members (json.member k j ms) rest n m e =
      let here = fit j (members_tokens ms ++ rest) n m
      (ap (λ ts. left_after_all ts n) (sym (append_assoc (json_tokens j) (members_tokens ms) rest)) ∙ e) in
      let more = fit_members ms rest n m here.later in
      record {
        nests = omega (arith, here.nests, more.nests);
        is = λ found. let all = more.is (put k here.data_ found) in
            (all.0, ap (option_and_then (λ d. of_members ms (put k d found))) here.is ∙ all.1);
        later = more.later;
      }

-- ---- a node after another

pub next_node : (nodes : List Node) (i left after : ℕ) (d : Node) → i < length nodes
    → left_after left (node_token (get_or nodes i d)) ≡ Some after
    → left_after_all (map node_token (drop i nodes)) left ≡ left_after_all (map node_token (drop (i + 1) nodes)) after
unfolding left_after_all
next_node nodes i left after d h e =
    let cut : drop i nodes ≡ get_or nodes i d ∷ drop (i + 1) nodes = rw add-one (drop-cons nodes i d h) in
    ap (λ x. left_after_all (map node_token x) left) cut
    ∙ ap (option_and_then (left_after_all (map node_token (drop (i + 1) nodes)))) e

pub no_more_nodes : (nodes : List Node) (i left : ℕ) → length nodes ≤ i
    → left_after_all (map node_token (drop i nodes)) left ≡ Some left
unfolding left_after_all
no_more_nodes nodes i left h = ap (λ x. left_after_all (map node_token x) left) (drop_of_length-le nodes h)
