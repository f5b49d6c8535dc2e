-- The open requests, as their numbers find them.
use Rattle.std.proofs.Common.{◌≡◌, ◌+◌, ℕ, Bool, true, false, cond, ◌||◌, ◌&&◌, List, [], ◌∷◌, ◌++◌, Some, None}
use Rattle.std.proofs.Common.{refl, sym, ap, ◌∙◌, subst}
use Rattle.std.specs.BTreeMap.{get, is_at}
use Rattle.std.specs.List.{list_any}
use Rattle.std.specs.Map.{remove_entry, values_of}
use Rattle.std.specs.Ordering.{nat_cmp}
use Rattle.std.specs.Prelude.{find, is_some, option_and_then}
use Rattle.lsp_message.specs.Id.{Id}
use Rattle.lsp_watch.proofs.Numbered as numbered
use Rattle.lsp_watch.specs.Indexed.{Use, by_id, by_work, by_part, by_created, is_found, numbers, numbers_of, asked_in}
use Rattle.lsp_watch.specs.Indexed.{IsIndexed, IsFresh, RisesTo, first_of, added, removed}
use Rattle.lsp_watch.specs.Log.{Open, is_for, is_id, other, same_direction, without_first}
use Rattle.lsp_watch.specs.Progress.{gives}
use Rattle.lsp_watch.specs.declared.direction.Direction.{Direction}
use Rattle.lsp_watch.specs.declared.direction.Direction.TheVariants.{ToServer, ToClient}
use Rattle.lsp_watch.specs.declared.requests.OpenRequests.{OpenRequests}

-- ---- what is found

pub found_first : (o : OpenRequests) (by : Use) → IsIndexed o → find (is_found by) (asked_in o)
    ≡ option_and_then (λ n. get nat_cmp o.requests n) (first_of (numbers o.numbers by))
found_first o by h = numbered.find_first (is_found by) 0 o.next o.requests.entries h.rises
    ∙ ap (λ ks. option_and_then (λ n. get nat_cmp o.requests n) (first_of ks)) (sym (h.lists by))

pub any_found : (o : OpenRequests) (by : Use) → IsIndexed o
    → list_any (is_found by) (asked_in o) ≡ is_some (first_of (numbers o.numbers by))
any_found o by h = numbered.any_first (is_found by) o.requests.entries
    ∙ ap (λ ks. is_some (first_of ks)) (sym (h.lists by))

-- ---- who gives a token

gives_is : (direction : Direction) (name : Id) (o : Open) → gives direction name o
    ≡ (is_found (by_created direction name) o
    || (is_found (by_work (other direction) name) o || is_found (by_part (other direction) name) o))
gives_is direction name o = by direction o.direction (is_id name o.created) (is_id name o.work) (is_id name o.part)
  where
    none : (b : Bool) → b ≡ (b || false)
    none true = refl
    none false = refl

    by : (direction own : Direction) (c w p : Bool) → cond (same_direction own direction) c (w || p)
        ≡ ((same_direction direction own && c)
        || ((same_direction (other direction) own && w) || (same_direction (other direction) own && p)))
    by ToServer ToServer c w p = none c
    by ToServer ToClient c w p = refl
    by ToClient ToServer c w p = refl
    by ToClient ToClient c w p = none c

mix : (g h k x y z : Bool) → ((g || (h || k)) || (x || (y || z))) ≡ ((g || x) || ((h || y) || (k || z)))
mix true h k x y z = refl
mix false true k true y z = refl
mix false true k false y z = refl
mix false false true true y z = refl
mix false false true false true z = refl
mix false false true false false z = refl
mix false false false x y z = refl

module _ (f g h k : Open → Bool) (is : (o : Open) → f o ≡ (g o || (h o || k o))) where
  any_of : (os : List Open) → list_any f os ≡ (list_any g os || (list_any h os || list_any k os))
  any_of [] = refl
  any_of (o ∷ os) = ap (λ b. b || list_any f os) (is o) ∙ ap (λ b. (g o || (h o || k o)) || b) (any_of os)
      ∙ mix (g o) (h o) (k o) (list_any g os) (list_any h os) (list_any k os)

pub given : (o : OpenRequests) (direction : Direction) (name : Id) → IsIndexed o
    → list_any (gives direction name) (asked_in o)
    ≡ (is_some (first_of (numbers o.numbers (by_created direction name)))
    || (is_some (first_of (numbers o.numbers (by_work (other direction) name)))
    || is_some (first_of (numbers o.numbers (by_part (other direction) name)))))
given o direction name h = any_of (gives direction name) (is_found (by_created direction name))
    (is_found (by_work (other direction) name))
    (is_found (by_part (other direction) name)) (gives_is direction name) (asked_in o)
    ∙ ap (λ b. b || (list_any (is_found (by_work (other direction) name)) (asked_in o)
    || list_any (is_found (by_part (other direction) name)) (asked_in o))) (any_found o (by_created direction name) h)
    ∙ ap (λ b. is_some (first_of (numbers o.numbers (by_created direction name)))
    || (b || list_any (is_found (by_part (other direction) name)) (asked_in o)))
    (any_found o (by_work (other direction) name) h)
    ∙ ap (λ b. is_some (first_of (numbers o.numbers (by_created direction name)))
    || (is_some (first_of (numbers o.numbers (by_work (other direction) name))) || b))
    (any_found o (by_part (other direction) name) h)

-- ---- one more

pub fresh_in : (o : OpenRequests) → IsIndexed o → (by : Use) → IsFresh o.next (numbers o.numbers by)
fresh_in o h by = subst (λ ks. IsFresh o.next ks) (sym (h.lists by))
    (numbered.fresh (is_found by) 0 o.next o.requests.entries h.rises)

pub undone : (b : Bool) (n : ℕ) (ks : List ℕ) → IsFresh n ks → removed b n (added b n ks) ≡ ks
undone true n ks h = h.1
undone false n ks h = refl

pub pushed : (o n : OpenRequests) (asked : Open) → IsIndexed o
    → n.requests.entries ≡ o.requests.entries ++ (o.next, asked) ∷ []
    → ((by : Use) → numbers n.numbers by ≡ added (is_found by asked) o.next (numbers o.numbers by))
    → n.next ≡ o.next + 1 → IsIndexed n
pushed o n asked h is noted next = record {
  rises = subst (λ es. RisesTo 0 n.next es) (sym is)
      (subst (λ k. RisesTo 0 k (o.requests.entries ++ (o.next, asked) ∷ [])) (sym next)
      (numbered.rises_push 0 o.next o.requests.entries asked h.rises));
  lists = λ by. noted by ∙ ap (added (is_found by asked) o.next) (h.lists by)
      ∙ sym (numbered.numbers_last (is_found by) 0 o.next o.requests.entries asked h.rises)
      ∙ ap (numbers_of (is_found by)) (sym is);
}

-- ---- one less

module _ (o : OpenRequests) (direction : Direction) (id : Id) where
  pub nobody : IsIndexed o
      → None ≡ option_and_then (λ n. get nat_cmp o.requests n) (first_of (numbers o.numbers (by_id direction id)))
      → asked_in o ≡ without_first (is_for direction id) (asked_in o)
  nobody h none = sym (numbered.none_goes (is_for direction id) (asked_in o) (found_first o (by_id direction id) h
      ∙ sym none))

  pub first_leaves : (n : ℕ) → IsIndexed o → Some n ≡ first_of (numbers o.numbers (by_id direction id))
      → values_of (remove_entry (is_at (nat_cmp n)) o.requests.entries)
      ≡ without_first (is_for direction id) (asked_in o)
  first_leaves n h is = numbered.first_goes (is_for direction id) 0 o.next n o.requests.entries h.rises
      (ap first_of (sym (h.lists (by_id direction id))) ∙ sym is)

pub left : (o n : OpenRequests) (k : ℕ) (asked : Open) → IsIndexed o → Some asked ≡ get nat_cmp o.requests k
    → n.requests.entries ≡ remove_entry (is_at (nat_cmp k)) o.requests.entries
    → ((by : Use) → numbers n.numbers by ≡ removed (is_found by asked) k (numbers o.numbers by))
    → n.next ≡ o.next → IsIndexed n
left o n k asked h there is gone next = record {
  rises = subst (λ es. RisesTo 0 n.next es) (sym is)
      (subst (λ e. RisesTo 0 e (remove_entry (is_at (nat_cmp k)) o.requests.entries)) (sym next)
      (numbered.rises_less k 0 o.next o.requests.entries h.rises));
  lists = λ by. gone by ∙ ap (removed (is_found by asked) k) (h.lists by)
      ∙ sym (numbered.numbers_less (is_found by) k asked o.requests.entries (sym there))
      ∙ ap (numbers_of (is_found by)) (sym is);
}
