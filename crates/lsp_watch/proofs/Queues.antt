-- The requests of one direction and id that have no reply, message by message.
use Rattle.std.proofs.Common.{◌≡◌, Bool, true, false, cond, ◌&&◌, List, [], ◌∷◌, ◌++◌, Option, Some, None, refl, sym}
use Rattle.std.proofs.Common.{ap, ◌∙◌, ℕ}
use Rattle.std.specs.Prelude.{filter, find}
use Rattle.lsp_message.proofs.Ids.{same_is}
use Rattle.lsp_message.specs.Id.{Id, same_id}
use Rattle.lsp_message.specs.Message.{request, notification, response}
use Rattle.lsp_watch.specs.Log.{Log, Open, passed, other, same_direction, is_for, request_of, without_first}
use Rattle.lsp_watch.specs.Log.{open_of, waiting}
use Rattle.lsp_watch.specs.declared.direction.Direction.{Direction}
use Rattle.lsp_watch.specs.declared.direction.Direction.TheVariants.{ToServer, ToClient}

-- ---- lists

abbrev pub first : {A : Type 0} → List A → Option A
first [] = None
first (x ∷ xs) = Some x

abbrev pub rest : {A : Type 0} → List A → List A
rest [] = []
rest (x ∷ xs) = xs

module _ {A : Type 0} (p : A → Bool) where
  pub find_is : (xs : List A) → find p xs ≡ first (filter p xs)
  find_is [] = refl
  find_is (x ∷ xs) = by (p x) (find_is xs)
    where
      by : (b : Bool) → find p xs ≡ first (filter p xs)
          → cond b (Some x) (find p xs) ≡ first (cond b (x ∷ filter p xs) (filter p xs))
      by true e = refl
      by false e = e

  pub filter_push : (xs : List A) (y : A) → filter p (xs ++ y ∷ []) ≡ filter p xs ++ cond (p y) (y ∷ []) []
  filter_push [] y = refl
  filter_push (x ∷ xs) y = by (p x) (filter_push xs y)
    where
      by : (b : Bool) → filter p (xs ++ y ∷ []) ≡ filter p xs ++ cond (p y) (y ∷ []) []
          → cond b (x ∷ filter p (xs ++ y ∷ [])) (filter p (xs ++ y ∷ []))
          ≡ cond b (x ∷ filter p xs) (filter p xs) ++ cond (p y) (y ∷ []) []
      by true e = ap (λ zs. x ∷ zs) e
      by false e = e

  -- without its first, the others stay
  pub filter_own : (xs : List A) → filter p (without_first p xs) ≡ rest (filter p xs)
  filter_own [] = refl
  filter_own (x ∷ xs) = by (p x) refl (filter_own xs)
    where
      by : (b : Bool) → p x ≡ b → filter p (without_first p xs) ≡ rest (filter p xs)
          → filter p (cond b xs (x ∷ without_first p xs)) ≡ rest (cond b (x ∷ filter p xs) (filter p xs))
      by true is e = refl
      by false is e = ap (λ b. cond b (x ∷ filter p (without_first p xs)) (filter p (without_first p xs))) is ∙ e

  -- without one that is not such, all that are such stay
  pub filter_other : (q : A → Bool) → ((x : A) → q x ≡ true → p x ≡ false) → (xs : List A)
      → filter p (without_first q xs) ≡ filter p xs
  filter_other q apart [] = refl
  filter_other q apart (x ∷ xs) = by (q x) refl (filter_other q apart xs)
    where
      by : (b : Bool) → q x ≡ b → filter p (without_first q xs) ≡ filter p xs
          → filter p (cond b xs (x ∷ without_first q xs)) ≡ cond (p x) (x ∷ filter p xs) (filter p xs)
      by true is e = ap (λ b. cond b (x ∷ filter p xs) (filter p xs)) (sym (apart x is))
      by false is e = ap (λ zs. cond (p x) (x ∷ zs) zs) e

  -- where none is such, none goes
  pub none_goes : (xs : List A) → filter p xs ≡ [] → without_first p xs ≡ xs
  none_goes [] e = refl
  none_goes (x ∷ xs) e = by (p x) e (none_goes xs)
    where
      by : (b : Bool) → cond b (x ∷ filter p xs) (filter p xs) ≡ [] → (filter p xs ≡ [] → without_first p xs ≡ xs)
          → cond b xs (x ∷ without_first p xs) ≡ x ∷ xs
      by true e more = cc
      by false e more = ap (λ zs. x ∷ zs) (more e)

  -- the one that was put behind, where no other is such
  pub last_goes : (xs : List A) (y : A) → filter p xs ≡ [] → p y ≡ true → without_first p (xs ++ y ∷ []) ≡ xs
  last_goes [] y e is = ap (λ b. cond b [] (y ∷ [])) is
  last_goes (x ∷ xs) y e is = by (p x) e (last_goes xs y)
    where
      by : (b : Bool) → cond b (x ∷ filter p xs) (filter p xs) ≡ []
          → (filter p xs ≡ [] → p y ≡ true → without_first p (xs ++ y ∷ []) ≡ xs)
          → cond b (xs ++ y ∷ []) (x ∷ without_first p (xs ++ y ∷ [])) ≡ x ∷ xs
      by true e more = cc
      by false e more = ap (λ zs. x ∷ zs) (more e is)

-- ---- directions and ids

pub same_direction_is : (a b : Direction) → same_direction a b ≡ true → b ≡ a
same_direction_is ToServer ToServer e = refl
same_direction_is ToServer ToClient e = cc
same_direction_is ToClient ToServer e = cc
same_direction_is ToClient ToClient e = refl

pub same_direction_own : (a : Direction) → same_direction a a ≡ true
same_direction_own ToServer = refl
same_direction_own ToClient = refl

pub other_directions : (a b : Direction) → same_direction a (other b) ≡ same_direction (other a) b
other_directions ToServer ToServer = refl
other_directions ToServer ToClient = refl
other_directions ToClient ToServer = refl
other_directions ToClient ToClient = refl

pub both : (a b : Bool) → (a && b) ≡ true → (a ≡ true) × (b ≡ true)
both true b e = (refl, e)
both false b e = cc

pub and_true : (a b : Bool) → a ≡ true → b ≡ true → (a && b) ≡ true
and_true true b e f = f
and_true false b e f = cc

-- the requests of this direction and id that have no reply, the first first
abbrev pub queue : Direction → Id → Log → List Open
queue direction id log = filter (is_for direction id) (open_of log)

pub waiting_is : (direction : Direction) (id : Id) (log : Log) → waiting direction id log
    ≡ first (queue direction id log)
waiting_is direction id log = find_is (is_for direction id) (open_of log)

module _ (direction : Direction) (id : Id) (went : Direction) (place : ℕ) (before : Log) where
  pub queue_request : (i : Id) (method : List ℕ) (params : _)
      → queue direction id (passed went place (request i method params) ∷ before)
      ≡ queue direction id before ++ cond (same_direction direction went && same_id id i)
      (request_of went place i method params ∷ []) []
  queue_request i method params = filter_push (is_for direction id) (open_of before)
      (request_of went place i method params)

  pub queue_notification : (method : List ℕ) (params : _)
      → queue direction id (passed went place (notification method params) ∷ before) ≡ queue direction id before
  queue_notification method params = refl

  -- a reply to a request of this direction and id, and to another
  pub queue_reply : (i : Id) (outcome : _)
      → queue direction id (passed went place (response i outcome) ∷ before)
      ≡ cond (same_direction direction (other went) && same_id id i) (rest (queue direction id before))
      (queue direction id before)
  queue_reply i outcome = by (same_direction direction (other went) && same_id id i) refl
    where
      by : (b : Bool) → (same_direction direction (other went) && same_id id i) ≡ b
          → filter (is_for direction id) (without_first (is_for (other went) i) (open_of before))
          ≡ cond b (rest (queue direction id before)) (queue direction id before)
      by true is =
          let parts = both (same_direction direction (other went)) (same_id id i) is in
          let direction_is : other went ≡ direction = same_direction_is direction (other went) parts.0 in
          let id_is : id ≡ i = same_is id i parts.1 in
          ap (λ w. filter (is_for direction id) (without_first (is_for w i) (open_of before))) direction_is
          ∙ ap (λ k. filter (is_for direction id) (without_first (is_for direction k) (open_of before))) (sym id_is)
          ∙ filter_own (is_for direction id) (open_of before)
      by false is = filter_other (is_for direction id) (is_for (other went) i) apart (open_of before)
        where
          apart : (o : Open) → is_for (other went) i o ≡ true → is_for direction id o ≡ false
          apart o at =
              let parts = both (same_direction (other went) o.direction) (same_id i o.id) at in
              let direction_is : o.direction ≡ other went = same_direction_is (other went) o.direction parts.0 in
              let id_is : i ≡ o.id = same_is i o.id parts.1 in
              ap (λ w. same_direction direction w && same_id id o.id) direction_is
              ∙ ap (λ k. same_direction direction (other went) && same_id id k) (sym id_is) ∙ is
