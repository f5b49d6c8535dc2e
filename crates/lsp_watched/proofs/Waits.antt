-- Whether a request waits after one more message, and which messages fit.
use Rattle.std.proofs.Common.{◌≡◌, Bool, true, false, cond, ◌&&◌, ◌||◌, List, [], ◌∷◌, Option, Some, None, is_some}
use Rattle.std.proofs.Common.{refl, sym, ap, ◌∙◌, option_map, ℕ, subst, ◌++◌, ◌⊎◌, inl, inr}
use Rattle.std.proofs.lemmas.List.{append-nil}
use Rattle.lsp_message.specs.Id.{Id, same_id}
use Rattle.lsp_message.specs.Message.{Message, request, notification, response}
use Rattle.lsp_watch.specs.CleanLog.{AtEach}
use Rattle.lsp_watch.specs.Log.{
  Log,
  Passed,
  Open,
  passed,
  other,
  same_direction,
  is_request,
  is_reply,
  waiting,
  request_of,
}
use Rattle.lsp_watch.proofs.Queues.{first, rest, queue, waiting_is, queue_request, queue_notification, queue_reply}
use Rattle.lsp_watch.proofs.Queues.{other_directions, same_direction_is}
use Rattle.lsp_message.proofs.Ids.{same_is}
use Rattle.lsp_watch.specs.Rules.{id_finding, reply_finding}
use Rattle.lsp_watch.specs.declared.direction.Direction.{Direction}

-- ---- a log, message by message

pub at_each_none : (P : Log → Passed → Type 0) → AtEach P []
at_each_none P [] before p is = cc
at_each_none P (x ∷ later) before p is = cc

pub at_each_more : (P : Log → Passed → Type 0) (p : Passed) (log : Log) → P log p → AtEach P log → AtEach P (p ∷ log)
at_each_more P p log here there [] before q is =
    let same : p ≡ q = cc in
    let rest : log ≡ before = cc in
    subst (λ l. P l q) rest (subst (P log) same here)
at_each_more P p log here there (x ∷ later) before q is = there later before q cc

-- ---- what waits

-- the last message of this direction and id is a request: so it waits, if each comes where none waits
abbrev pub waits : Direction → Id → Log → Bool
waits direction id [] = false
waits direction id (p ∷ before) = cond (is_reply direction id p) false (is_request direction id p
    || waits direction id before)

and_false : (b : Bool) → (b && false) ≡ false
and_false true = refl
and_false false = refl

module _ (direction went : Direction) (id : Id) (place : ℕ) (before : Log) where
  pub after_request : (key : Id) (method : List ℕ) (params : _)
      → waits direction id (passed went place (request key method params) ∷ before)
      ≡ ((same_direction direction went && same_id id key) || waits direction id before)
  after_request key method params =
      ap (λ b. cond b false ((same_direction direction went && same_id id key) || waits direction id before))
      (and_false (same_direction (other direction) went))

  pub after_notification : (method : List ℕ) (params : _)
      → waits direction id (passed went place (notification method params) ∷ before) ≡ waits direction id before
  after_notification method params =
      ap (λ b. cond b false ((same_direction direction went && false) || waits direction id before))
      (and_false (same_direction
      (other direction) went))
      ∙ ap (λ b. b || waits direction id before) (and_false (same_direction direction went))

  pub after_reply : (key : Id) (outcome : _) → waits direction id (passed went place (response key outcome) ∷ before)
      ≡ cond (same_direction (other direction) went && same_id id key) false (waits direction id before)
  after_reply key outcome =
      ap (λ b. cond (same_direction (other direction) went && same_id id key) false (b || waits direction id before))
      (and_false (same_direction direction went))

-- ---- it does wait

module _ (direction : Direction) (id : Id) where
  abbrev some_waits : Log → Bool
  some_waits log = is_some (first (queue direction id log))

  or_more : (a b c : Bool) → (b ≡ true → c ≡ true) → (a || b) ≡ true → (a || c) ≡ true
  or_more true b c more e = refl
  or_more false b c more e = more e

  some_push : (xs : List Open) (b : Bool) (r : Open) → (b || is_some (first xs)) ≡ true
      → is_some (first (xs ++ cond b (r ∷ []) [])) ≡ true
  some_push [] true r e = refl
  some_push [] false r e = e
  some_push (x ∷ xs) b r e = refl

  at_reply : (b : Bool) (w : Bool) (xs : List Open) → (w ≡ true → is_some (first xs) ≡ true) → cond b false w ≡ true
      → is_some (first (cond b (rest xs) xs)) ≡ true
  at_reply true w xs more e = cc
  at_reply false w xs more e = more e

  pub does_wait : (log : Log) → waits direction id log ≡ true → some_waits log ≡ true
  does_wait [] e = cc
  does_wait (p ∷ before) e = by p.direction p.place p.message (does_wait before) e
    where
      by : (went : Direction) (place : ℕ) (m : Message) → (waits direction id before ≡ true → some_waits before ≡ true)
          → waits direction id (passed went place m ∷ before) ≡ true → some_waits (passed went place m ∷ before) ≡ true
      by went place (request i method params) more e =
          ap (λ xs. is_some (first xs)) (queue_request direction id went place before i method params)
          ∙ some_push (queue direction id before) (same_direction direction went && same_id id i)
          (request_of went place i method params)
          (or_more (same_direction direction went && same_id id i) (waits direction id before)
          (some_waits before) more (sym (after_request direction went id place before i method params) ∙ e))
      by went place (notification method params) more e =
          more (sym (after_notification direction went id place before method params) ∙ e)
      by went place (response i outcome) more e =
          ap (λ xs. is_some (first xs)) (queue_reply direction id went place before i outcome)
          ∙ ap (λ b. is_some (first (cond (b && same_id id i) (rest (queue direction id before))
          (queue direction id before))))
          (other_directions direction went)
          ∙ at_reply (same_direction (other direction) went && same_id id i) (waits direction id before)
          (queue direction id before) more
          (sym (after_reply direction went id place before i outcome) ∙ e)

  -- where none waits, the last message is no request
  pub none_asks : (log : Log) → waiting direction id log ≡ None → waits direction id log ≡ false
  none_asks log none = by (waits direction id log) refl
    where
      by : (b : Bool) → waits direction id log ≡ b → waits direction id log ≡ false
      by false e = e
      by true e =
          let bad : false ≡ true = ap (λ (o : Option Open). is_some o) (sym none ∙ waiting_is direction id log)
          ∙ does_wait log e in
          cc

-- ---- logs in which each request comes where none waits

abbrev pub FitsIds : Log → Type 0
FitsIds log = AtEach (λ before p. id_finding before p.direction p.message ≡ None) log

module _ (direction : Direction) (id : Id) where
  -- none waits, or one
  abbrev pub AtMostOne : Log → Type 0
  AtMostOne log = ((queue direction id log ≡ []) × (waits direction id log ≡ false))
      ⊎ ((r : Open) × (queue direction id log ≡ r ∷ []) × (waits direction id log ≡ true))

  none_first : (xs : List Open) → first xs ≡ None → xs ≡ []
  none_first [] e = refl
  none_first (x ∷ xs) e = cc

  unmapped : {A B : Type 0} (f : A → B) (o : Option A) → option_map f o ≡ None → o ≡ None
  unmapped f None e = refl
  unmapped f (Some x) e = cc

  parts_of : (a b : Bool) → (a && b) ≡ true → (a ≡ true) × (b ≡ true)
  parts_of true b e = (refl, e)
  parts_of false b e = cc

  rest_of : (before : Log) → AtMostOne before → rest (queue direction id before) ≡ []
  rest_of before (inl none) = ap rest none.0
  rest_of before (inr one) = ap rest one.1

  same : (p : Passed) (before : Log) → queue direction id (p ∷ before) ≡ queue direction id before
      → waits direction id (p ∷ before) ≡ waits direction id before → AtMostOne before → AtMostOne (p ∷ before)
  same p before q w (inl none) = inl (q ∙ none.0, w ∙ none.1)
  same p before q w (inr one) = inr (one.0, q ∙ one.1, w ∙ one.2)

  step : (went : Direction) (place : ℕ) (m : Message) (before : Log) → id_finding before went m ≡ None → AtMostOne
      before
      → AtMostOne (passed went place m ∷ before)
  step went place (notification method params) before fits one = same (passed went place (notification method params))
      before (queue_notification direction id went place before method params)
      (after_notification direction went id place before method params) one
  step went place (request i method params) before fits one = by (same_direction direction went && same_id id i) refl
    where
      by : (b : Bool) → (same_direction direction went && same_id id i) ≡ b
          → AtMostOne (passed went place (request i method params) ∷ before)
      by true is =
          let both = parts_of (same_direction direction went) (same_id id i) is in
          let none : waiting direction id before ≡ None =
          ap (λ w. waiting w id before) (sym (same_direction_is direction went both.0))
          ∙ ap (λ k. waiting went k before) (same_is id i both.1)
          ∙ unmapped _ (waiting went i before) fits in
          inr (
            (request_of went place i method params),
            queue_request direction id went place before i method params
                ∙ ap (λ b. queue direction id before ++ cond b ((request_of went place i method params) ∷ []) []) is
                ∙ ap (λ xs. xs ++ (request_of went place i method params) ∷ []) (none_first (queue direction id before)
                (sym (waiting_is direction id before) ∙ none)),
            after_request direction went id place before i method params ∙ ap (λ b. b || waits direction id before) is,
          )
      by false is = same (passed went place (request i method params)) before
          (queue_request direction id went place before i method params
          ∙ ap (λ b. queue direction id before ++ cond b ((request_of went place i method params) ∷ []) []) is
          ∙ append-nil (queue direction id before))
          (after_request direction went id place before i method params ∙ ap (λ b. b || waits direction id before) is)
          one
  step went place (response i outcome) before fits one = by (same_direction (other direction) went && same_id id i) refl
    where
      replied : (b : Bool) → (same_direction (other direction) went && same_id id i) ≡ b
          → queue direction id (passed went place (response i outcome) ∷ before)
          ≡ cond b (rest (queue direction id before)) (queue direction id before)
      replied b is = queue_reply direction id went place before i outcome
          ∙ ap (λ c. cond (c && same_id id i) (rest (queue direction id before)) (queue direction id before))
          (other_directions direction went)
          ∙ ap (λ c. cond c (rest (queue direction id before)) (queue direction id before)) is

      by : (b : Bool) → (same_direction (other direction) went && same_id id i) ≡ b
          → AtMostOne (passed went place (response i outcome) ∷ before)
      by true is = inl (
        replied true is ∙ rest_of before one,
        after_reply direction went id place before i outcome ∙ ap (λ b. cond b false (waits direction id before)) is,
      )
      by false is = same (passed went place (response i outcome)) before (replied false is)
          (after_reply direction went id place before i outcome ∙ ap (λ b. cond b false (waits direction id before)) is)
          one

  pub at_most_one : (log : Log) → FitsIds log → AtMostOne log
  at_most_one [] fits = inl (refl, refl)
  at_most_one (p ∷ before) fits = step p.direction p.place p.message before (fits [] before p refl)
      (at_most_one before (λ later b q is. fits (p ∷ later) b q (ap (λ l. p ∷ l) is)))

  -- so where the last message is no request, none waits
  pub none_waits : (log : Log) → FitsIds log → waits direction id log ≡ false → waiting direction id log ≡ None
  none_waits log fits quiet = by (at_most_one log fits)
    where
      by : AtMostOne log → waiting direction id log ≡ None
      by (inl none) = waiting_is direction id log ∙ ap first none.0
      by (inr one) = let bad : false ≡ true = sym quiet ∙ one.2 in cc

-- ---- what fits

none_found : {A B : Type 0} (f : A → B) (o : Option A) → o ≡ None → option_map f o ≡ None
none_found f o e = ap (option_map f) e

pub request_fits : (before : Log) (direction : Direction) (id : Id) (method : List ℕ) (params : _)
    → waiting direction id before ≡
    None
    → id_finding before direction (request id method params) ≡ None
request_fits before direction id method params none = none_found _ _ none

pub one_found : (o : Option Open) → is_some o ≡ true → reply_finding o ≡ None
one_found None e = cc
one_found (Some x) e = refl

pub reply_fits : (before : Log) (direction : Direction) (id : Id) (outcome : _) → waits (other direction) id before
    ≡ true
    → id_finding before direction (response id outcome) ≡ None
reply_fits before direction id outcome one = one_found (waiting (other direction) id before)
    (ap (λ (o : Option Open). is_some o) (waiting_is (other direction) id before)
    ∙ does_wait (other direction) id before one)
