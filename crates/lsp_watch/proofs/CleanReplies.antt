-- Each reply of a clean log has its request.
use Rattle.std.proofs.Common.{◌≡◌, ◌⊎◌, inl, inr, Bool, true, false, cond, ◌&&◌, ◌||◌, List, [], ◌∷◌, ◌++◌, Option}
use Rattle.std.proofs.Common.{Some, None}
use Rattle.std.proofs.Common.{refl, sym, ap, ◌∙◌, subst, option_map, ℕ}
use Rattle.std.proofs.lemmas.List.{append_assoc, append-nil}
use Rattle.std.specs.List.{list_any}
use Rattle.std.specs.Option.{option_or}
use Rattle.lsp_message.specs.Id.{Id, same_id}
use Rattle.lsp_message.specs.IdLaws.{id_decides}
use Rattle.lsp_message.specs.Message.{Message, request, notification, response}
use Rattle.lsp_watch.specs.CleanLog.{IsClean, IsAsked, RepliesOnce}
use Rattle.lsp_watch.specs.Log.{
  Log,
  Passed,
  Open,
  passed,
  other,
  same_direction,
  is_request,
  is_reply,
  waiting,
  request_of,
}
use Rattle.lsp_watch.proofs.Queues.{first, rest, queue, waiting_is, queue_request, queue_notification, queue_reply}
use Rattle.lsp_watch.proofs.Queues.{both, same_direction_is, other_directions}
use Rattle.lsp_watch.specs.Rules.{session_finding, lifecycle_finding, id_finding, reply_finding}
use Rattle.lsp_watch.specs.declared.direction.Direction.{Direction}
use Rattle.lsp_watch.specs.declared.direction.Direction.TheVariants.{ToServer, ToClient}

-- ---- logs

-- what passed before a place of a clean log is clean
pub clean_before : (log later before : Log) (p : Passed) → log ≡ later ++ p ∷ before → IsClean log → IsClean before
clean_before log later before p is clean = λ l b q e.
    clean (later ++ p ∷ l) b q (is ∙ ap (λ xs. later ++ p ∷ xs) e ∙ sym (append_assoc later (p ∷ l) (q ∷ b)))

-- ---- findings

pub first_none : {A : Type 0} (a b : Option A) → option_or a b ≡ None → a ≡ None
first_none None b e = refl
first_none (Some x) b e = cc

pub second_none : {A : Type 0} (a b : Option A) → option_or a b ≡ None → b ≡ None
second_none None b e = e
second_none (Some x) b e = cc

pub mapped_none : {A B : Type 0} (f : A → B) (o : Option A) → option_map f o ≡ None → o ≡ None
mapped_none f None e = refl
mapped_none f (Some x) e = cc

module _ (before : Log) (direction : Direction) (m : Message) (fits : session_finding before direction m ≡ None) where
  pub lifecycle_fits : lifecycle_finding before direction m ≡ None
  lifecycle_fits = first_none _ (id_finding before direction m) fits

  pub id_fits : id_finding before direction m ≡ None
  id_fits = second_none (lifecycle_finding before direction m) _ fits

-- ---- one message

neither : (a b : Bool) → (a && b) ≡ true → b ≡ false → a ≡ false
neither true b e f = cc
neither false b e f = refl

other_direction_is : (a b : Direction) → same_direction (other a) b ≡ true → other b ≡ a
other_direction_is ToServer ToServer e = cc
other_direction_is ToServer ToClient e = refl
other_direction_is ToClient ToServer e = refl
other_direction_is ToClient ToClient e = cc

and_false : {A : Type 0} (a : Bool) → (a && false) ≡ true → A
and_false true e = cc
and_false false e = cc

module _ (before : Log) (direction : Direction) (id : Id) where
  at_id : (w : Direction) (i : Id) (o : Option Open) → w ≡ direction → i ≡ id → waiting w i before ≡ o
      → waiting direction id
      before ≡ o
  at_id w i o same_w same_i e =
      subst (λ v. waiting v id before ≡ o) same_w (subst (λ j. waiting w j before ≡ o) same_i e)

  -- a request that fits comes where none waits
  none_waits : (w : Direction) (place : ℕ) (m : Message) → is_request direction id (passed w place m) ≡ true
      → id_finding before w m ≡ None → waiting direction id before ≡ None
  none_waits w place (request i method params) is fits =
      let parts = both (same_direction direction w) (same_id id i) is in
      at_id w i None (same_direction_is direction w parts.0) (sym ((id_decides id i).0 parts.1)) (mapped_none _ _ fits)
  none_waits w place (notification method params) is fits = and_false (same_direction direction w) is
  none_waits w place (response i outcome) is fits = and_false (same_direction direction w) is

  replied_some : (o : Option Open) → reply_finding o ≡ None → (asked : Open) × (o ≡ Some asked)
  replied_some None e = cc
  replied_some (Some asked) e = (asked, refl)

  -- a reply that fits comes where one waits
  pub one_waits : (w : Direction) (place : ℕ) (m : Message) → is_reply direction id (passed w place m) ≡ true
      → id_finding before w m ≡ None → (asked : Open) × (waiting direction id before ≡ Some asked)
  one_waits w place (request i method params) is fits = and_false (same_direction (other direction) w) is
  one_waits w place (notification method params) is fits = and_false (same_direction (other direction) w) is
  one_waits w place (response i outcome) is fits =
      let parts = both (same_direction (other direction) w) (same_id id i) is in
      let found = replied_some (waiting (other w) i before) fits in
      let same : i ≡ id = sym ((id_decides id i).0 parts.1) in
      (found.0, at_id (other w) i (Some found.0) (other_direction_is direction w parts.0) same found.1)

-- ---- what waits was asked

or_false : (a b : Bool) → a ≡ false → b ≡ false → (a || b) ≡ false
or_false true b e f = cc
or_false false b e f = f

push_one : {A : Type 0} (xs : List A) (x : A) → first xs ≡ None → xs ++ x ∷ [] ≡ x ∷ []
push_one [] x e = refl
push_one (y ∷ ys) x e = cc

pub never : (b : Bool) → (b && false) ≡ false
never true = refl
never false = refl

module _ (direction : Direction) (id : Id) where
  -- none waits, or one that was asked, alone
  abbrev Alone : Log → Type 0
  Alone log = (queue direction id log ≡ [])
      ⊎ ((q : Open) × (queue direction id log ≡ q ∷ []) × IsAsked log direction id)

  more : (p : Passed) (before : Log) → is_reply direction id p ≡ false → is_request direction id p ≡ false
      → IsAsked before direction id → IsAsked (p ∷ before) direction id
  more p before no_reply no_request asked = record {
    earlier = asked.earlier;
    asked = asked.asked;
    since = p ∷ asked.since;
    place = ap (λ xs. p ∷ xs) asked.place;
    asks = asked.asks;
    unanswered = or_false (is_reply direction id p) (list_any (is_reply direction id) asked.since) no_reply
        asked.unanswered;
    alone = or_false (is_request direction id p) (list_any (is_request direction id) asked.since) no_request
        asked.alone;
  }

  -- a message that neither asks under the id nor replies to it
  beside : (p : Passed) (before : Log) → queue direction id (p ∷ before) ≡ queue direction id before
      → is_reply direction id p ≡ false
      → is_request direction id p ≡ false → Alone before → Alone (p ∷ before)
  beside p before same no_reply no_request (inl none) = inl (same ∙ none)
  beside p before same no_reply no_request (inr one) =
      inr (one.0, same ∙ one.1, more p before no_reply no_request one.2)

  at_reply : (before : Log) → Alone before → rest (queue direction id before) ≡ []
  at_reply before (inl none) = ap rest none
  at_reply before (inr one) = ap rest one.1

  step : (went : Direction) (place : ℕ) (m : Message) (before : Log) → id_finding before went m ≡ None → Alone before
      → Alone (passed went place m ∷ before)
  step went place (notification method params) before fits alone = beside (passed went place
      (notification method params)) before (queue_notification direction id went place before method params)
      (never (same_direction (other direction) went)) (never (same_direction direction went)) alone
  step went place (request i method params) before fits alone = by (same_direction direction went && same_id id i) refl
    where
      by : (b : Bool) → (same_direction direction went && same_id id i) ≡ b
          → Alone ((passed went place (request i method params)) ∷ before)
      by true is = inr (
        (request_of went place i method params),
        queue_request direction id went place before i method params
            ∙ ap (λ b. queue direction id before ++ cond b ((request_of went place i method params) ∷ []) []) is
            ∙ push_one (queue direction id before) (request_of went place i method params)
            (sym (waiting_is direction id before)
            ∙ none_waits before direction id went place (request i method params) is fits),
        record {
          earlier = before;
          asked = (passed went place (request i method params));
          since = [];
          place = refl;
          asks = is;
          unanswered = refl;
          alone = refl;
        },
      )
      by false is = beside (passed went place (request i method params)) before
          (queue_request direction id went place before i method params
          ∙ ap (λ b. queue direction id before ++ cond b ((request_of went place i method params) ∷ []) []) is
          ∙ append-nil (queue direction id before))
          (never (same_direction (other direction) went)) is alone
  step went place (response i outcome) before fits alone = by (same_direction direction (other went) && same_id id i)
      refl
    where
      by : (b : Bool) → (same_direction direction (other went) && same_id id i) ≡ b
          → Alone ((passed went place (response i outcome)) ∷ before)
      by true is = inl (queue_reply direction id went place before i outcome
          ∙ ap (λ b. cond b (rest (queue direction id before)) (queue direction id before)) is ∙ at_reply before alone)
      by false is = beside (passed went place (response i outcome)) before
          (queue_reply direction id went place before i outcome
          ∙ ap (λ b. cond b (rest (queue direction id before)) (queue direction id before)) is)
          (ap (λ b. b && same_id id i) (sym (other_directions direction went)) ∙ is)
          (never (same_direction direction went)) alone

  alone : (log : Log) → IsClean log → Alone log
  alone [] clean = inl refl
  alone (p ∷ before) clean = step p.direction p.place p.message before
      (id_fits before p.direction p.message (clean [] before p refl))
      (alone before (clean_before (p ∷ before) [] before p refl clean))

  is_asked : (log : Log) (q : Open) → waiting direction id log ≡ Some q → Alone log → IsAsked log direction id
  is_asked log q e (inr one) = one.2
  is_asked log q e (inl none) = let bad : None ≡ Some q = sym (ap first none) ∙ sym (waiting_is direction id log) ∙ e
      in cc

pub replies_once : (log : Log) → IsClean log → RepliesOnce log
replies_once log clean = λ direction id later before p is replies.
    let found = one_waits before direction id p.direction p.place p.message replies
    (id_fits before p.direction p.message (clean later before p is)) in
    is_asked direction id before found.0 found.1 (alone direction id before (clean_before log later before p is clean))
