-- Where each request is answered at once, none is held when its exchange is over.
use Rattle.lsp_message.specs.Id.{Id, id_cmp}
use Rattle.lsp_message.specs.IdLaws.{id_decides}
use Rattle.lsp_message.specs.Message.{ErrorObject, Message, request, notification, response}
use Rattle.lsp_queue.specs.Queue.{Pending, count_of}
use Rattle.lsp_acts.proofs.Acting.{acts_at, acts_at_shutdown}
use Rattle.lsp_acts.proofs.Counting.{all_rows, answered_last, held_insert, held_remove, kept_to_last, never_more}
use Rattle.lsp_acts.proofs.Counting.{used_once}
use Rattle.lsp_acts.specs.Acts.{Act, Queues, asks, cancels, does, does_all, empty_queues, holds, is_spent, replies}
use Rattle.lsp_acts.specs.Acts.{tells}
use Rattle.lsp_acts.specs.AtOnce.{AnswersAllAtOnce, AnswersEach, HasNoReply, IsAnswered, LeavesNone}
use Rattle.lsp_acts.specs.Law.{AnswersLast, IsWhole, OnceOrEnded, WasToSend, held_under, one_if}
use Rattle.lsp_acts.specs.SentByActs.{ActsAt, Handed, acts_done_at, queues_at}
use Rattle.lsp_acts.specs.ServerApplication.{ServerSession, with_queues, WorksSending}
use Rattle.lsp_acts.specs.View.{queues_of, seen}
use Rattle.lsp_acts.specs.declared.server_application.ServerApplication.{ServerApplication}
use Rattle.lsp_acts.specs.declared.server.Server.{Ghosts as Stated}
use Rattle.lsp_session.proofs.Ran.{StepCase, at_initialize, at_initialized, at_served, at_shutdown, at_woken, idle, row}
use Rattle.lsp_session.proofs.Rows.{Rows, StopsAfter}
use Rattle.lsp_session.specs.Session.{Exchange, Phase, SessionAnswer, SessionOut, Step, Stop, exhausted, offered}
use Rattle.lsp_session.specs.Session.{starting}
use Rattle.serde_json.specs.Data.{Data}
use Rattle.std.proofs.Common.{◌≡◌, refl, sym, ◌∙◌, ap, subst, inl, inr, ℕ, ◌≤◌, Bool, true, false, List, [], ◌∷◌}
use Rattle.std.proofs.Common.{◌++◌, arith, Option, Some, None, cond}
use Rattle.std.specs.FinMap as map
use Rattle.std.specs.FinMap.{get-empty}
use Rattle.std.specs.Ordering.{eq_by_cmp}
use Rattle.std.specs.Prelude.{Result, is_some}

itself : (n : ℕ) → n ≤ n
itself n = omega arith

in_turn : (a b c : ℕ) → a ≤ b → b ≤ c → a ≤ c
in_turn a b c first next = omega (arith, first, next)

none_left : (a b : ℕ) → a ≤ b → b ≡ 0 → a ≡ 0
none_left a b few none = omega (arith, few, none)

less : (b : Bool) (n : ℕ) → cond b 0 n ≤ n
less true n = omega arith
less false n = omega arith

module _ {P : Type 0} where
  -- one act, which is the reply
  pub each_one : (id : Id) (outcome : Result Data ErrorObject) (acts : List (Act P)) → acts ≡ replies id outcome ∷ []
      → AnswersEach acts id
  each_one id outcome acts is = subst (λ (l : List (Act P)). AnswersEach l id) (sym is) (refl, tt)

  -- acts without a reply, and then acts with the one
  pub each_after : (id : Id) (first acts : List (Act P)) → HasNoReply first → AnswersEach acts id
      → AnswersEach (first ++ acts) id
  each_after id [] acts none each = each
  each_after id (tells method params ∷ first) acts none each = each_after id first acts none each
  each_after id (asks method params payload ∷ first) acts none each = each_after id first acts none each
  each_after id (replies i outcome ∷ first) acts none each = absurd none
  each_after id (cancels such ∷ first) acts none each = each_after id first acts none each

  pub none_after : (first acts : List (Act P)) → HasNoReply first → HasNoReply acts → HasNoReply (first ++ acts)
  none_after [] acts none more = more
  none_after (tells method params ∷ first) acts none more = none_after first acts none more
  none_after (asks method params payload ∷ first) acts none more = none_after first acts none more
  none_after (replies i outcome ∷ first) acts none more = absurd none
  none_after (cancels such ∷ first) acts none more = none_after first acts none more

  -- acts with the one, and then acts without a reply
  pub each_before : (id : Id) (acts more : List (Act P)) → AnswersEach acts id → HasNoReply more
      → AnswersEach (acts ++ more) id
  each_before id [] more each none = absurd each
  each_before id (tells method params ∷ acts) more each none = each_before id acts more each none
  each_before id (asks method params payload ∷ acts) more each none = each_before id acts more each none
  each_before id (replies i outcome ∷ acts) more each none = (each.0, none_after acts more each.1 none)
  each_before id (cancels such ∷ acts) more each none = each_before id acts more each none

  module _ (id : Id) where
    -- no act makes a request wait
    does_less : (d : Queues P) (act : Act P) → held_under id (does d act).held ≤ held_under id d.held
    does_less d (tells method params) = itself (held_under id d.held)
    does_less d (asks method params payload) = at (is_spent (count_of d.asked)) refl
      where
        at : (b : Bool) → is_spent (count_of d.asked) ≡ b
            → held_under id (does d (asks method params payload)).held ≤ held_under id d.held
        at true is = rw is (itself (held_under id d.held))
        at false is = rw is (itself (held_under id d.held))
    does_less d (replies i outcome) = at (map.contains_key d.held i) refl
      where
        at : (b : Bool) → map.contains_key d.held i ≡ b
            → held_under id (does d (replies i outcome)).held ≤ held_under id d.held
        at true is = rw is (subst (λ (n : ℕ). n ≤ held_under id d.held) (sym (held_remove id d.held i))
            (less (eq_by_cmp id_cmp id i) (held_under id d.held)))
        at false is = rw is (itself (held_under id d.held))
    does_less d (cancels such) = itself (held_under id d.held)

    pub does_all_less : (d : Queues P) (acts : List (Act P))
        → held_under id (does_all d acts).held ≤ held_under id d.held
    does_all_less d [] = itself (held_under id d.held)
    does_all_less d (act ∷ acts) = in_turn _ _ _ (does_all_less (does d act) acts) (does_less d act)

    -- after its reply the request is held no longer
    replied : (d : Queues P) (i : Id) (outcome : Result Data ErrorObject) → i ≡ id
        → held_under id (does d (replies i outcome)).held ≡ 0
    replied d i outcome same = at (map.contains_key d.held i) refl
      where
        at : (b : Bool) → map.contains_key d.held i ≡ b → held_under id (does d (replies i outcome)).held ≡ 0
        at true is = rw is (held_remove id d.held i ∙ ap (λ (b : Bool). cond b 0 (held_under id d.held))
            ((id_decides id i).1 (sym same)))
        at false is = rw is (ap one_if (subst (λ (k : Id). map.contains_key d.held k ≡ false) same is))

    -- so it is after all acts, if one of them is the reply
    each_frees : (d : Queues P) (acts : List (Act P)) → AnswersEach acts id → held_under id (does_all d acts).held ≡ 0
    each_frees d [] each = absurd each
    each_frees d (tells method params ∷ acts) each = each_frees (does d (tells method params)) acts each
    each_frees d (asks method params payload ∷ acts) each = each_frees (does d (asks method params payload)) acts each
    each_frees d (replies i outcome ∷ acts) each =
        none_left _ _ (does_all_less (does d (replies i outcome)) acts) (replied d i outcome each.0)
    each_frees d (cancels such ∷ acts) each = each_frees (does d (cancels such)) acts each

    -- A request came and was answered.
    request_frees : (d : Queues P) (i : Id) (acts : List (Act P)) → AnswersEach acts i → held_under id d.held ≡ 0
        → held_under id (does_all (holds d i) acts).held ≡ 0
    request_frees d i acts each none = at (eq_by_cmp id_cmp id i) refl
      where
        at : (b : Bool) → eq_by_cmp id_cmp id i ≡ b → held_under id (does_all (holds d i) acts).held ≡ 0
        at true is = each_frees (holds d i) acts (subst (AnswersEach acts) (sym ((id_decides id i).0 is)) each)
        at false is =
            let kept : held_under id (map.insert d.held i tt) ≡ 0 =
            held_insert id d.held i ∙ ap (λ (b : Bool). cond b 1 (held_under id d.held)) is ∙ none in
            none_left _ _ (does_all_less (holds d i) acts) kept

module _ {S P : Type 0} (may : Stated S P) (at_once : AnswersAllAtOnce may) (id : Id) where
  abbrev waits : ServerApplication S P → ℕ
  waits w = held_under id (queues_of w.queues).held

  nothing : held_under id (map.empty) ≡ 0
  nothing = ap (λ o. one_if (is_some o)) (get-empty id_cmp id)

  -- a message that is served leaves no request under the id
  at_message : (d : Queues P) (came : Option Message) (payload : Option P) (acts : List (Act P))
      → ((i : Id) (method : List ℕ) (params : Data) → came ≡ Some (request i method params) → AnswersEach acts i)
      → held_under id d.held ≡ 0
      → held_under id (does_all (queues_at d came payload) (acts_done_at came acts)).held ≡ 0
  at_message d (Some (request i method params)) payload acts each none =
      request_frees id d i acts (each i method params refl) none
  at_message d (Some (notification method params)) payload acts each none =
      none_left _ _ (does_all_less id d (acts_done_at (Some (notification method params)) acts)) none
  at_message d (Some (response i outcome)) (Some it) acts each none =
      none_left _ _ (does_all_less id (queues_at d (Some (response i outcome)) (Some it)) acts) none
  at_message d (Some (response i outcome)) None acts each none = none_left _ _ (does_all_less id d acts) none
  at_message d None payload acts each none = none_left _ _ (does_all_less id d acts) none

  served : (w w' : ServerApplication S P) (came : Option Message) (output : List Message)
      → WorksSending may (seen w) came output (seen w') → waits w ≡ 0 → waits w' ≡ 0
  served w w' came output gives none =
      let a = acts_at may (seen w) came output (seen w') gives in
      ap (λ (d : Queues P). held_under id d.held) a.queues
      ∙ at_message (queues_of w.queues) came a.payload a.acts (each a) none
    where
      each : (a : ActsAt may (seen w) came output (seen w')) (i : Id) (method : List ℕ) (params : Data)
          → came ≡ Some (request i method params) → AnswersEach a.acts i
      each a i method params is =
          let handed = subst (λ (m : Option Message). Handed may w.server m a.payload a.acts a.did) is a.handed in
          at_once w.server i method params a.acts a.did handed.0

  step : (p q : Phase) (w w' : ServerApplication S P) (came : Option Message) (output : List Message)
      → Step (with_queues may) p w came output q w' → waits w ≡ 0 → waits w' ≡ 0
  step p q w w' came output did none = by (row (with_queues may) p q w w' came output did)
    where
      by : StepCase (with_queues may) p w came output q w' → waits w' ≡ 0
      by (at_initialize i method params outcome begun is e init sent next) =
          ap (λ (d : Queues P). held_under id d.held) init.1 ∙ none
      by (at_initialized m begun there e opened next) =
          let kept : waits w' ≡ held_under id opened.0.1.held = ap (λ (x : S × Queues P). held_under id x.1.held)
          opened.3 in
          let all : held_under id opened.0.1.held
          ≡ held_under id (does_all (queues_of w.queues) opened.1.0).held =
          ap (λ (d : Queues P). held_under id d.held) opened.1.4 in
          kept ∙ all ∙ none_left _ _ (does_all_less id (queues_of w.queues) opened.1.0) none
      by (at_served m begun there e gives next) =
          served w w' (Some m) output gives none
      by (at_woken begun there gives next) = served w w' None output gives none
      by (at_shutdown i method params parting begun there e gives sent next) =
          ap (held_under id) (acts_at_shutdown may (seen w) i parting (seen w') gives).none ∙ nothing
      by (idle m there same any is) = ap waits same ∙ none

  all_served : (xs : List Exchange) (p q : Phase) (w w' : ServerApplication S P) → Rows (with_queues may) p w xs q w'
      → waits w ≡ 0 → waits w' ≡ 0
  all_served [] p q w w' run none = ap waits run.1 ∙ none
  all_served (x ∷ xs) p q w w' run none =
      all_served xs run.0 q run.1 w' run.3 (step p run.0 w run.1 x.came (offered x) run.2 none)

-- a request that is not held was answered
not_held : (id : Id) (xs : List Exchange) (stop : Stop) (held : Pending (Unit {0})) (answer : SessionAnswer)
    → held_under id held ≡ 0 → OnceOrEnded id xs stop held answer → IsAnswered id xs stop answer
not_held id xs stop held answer none (inl one) = inl one
not_held id xs stop held answer none (inr (zero_sent, inl kept)) =
    let wrong : 0 ≡ 1 = sym none ∙ kept in absurd (cc (wrong))
not_held id xs stop held answer none (inr (zero_sent, inr ends)) = inr (zero_sent, ends)

pub leaves_none : {S P : Type 0} (may : Stated S P) (first last : S) (xs : List Exchange) (stop : Stop)
    (answer : SessionAnswer) → AnswersAllAtOnce may → ServerSession may first last xs stop answer
    → LeavesNone xs stop answer
leaves_none {S} {P} may first last xs stop answer at_once session = record {
  all = all.0;
  to_send = all.1;
  last = λ enough id before asking since cut asks alone. not_held id (asking ∷ since) stop held answer
      (free enough id) (answers enough id before asking since cut asks alone);
  once = λ whole id one. not_held id xs stop held answer (free (λ out. subst IsWhole out whole) id)
      (used_once id xs all.0 stop held answer all.1 whole
      (never_more may id session.old out.after xs out.last out.reached fresh)
      (answers (λ out. subst IsWhole out whole) id) one);
}
  where
    out : SessionOut (with_queues may) session.old session.new xs stop answer
    out = session.out

    held : Pending (Unit {0})
    held = (queues_of session.new.queues).held

    fresh : queues_of session.old.queues ≡ empty_queues
    fresh = ap (λ (x : S × Queues P). x.1) session.from_first

    all : (every : List Exchange) × WasToSend stop xs every × (end : Phase)
        × Rows (with_queues may) starting session.old every end out.after
        × StopsAfter (with_queues may) end out.after stop answer session.new
    all = all_rows (with_queues may) stop answer starting out.last session.old out.after session.new xs tt out.reached
        out.stopped

    free : (stop ≡ exhausted → ⊥) → (id : Id) → held_under id held ≡ 0
    free enough id = elim (kept_to_last (with_queues may) all.2 out.after session.new stop answer all.4) [
      | inl ended ↦ absurd (enough ended)
      | inr same ↦
          ap (λ (w : ServerApplication S P). held_under id (queues_of w.queues).held) same
          ∙ all_served may at_once id all.0 starting all.2 session.old out.after all.3
          (ap (λ (d : Queues P). held_under id d.held) fresh ∙ nothing may at_once id)
    ]

    answers : (stop ≡ exhausted → ⊥) → (id : Id) → AnswersLast id all.0 stop held answer
    answers enough id =
        answered_last may id stop answer session.old out.after session.new all.0 all.2 all.3 all.4 fresh enough
