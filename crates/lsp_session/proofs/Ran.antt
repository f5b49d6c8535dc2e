-- Exchanges of a session, one after another: by the rows of the table of steps, the last of which may be cut off, and
-- what they say of its answer.
use Rattle.lsp_message.specs.Message.{Message, ErrorObject, request, notification, response}
use Rattle.lsp_session.specs.ProtocolError.{disconnected, shutdown_disconnected, fault_of_refusal, expected_initialize}
use Rattle.lsp_session.specs.ProtocolError.{expected_initialized, unexpected_in_shutdown}
use Rattle.lsp_session.specs.Session.{Behavior, Exchange, came_of, messages_of, SessionAnswer, Stop, decided, no_more}
use Rattle.lsp_session.specs.Session.{refused, Phase, starting, replied, serving, asked, broken, ended, Stops}
use Rattle.lsp_session.specs.Session.{SessionFrom, sends_of, offered, phase_after, Step, TakesTurn, IsOffered}
use Rattle.lsp_session.specs.Session.{AfterRefusal, Steps, is_reply, is_served, Fails, Leaves, is_shutdown}
use Rattle.lsp_session.specs.SessionOutcome.{is_no_exit, StopsAtExit}
use Rattle.lsp_session.specs.declared.lifecycle.SendFault.{SendFault}
use Rattle.lsp_session.specs.declared.loops.handler.SessionEnd.TheVariants.{Closed, ShutDown}
use Rattle.serde_json.specs.Data.{Data}
use Rattle.std.proofs.Common.{◌≡◌, refl, Bool, true, ◌&&◌, List, [], ◌∷◌, Option, Some, None, sym, ◌∙◌, ap, ◌++◌}
use Rattle.std.proofs.Common.{append_assoc, subst, inl, inr, ◌⊎◌, append-nil, ℕ, false, true≢false, not, codes}
use Rattle.std.proofs.lemmas.List.{map-append}
use Rattle.std.proofs.lemmas.List.Elements.{filter_map-append}
use Rattle.std.proofs.lemmas.List.Folds.{list_all-append}
use Rattle.std.specs.List.{filter_map, list_all}
use Rattle.std.specs.Prelude.{Result, Ok, Err, MatchOption}
use Rattle.lsp_message.specs.Id.{Id}
use Rattle.lsp_message.specs.Methods.{is_early, is_initialize, is_initialized, is_shutdown, is_exit}
use Rattle.lsp_session.specs.Answered.{RepliesTo, AllReplied}
use Rattle.lsp_session.specs.Replies.{null_reply, IsEarlyReply}
use Rattle.std.specs.Bool.{MatchBool}
use Rattle.lsp_session.proofs.Waiting.{and-true, FoldsTo-append}
use Rattle.std.proofs.lemmas.Slice.Eq.{bytes_eq-Decides}

pub came_both : (xs ys : List Exchange) → came_of (xs ++ ys) ≡ came_of xs ++ came_of ys
came_both xs ys = map-append (λ (x : Exchange). x.came) xs ys

pub messages_both : (xs ys : List Exchange) → messages_of (xs ++ ys) ≡ messages_of xs ++ messages_of ys
messages_both xs ys = ap (λ cs. filter_map (λ (c : Option Message). c) cs) (came_both xs ys) ∙ filter_map-append
    (λ (c : Option Message). c) (came_of xs) (came_of ys)

-- what the message of one more exchange passes, and those of the others
pub messages_more : (p : Message → Bool) (x : Exchange) (xs : List Exchange) → list_all p (messages_of (x ∷ [])) ≡ true
    → list_all p (messages_of (x ∷ xs)) ≡ list_all p (messages_of xs)
messages_more p x xs first =
    ap (list_all p) (messages_both (x ∷ []) xs) ∙ list_all-append p (messages_of (x ∷ [])) (messages_of xs)
    ∙ ap (λ b. b && list_all p (messages_of xs)) first

pub sends_both : (xs ys : List Exchange) → sends_of (xs ++ ys) ≡ sends_of xs ++ sends_of ys
sends_both [] ys = refl
sends_both (x ∷ xs) ys = rw (sends_both xs ys, append_assoc) refl

-- no message was refused
abbrev pub IsWhole : Stop → Type 0
IsWhole (refused fault) = ⊥
IsWhole stop = Unit {0}

-- the session goes on from there, and `shutdown` did not come
abbrev pub IsOpen : Phase → Type 0
IsOpen (asked i) = ⊥
IsOpen (broken fault) = ⊥
IsOpen (ended answer) = ⊥
IsOpen phase = Unit {0}

-- the outbox refused nothing that mattered
abbrev pub IsSound : Phase → Type 0
IsSound (broken fault) = ⊥
IsSound phase = Unit {0}

-- the answer if no further message comes
abbrev pub answer_at_end : Phase → SessionAnswer
answer_at_end starting = Err disconnected
answer_at_end replied = Err disconnected
answer_at_end serving = Ok Closed
answer_at_end (asked i) = Err shutdown_disconnected
answer_at_end (broken fault) = Err (fault_of_refusal fault)
answer_at_end (ended answer) = answer

-- the answer of a session that a message decided
abbrev pub ended_by : Phase → Option SessionAnswer
ended_by (ended answer) = Some answer
ended_by phase = None

module _ {S : Type 0} (may : Behavior S) where
  -- what is known of an open phase: the answer if no more comes
  pub of_open : (p : Phase) (s : S) → IsOpen p → Stops may p s no_more (answer_at_end p) s
  of_open starting s is = (refl, refl)
  of_open replied s is = (refl, refl)
  of_open serving s is = (refl, refl)
  of_open (asked i) s is = absurd is
  of_open (broken fault) s is = absurd is
  of_open (ended answer) s is = absurd is

  -- steps, one after another
  pub steps_both : (p p' p'' : Phase) (s s' s'' : S) (xs ys : List Exchange)
      → Steps may p s xs p' s' → Steps may p' s' ys p'' s'' → Steps may p s (xs ++ ys) p'' s''
  steps_both p p' p'' s s' s'' xs ys first second = FoldsTo-append (TakesTurn may) xs ys (p, s) (p', s') (
    p'',
    s'',
  ) first second

  -- an exchange at which all is taken
  pub one_turn : (p p' : Phase) (s s' : S) (m : Option Message) (sent : List Message) → Step may p s m sent p' s'
      → TakesTurn may (p, s) (record { came = m; sent = sent; not_sent = None }) (p', s')
  one_turn p p' s s' m sent step = record { given = sent; next = p'; step = step; offers = (refl, refl) }

  pub one_step : (p p' : Phase) (s s' : S) (m : Option Message) (sent : List Message) → Step may p s m sent p' s'
      → Steps may p s (record { came = m; sent = sent; not_sent = None } ∷ []) p' s'
  one_step p p' s s' m sent step = ((p', s'), one_turn p p' s s' m sent step, refl)

  -- a session from some phase on, after exchanges that lead to it
  pub from_after : (p p' : Phase) (s s' s'' : S) (xs ys : List Exchange) (stop : Stop) (answer : SessionAnswer)
      → Steps may p s xs p' s' → SessionFrom may p' s' s'' ys stop answer → SessionFrom may p s s'' (xs ++ ys) stop
      answer
  from_after p p' s s' s'' xs ys stop answer first later = record {
    last = later.last;
    after = later.after;
    reached = steps_both p p' later.last s s' later.after xs ys first later.reached;
    stopped = later.stopped;
  }

  -- An exchange: all is taken; or the reply to `shutdown` gets lost; or another message is refused.
  pub data TurnCase (p : Phase) (s : S) (x : Exchange) (q : Phase) (s' : S) : Type 0 where
    whole : x.not_sent ≡ None → Step may p s x.came x.sent q s' → TurnCase p s x q s'
    lost_reply : (m : Message) (i : Id) → x.not_sent ≡ Some m → q ≡ asked i
        → Step may p s x.came (x.sent ++ m ∷ []) (asked i) s' → TurnCase p s x q s'
    breaks : (m : Message) (more : List Message) (fault : SendFault) (next : Phase) → x.not_sent ≡ Some m
        → q ≡ broken fault → Step may p s x.came (x.sent ++ m ∷ more) next s'
        → (more ≡ [] → (i : Id) → next ≡ asked i → ⊥) → TurnCase p s x q s'

  pub turn_case : (p q : Phase) (s s' : S) (x : Exchange) → TakesTurn may (p, s) x (q, s') → TurnCase p s x q s'
  turn_case p q s s' x turn = at x.not_sent refl turn.offers
    where
      of_refusal : (m : Message) (more : List Message) (next : Phase) → x.not_sent ≡ Some m → AfterRefusal more next q
          → Step may p s x.came (x.sent ++ m ∷ more) next s' → TurnCase p s x q s'
      of_refusal m [] (asked i) is after step = lost_reply m i is after step
      of_refusal m [] starting is after step = breaks m [] after.0 starting is after.1 step (λ e i never. cc (never))
      of_refusal m [] replied is after step = breaks m [] after.0 replied is after.1 step (λ e i never. cc (never))
      of_refusal m [] serving is after step = breaks m [] after.0 serving is after.1 step (λ e i never. cc (never))
      of_refusal m [] (broken f) is after step = breaks m [] after.0 (broken f) is after.1 step (λ e i never.
          cc (never))
      of_refusal m [] (ended a) is after step = breaks m [] after.0 (ended a) is after.1 step (λ e i never. cc (never))
      of_refusal m (n ∷ more) next is after step = breaks m (n ∷ more) after.0 next is after.1 step (λ e. absurd
          (cc (e)))

      at : (n : Option Message) → x.not_sent ≡ n → IsOffered turn.given x.sent n turn.next q → TurnCase p s x q s'
      at None is offers = whole is (rw (offers.0, offers.1) turn.step)
      at (Some m) is offers = of_refusal m offers.0 turn.next is offers.2 (rw offers.1 at turn.step)

-- the message is no request
abbrev pub IsNoRequest : Message → Type 0
IsNoRequest (request i method params) = ⊥
IsNoRequest m = Unit {0}

-- a message for which the service is not called
pub data Idle (p : Phase) (m : Message) (sent : List Message) (q : Phase) : Type 0 where
  early_request : (i : Id) (method : List ℕ) (params : Data) (reply : Message) → p ≡ starting → m ≡ request i method
      params → IsEarlyReply i reply
      → sent ≡ reply ∷ [] → q ≡ starting → Idle p m sent q
  early_note : p ≡ starting → IsNoRequest m → is_early m ≡ true → sent ≡ [] → q ≡ starting → Idle p m sent q
  unasked : (shown : List ℕ) → p ≡ starting → IsNoRequest m → is_early m ≡ false → sent ≡ [] → q
      ≡ ended (Err (expected_initialize shown)) → Idle p m sent q
  uninvited : (shown : List ℕ) → p ≡ replied → is_initialized m ≡ false → sent ≡ [] → q
      ≡ ended (Err (expected_initialized shown)) → Idle p m sent q
  leaves : p ≡ serving → is_exit m ≡ true → sent ≡ [] → q ≡ ended (Ok Closed) → Idle p m sent q
  exits : (i : Id) → p ≡ asked i → is_exit m ≡ true → sent ≡ [] → q ≡ ended (Ok ShutDown)
      → Idle p m sent q
  late : (i : Id) → p ≡ asked i → is_reply m ≡ true → sent ≡ [] → q ≡ asked i → Idle p m sent q
  stays : (i : Id) (shown : List ℕ) → p ≡ asked i → is_exit m ≡ false → sent ≡ []
      → q ≡ ended (Err (unexpected_in_shutdown shown)) → Idle p m sent q

pub data StepCase {S : Type 0} (may : Behavior S) (p : Phase) (s : S) (came : Option Message) (sent : List Message)
    (q : Phase) (s' : S) : Type 1 where
  at_initialize : (i : Id) (method : List ℕ) (params : Data) (outcome : Result Data ErrorObject) → p ≡ starting → came
      ≡ Some (request i method params)
      → is_initialize (request i method params) ≡ true → may.initializes s params outcome s' → sent ≡ response i outcome
      ∷ [] → q ≡ phase_after outcome
      → StepCase may p s came sent q s'
  at_initialized : (m : Message) → p ≡ replied → came ≡ Some m → is_initialized m ≡ true → may.at_initialized s sent s'
      → q ≡ serving → StepCase may p s came sent q s'
  at_served : (m : Message) → p ≡ serving → came ≡ Some m → is_served m ≡ true → may.outputs s m sent s' → q ≡ serving
      → StepCase may p s came sent q s'
  at_woken : p ≡ serving → came ≡ None → may.wakes s sent s' → q ≡ serving → StepCase may p s came sent q s'
  at_shutdown : (i : Id) (method : List ℕ) (params : Data) (parting : List Message) → p ≡ serving → came
      ≡ Some (request i method params)
      → is_shutdown (request i method params) ≡ true → may.at_shutdown s i parting s' → sent ≡ parting ++ null_reply i
      ∷ [] → q ≡ asked i → StepCase may p s came sent q s'
  -- of whatever service it is a step that passes over the same responses
  idle : (m : Message) → came ≡ Some m → s' ≡ s
      → ((T : Type 0) (can : Behavior T) (t : T) → can.passes_late ≡ may.passes_late → Step can p t (Some m) sent q t)
      → Idle p m sent q
      → StepCase may p s came sent q s'

-- the last message that is served
step_left : {S : Type 0} (may : Behavior S) (s s' : S) (m : Message) (sent : List Message) (q : Phase) → is_served m
    ≡ false → Leaves may s m sent q s'
    → Step may serving s (Some m) sent q s'
step_left may s s' m sent q other gone = rw other gone

left : {S : Type 0} (may : Behavior S) (s s' : S) (m : Message) (sent : List Message) (q : Phase) → is_served m ≡ false
    → Leaves may s m sent q s'
    → StepCase may serving s (Some m) sent q s'
left may s s' (request i method params) sent q other step = at (is_shutdown (request i method params)) refl other
  where
    at : (b : Bool) → is_shutdown (request i method params) ≡ b → is_served (request i method params) ≡ false
        → StepCase may serving s (Some (request i method params)) sent q s'
    at true e other = at_shutdown i method params step.0 refl refl e step.1 step.2 step.3
    at false e other = absurd (true≢false (rw e at other))
left may s s' (notification method params) sent q other step = at (is_exit (notification method params)) refl other
  where
    at : (b : Bool) → is_exit (notification method params) ≡ b → is_served (notification method params) ≡ false
        → StepCase may serving s (Some (notification method params)) sent q s'
    at true e other =
        idle (notification method params) refl step.2 (λ T can t same. step_left can t t (notification method params)
        sent q other (step.0, step.1, refl))
        (leaves refl e step.0 step.1)
    at false e other = absurd (true≢false (rw e at other))
left may s s' (response i outcome) sent q other step = absurd (true≢false other)

module _ {S : Type 0} (may : Behavior S) where
  -- each step is a row
  pub row : (p q : Phase) (s s' : S) (came : Option Message) (sent : List Message) → Step may p s came sent q s'
      → StepCase may p s came sent q s'
  row starting q s s' (Some (request i method params)) sent step = at (is_initialize (request i method params))
      refl step
    where
      at : (b : Bool) → is_initialize (request i method params) ≡ b
          → MatchBool b
          ((outcome : Result Data ErrorObject) × may.initializes s params outcome s' × (sent ≡ response i outcome ∷ [])
          × (q ≡ phase_after outcome))
          ((reply : Message) × IsEarlyReply i reply × (sent ≡ reply ∷ []) × (q ≡ starting) × (s' ≡ s))
          → StepCase may starting s (Some (request i method params)) sent q s'
      at true e step = at_initialize i method params step.0 refl refl e step.1 step.2 step.3
      at false e step = idle (request i method params) refl step.4 (λ T can t same. rw e (
        step.0,
        step.1,
        step.2,
        step.3,
        refl,
      ))
          (early_request i method params step.0 refl refl step.1 step.2 step.3)
  row starting q s s' (Some (notification method params)) sent step = idle (notification method params) refl step.1
      (λ T can t same. (step.0, refl)) (at (is_early (notification method params)) refl step.0)
    where
      at : (b : Bool) → is_early (notification method params) ≡ b → MatchBool b ((sent ≡ []) × (q ≡ starting))
          (Fails expected_initialize sent q)
          → Idle starting (notification method params) sent q
      at true e step = early_note refl tt e step.0 step.1
      at false e step = unasked step.0 refl tt e step.1 step.2
  row starting q s s' (Some (response i outcome)) sent step = idle (response i outcome) refl step.1
      (λ T can t same. (step.0, refl)) (unasked step.0.0 refl tt refl step.0.1 step.0.2)
  row replied q s s' (Some m) sent step = at (is_initialized m) refl step
    where
      at : (b : Bool) → is_initialized m ≡ b → MatchBool b (may.at_initialized s sent s' × (q ≡ serving))
          (Fails expected_initialized sent q × (s' ≡ s))
          → StepCase may replied s (Some m) sent q s'
      at true e step = at_initialized m refl refl e step.0 step.1
      at false e step = idle m refl step.1 (λ T can t same. rw e (step.0, refl)) (uninvited step.0.0 refl e step.0.1
          step.0.2)
  row serving q s s' (Some m) sent step = at (is_served m) refl step
    where
      at : (b : Bool) → is_served m ≡ b → MatchBool b (may.outputs s m sent s' × (q ≡ serving)) (Leaves may s m sent q
          s') → StepCase may serving s (Some m) sent q s'
      at true e step = at_served m refl refl e step.0 step.1
      at false e step = left may s s' m sent q e step
  row serving q s s' None sent step = at_woken refl refl step.0 step.1
  row (asked i) q s s' (Some m) sent step = idle m refl step.1 (λ T can t same. rw same (step.0, refl)) (at (is_exit m)
      refl (may.passes_late && is_reply m) refl step.0)
    where
      at : (b : Bool) → is_exit m ≡ b → (c : Bool) → (may.passes_late && is_reply m) ≡ c
          → MatchBool b ((sent ≡ []) × (q ≡ ended (Ok ShutDown)))
          (MatchBool c ((sent ≡ []) × (q ≡ asked i)) (Fails unexpected_in_shutdown sent q))
          → Idle (asked i) m sent q
      at true e c passes step = exits i refl e step.0 step.1
      at false e true passes step = late i refl (and-true may.passes_late (is_reply m) passes).1 step.0 step.1
      at false e false passes step = stays i step.0 refl e step.1 step.2
  row p q s s' came sent step = absurd step

-- no request
pub initialized_no_request : (m : Message) → is_initialized m ≡ true → IsNoRequest m
initialized_no_request (request i method params) is = absurd (cc (is))
initialized_no_request m is = tt

pub exit_no_request : (m : Message) → is_exit m ≡ true → IsNoRequest m
exit_no_request (request i method params) is = absurd (cc (is))
exit_no_request m is = tt

pub reply_no_request : (m : Message) → is_reply m ≡ true → IsNoRequest m
reply_no_request (request i method params) is = absurd (cc (is))
reply_no_request m is = tt

-- no request, and nothing is sent
pub silent : (x : Exchange) (m : Message) → x.came ≡ Some m → IsNoRequest m → offered x ≡ [] → AllReplied (x ∷ [])
silent x (request i method params) is mute sent = absurd mute
silent x m is mute sent = rw (is, sent) (tt, tt)

-- a request and its reply
pub one_reply : (x : Exchange) (i : Id) (method : List ℕ) (params : Data) (reply : Message) → x.came
    ≡ Some (request i method params) → offered x ≡ reply ∷ []
    → RepliesTo i reply → AllReplied (x ∷ [])
one_reply x i method params reply is sent replies = rw (is, sent) ((replies, tt), tt)

pub no_one : (part more : List Message) (not_sent : Message) → part ++ not_sent ∷ more ≡ [] → ⊥
no_one [] more not_sent e = cc (e)
no_one (p ∷ part) more not_sent e = cc (e)

-- of nothing a part is nothing
pub part_none : (sent more full : List Message) → sent ++ more ≡ full → full ≡ [] → sent ≡ []
part_none [] more full cut e = refl
part_none (m ∷ sent) more full cut e = let never : m ∷ (sent ++ more) ≡ [] = cut ∙ e in absurd (cc (never))

-- of one message it is that one
pub part_one : (sent more full : List Message) (r : Message) → sent ++ more ≡ full → (sent ≡ [] → full ≡ []) → full ≡ r
    ∷ [] → sent ≡ r ∷ []
part_one [] more full r cut none e = let never : ◌≡◌ {A = List Message} (r ∷ []) [] = sym e ∙ none refl in absurd
    (cc (never))
part_one (m ∷ []) more full r cut none e = let same : m ∷ more ≡ r ∷ [] = cut ∙ e in cc (same)
part_one (m ∷ n ∷ sent) more full r cut none e = let never : m ∷ n ∷ (sent ++ more) ≡ r ∷ [] = cut
    ∙ e in absurd (cc (never))

-- a row of the table leads to no refusal, and where something is given it does not decide
pub phase_unbroken : {S : Type 0} (may : Behavior S) (p q : Phase) (s s' : S) (came : Option Message)
    (given : List Message) → StepCase may p s came given q s' → IsSound q × (given ≡ [] ⊎ (ended_by q ≡ None))
phase_unbroken may p q s s' came given (at_initialize i method params outcome e is e2 e3 e4 e5) = rw e5 (by outcome)
  where
    by : (outcome : Result Data ErrorObject) → IsSound (phase_after outcome) × (given ≡ [] ⊎ (ended_by (phase_after
        outcome) ≡ None))
    by (Ok result) = (tt, inr refl)
    by (Err error) = (tt, inr refl)
phase_unbroken may p q s s' came given (at_initialized m e is e2 e3 e4) = rw e4 (tt, inr refl)
phase_unbroken may p q s s' came given (at_served m e is e2 e3 e4) = rw e4 (tt, inr refl)
phase_unbroken may p q s s' came given (at_woken e is e2 e3) = rw e3 (tt, inr refl)
phase_unbroken may p q s s' came given (at_shutdown i method params parting e is e2 e3 e4 e5) = rw e5 (tt, inr refl)
phase_unbroken may p q s s' came given (idle m is same any case) = by case
  where
    by : Idle p m given q → IsSound q × (given ≡ [] ⊎ (ended_by q ≡ None))
    by (early_request i method params r e e1 e2 e3 e4) = rw e4 (tt, inr refl)
    by (early_note e e1 e2 e3 e4) = rw e4 (tt, inr refl)
    by (unasked shown e e1 e2 e3 e4) = rw e4 (tt, inl e3)
    by (uninvited shown e e1 e2 e3) = rw e3 (tt, inl e2)
    by (leaves e e1 e2 e3) = rw e3 (tt, inl e2)
    by (exits i e e1 e2 e3) = rw e3 (tt, inl e2)
    by (late i e e1 e2 e3) = rw e3 (tt, inr refl)
    by (stays i shown e e1 e2 e3) = rw e3 (tt, inl e2)

module _ {S : Type 0} (may : Behavior S) where
  -- Exchanges from a phase to another, by the rows of the table. Of what is given for the last message a part may be
  -- offered, if the outbox refused a message: not nothing of something.
  abbrev pub Ran : Phase → S → List Exchange → Phase → S → Type 0
  Ran p s [] q s' = (q ≡ p) × (s' ≡ s)
  Ran p s (x ∷ xs) q s' =
      (full : List Message) × (more : List Message) × (offered x ++ more ≡ full) × (offered x ≡ [] → full ≡ [])
      × (next : Phase) × (mid : S) × Step may p s x.came full next mid × ((more ≡ []) ⊎ (xs ≡ []))
      × Ran next mid xs q s'

  -- where the rows lead is where the session is, or the outbox refused a message there
  abbrev pub Leads : Phase → Phase → Type 0
  Leads row q = (row ≡ q) ⊎ ((fault : SendFault) × (q ≡ broken fault) × (ended_by row ≡ None))

  -- nothing follows a message that was refused
  pub none_broken : (fault : SendFault) (q : Phase) (s s' : S) (xs : List Exchange) → Steps may (broken fault) s xs q s'
      → (xs ≡ []) × (q ≡ broken fault) × (s' ≡ s)
  none_broken fault q s s' [] run = (
    refl,
    ap (λ (a : Phase × S). a.0) (sym run),
    ap (λ (a : Phase × S). a.1) (sym run),
  )
  none_broken fault q s s' (x ∷ xs) run = absurd run.1.step

  pub none_ended : (by : SessionAnswer) (q : Phase) (s s' : S) (xs : List Exchange) → Steps may (ended by) s xs q s'
      → (xs ≡ []) × (q ≡ ended by) × (s' ≡ s)
  none_ended by q s s' [] run = (
    refl,
    ap (λ (a : Phase × S). a.0) (sym run),
    ap (λ (a : Phase × S). a.1) (sym run),
  )
  none_ended by q s s' (x ∷ xs) run = absurd run.1.step

  one_more : (p q row next : Phase) (s s' mid : S) (x : Exchange) (xs : List Exchange) (more : List Message) → Step may
      p s x.came (offered x ++ more) next mid → (offered x ≡ [] → more ≡ []) → ((more ≡ []) ⊎ (xs ≡ []))
      → Ran next mid xs row s' → Ran p s (x ∷ xs) row s'
  one_more p q row next s s' mid x xs more step none last rest = (
    offered x ++ more,
    more,
    refl,
    (λ e. rw (e, none e) refl),
    next,
    mid,
    step,
    last,
    rest,
  )

  pub ran : (p q : Phase) (s s' : S) (xs : List Exchange) → Steps may p s xs q s'
      → (row : Phase) × Ran p s xs row s' × Leads row q
  ran p q s s' [] run = (
    p,
    (refl, ap (λ (a : Phase × S). a.1) (sym run)),
    inl (ap (λ (a : Phase × S). a.0) run),
  )
  ran p q s s' (x ∷ xs) run = at (turn_case may p run.0.0 s run.0.1 x run.1) (ran run.0.0 q run.0.1 s' xs run.2)
    where
      at : TurnCase may p s x run.0.0 run.0.1 → (row : Phase) × Ran run.0.0 run.0.1 xs row s' × Leads row q
          → (row : Phase) × Ran p s (x ∷ xs) row s' × Leads row q
      at (whole is step) rest = (
        rest.0,
        one_more p q rest.0 run.0.0 s s' run.0.1 x xs [] (rw (is, append-nil x.sent) step) (λ e. refl) (inl refl)
            rest.1,
        rest.2,
      )
      at (lost_reply m i is next step) rest = (
        rest.0,
        one_more p q rest.0 run.0.0 s s' run.0.1 x xs [] (rw (is, append-nil (x.sent ++ m ∷ []), next) step)
            (λ e. refl) (inl refl) rest.1,
        rest.2,
      )
      at (breaks m more fault next is gone step other) rest =
          let over = none_broken fault q run.0.1 s' xs (subst (λ (r : Phase). Steps may r run.0.1 xs q s') gone
          run.2) in
          let known = phase_unbroken may p next s run.0.1 x.came (x.sent ++ m ∷ more) (row may p next s run.0.1 x.came
          (x.sent ++ m ∷ more) step) in
          let going : ended_by next ≡ None = elim known.1 [
            | inl none ↦ absurd (no_one x.sent more m none)
            | inr e ↦ e
          ] in (
            next,
            one_more p q next next s s' run.0.1 x xs more (rw (is, append_assoc x.sent (m ∷ []) more) step)
                (λ e. absurd (no_one x.sent [] m (rw is at e))) (inr over.0) (rw (over.0, over.2) (refl, refl)),
            inr (fault, over.1, going),
          )

-- What holds of the exchanges of a session as long as it goes on, and when a message decided.
module _ {S : Type 0} (may : Behavior S) (All : List Exchange → Type 0) (Last : List Exchange
    → SessionAnswer → Type 0) where
  abbrev pub Holds : Phase → List Exchange → Type 0
  Holds q xs = MatchOption (ended_by q) (All xs) (λ answer. Last xs answer)

  pub after_outcome : (outcome : Result Data ErrorObject) (xs : List Exchange) → All xs → Holds (phase_after outcome) xs
  after_outcome (Ok result) xs all = all
  after_outcome (Err error) xs all = all

  none_after : (p q : Phase) (s s' : S) (xs : List Exchange) (answer : SessionAnswer) → ended_by p ≡ Some answer
      → Ran may p s xs q s'
      → (xs ≡ []) × (q ≡ p)
  none_after p q s s' [] answer is run = (refl, run.0)
  none_after (ended by) q s s' (x ∷ xs) answer is run = absurd run.6
  none_after p q s s' (x ∷ xs) answer is run = absurd (cc (is))

  module _ (none : All [])
      (one : (p q : Phase) (s s' : S) (x : Exchange) (full : List Message) → StepCase may p s x.came full q s'
      → ((r : Message) → full ≡ r ∷ [] → offered x ≡ r ∷ []) → (full ≡ [] → offered x ≡ []) → Holds q (x ∷ []))
      (more : (q : Phase) (x : Exchange) (xs : List Exchange) → All (x ∷ []) → Holds q xs → Holds q (x ∷ xs)) where
    pub holds : (p q : Phase) (s s' : S) (xs : List Exchange) → ended_by p ≡ None → Ran may p s xs q s'
        → Holds q xs
    holds p q s s' [] on run = rw (run.0, on) none
    holds p q s s' (x ∷ xs) on run =
        at (ended_by run.4) refl
        (one p run.4 s run.5 x run.0 (row may p run.4 s run.5 x.came run.0 run.6) (λ r e. part_one (offered x) run.1
        run.0 r
        run.2 run.3 e)
        (λ e. part_none (offered x) run.1 run.0 run.2 e))
        (λ still. holds run.4 q run.5 s' xs still run.8)
      where
        at : (by : Option SessionAnswer) → ended_by run.4 ≡ by → MatchOption by (All (x ∷ [])) (λ answer. Last (x
            ∷ []) answer)
            → (ended_by run.4 ≡ None → Holds q xs) → Holds q (x ∷ xs)
        at None is first later = more q x xs first (later is)
        at (Some answer) is first later =
            let over = none_after run.4 q run.5 s' xs answer is run.8 in
            rw (over.0, over.1, is) first

-- if a message decided, the session stopped there with that answer, and elsewhere it did not
pub stops_by : {S : Type 0} (may : Behavior S) (row p : Phase) (s s' : S) (stop : Stop) (answer : SessionAnswer)
    → Leads may row p → Stops may p s stop answer s'
    → MatchOption (ended_by row) (stop ≡ decided → ⊥) (λ by. (stop ≡ decided) × (answer ≡ by))
stops_by may row p s s' stop answer (inl same) stops = rw same (at p stop stops)
  where
    at : (p : Phase) (stop : Stop) → Stops may p s stop answer s' → MatchOption (ended_by p) (stop ≡ decided → ⊥)
        (λ by. (stop ≡ decided) × (answer ≡ by))
    at (ended by) decided stops = (refl, stops.0)
    at (ended by) stop stops = absurd stops
    at p stop stops = λ e. (rw e at stops)
stops_by may row p s s' stop answer (inr broke) stops = rw broke.2 (λ e. rw (broke.1, e) at stops)

served_is_no_exit : (m : Message) → is_served m ≡ true → is_no_exit m ≡ true
served_is_no_exit m served = (and-true (not (is_shutdown m)) (is_no_exit m) served).1

pub initialized_is_no_exit : (m : Message) → is_initialized m ≡ true → is_no_exit m ≡ true
initialized_is_no_exit (notification method params) initialized =
    rw ((bytes_eq-Decides method (codes "initialized")).0 initialized) refl
initialized_is_no_exit m initialized = refl

reply_no_exit : (m : Message) → is_reply m ≡ true → is_no_exit m ≡ true
reply_no_exit (response i outcome) is = refl
reply_no_exit (request i method params) is = absurd (cc (is))
reply_no_exit (notification method params) is = absurd (cc (is))

early_no_exit : (m : Message) → IsNoRequest m → is_early m ≡ true → is_no_exit m ≡ true
early_no_exit (notification method params) mute early = early
early_no_exit m mute early = refl

-- no `exit` came
abbrev Passed : List Exchange → Type 0
Passed xs = list_all is_no_exit (messages_of xs) ≡ true

-- of a message that decided nothing is said
abbrev Last : List Exchange → SessionAnswer → Type 0
Last xs answer = Unit {0}

more_known : (by : Option SessionAnswer) (x : Exchange) (xs : List Exchange) → Passed (x ∷ [])
    → MatchOption by (Passed xs) (λ answer. Last xs answer)
    → MatchOption by (Passed (x ∷ xs)) (λ answer. Last (x ∷ xs) answer)
more_known by x xs first rest = rw (messages_more is_no_exit x xs first) rest

module _ {S : Type 0} (may : Behavior S) where
  abbrev Known : Phase → List Exchange → Type 0
  Known q xs = Holds may Passed Last q xs

  passed : (x : Exchange) (m : Message) → x.came ≡ Some m → is_no_exit m ≡ true → Passed (x ∷ [])
  passed x m there is = rw (there, is) refl

  known_idle : (p q : Phase) (x : Exchange) (m : Message) (full : List Message) → x.came ≡ Some m → Idle p m full q
      → Known q (x ∷ [])
  known_idle p q x m full there (early_request i method params reply at is early sent next) = rw next (passed x m there
      (rw is refl))
  known_idle p q x m full there (early_note at mute early sent next) = rw next (passed x m there (early_no_exit m
      mute early))
  known_idle p q x m full there (unasked shown at mute other sent next) = rw next tt
  known_idle p q x m full there (uninvited shown at other sent next) = rw next tt
  known_idle p q x m full there (leaves at is sent next) = rw next tt
  known_idle p q x m full there (exits i at is sent next) = rw next tt
  known_idle p q x m full there (late i at is sent next) = rw next (passed x m there (reply_no_exit m is))
  known_idle p q x m full there (stays i shown at other sent next) = rw next tt

  known_case : (p q : Phase) (s s' : S) (x : Exchange) (full : List Message) → StepCase may p s x.came full q s'
      → Known q (x ∷ [])
  known_case p q s s' x full (at_initialize i method params outcome at is asks given sent next) =
      rw next (after_outcome may Passed Last outcome (x ∷ []) (passed x (request i method params) is refl))
  known_case p q s s' x full (at_initialized m at there is given next) = rw next (passed x m there
      (initialized_is_no_exit m is))
  known_case p q s s' x full (at_served m at there is given next) = rw next (passed x m there (served_is_no_exit m is))
  known_case p q s s' x full (at_woken at none given next) = rw (next, none) refl
  known_case p q s s' x full (at_shutdown i method params parting at is asks given sent next) = rw next
      (passed x (request i method params) is refl)
  known_case p q s s' x full (idle m there same step row) = known_idle p q x m full there row

  known : (p q : Phase) (s s' : S) (xs : List Exchange) → ended_by p ≡ None → Ran may p s xs q s' → Known q xs
  known p q s s' xs on run =
      holds may Passed Last refl (λ p q s s' x full row one none. known_case p q s s' x full row)
      (λ q x rest first more. more_known (ended_by q) x rest first more)
      p q s s' xs on run

  at_no_more : (q : Phase) (s s' : S) (xs : List Exchange) (answer : SessionAnswer) → Known q xs
      → Stops may q s no_more answer s'
      → StopsAtExit no_more (messages_of xs)
  at_no_more (ended by) s s' xs answer is stops = absurd stops
  at_no_more q s s' xs answer is stops = is

  pub session_facts : (p : Phase) (s s' : S) → ended_by p ≡ None → (xs : List Exchange) (stop : Stop)
      (answer : SessionAnswer) → SessionFrom may p s s' xs stop answer → StopsAtExit stop (messages_of xs)
  session_facts p s s' on xs no_more answer out =
      let way = ran may p out.last s out.after xs out.reached in
      elim way.2 [
        | inl same ↦ at_no_more way.0 out.after s' xs answer (known p way.0 s out.after xs on way.1) (rw same
            out.stopped)
        | inr broke ↦ absurd (rw broke.1 at out.stopped)
      ]
  session_facts p s s' on xs stop answer out = tt
