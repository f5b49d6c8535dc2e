-- A session of a handler, from that of the service that lends it.
use Rattle.lsp_message.specs.Id.{Id}
use Rattle.lsp_message.specs.Message.{Message, ErrorObject}
use Rattle.lsp_message.specs.declared.frame.limits.Limits.{Limits}
use Rattle.lsp_session.proofs.Ran.{StepCase, row, at_initialize, at_initialized, at_served, at_woken, at_shutdown, idle}
use Rattle.lsp_session.proofs.Ran.{Idle, early_request, early_note, unasked, uninvited, leaves, exits, late, stays}
use Rattle.lsp_session.specs.Boxes.{Sends, Receives}
use Rattle.lsp_session.specs.Event.{Event}
use Rattle.lsp_session.specs.HandlerService.{KeepsHandler, held_handler, lent_handler, own_handler}
use Rattle.lsp_session.specs.HandlerSession.{initialize_result, of_handler}
use Rattle.lsp_session.specs.Prompt.{Talks}
use Rattle.lsp_session.specs.Session.{Behavior, SessionAnswer, Exchange, Stop, decided, timed_out, refused, exhausted}
use Rattle.lsp_session.specs.Session.{Phase, starting, replied, serving, asked, broken, ended, phase_after, Step, Steps}
use Rattle.lsp_session.specs.Session.{AfterRefusal, IsOffered, Stops, SessionOut, SessionPart}
use Rattle.lsp_session.specs.SessionBytes.{ReadsMessage, SessionOver, Gives}
use Rattle.lsp_session.specs.SessionRun.{Runs}
use Rattle.lsp_session.specs.declared.lifecycle.SendFault.{SendFault}
use Rattle.lsp_session.specs.declared.loops.handler.SessionEnd.{SessionEnd}
use Rattle.lsp_session.specs.declared.loops.handler_application.HandlerApplication.{HandlerApplication}
use Rattle.lsp_session.specs.declared.loops.handler_service.HandlerService.{HandlerService}
use Rattle.lsp_session.specs.declared.loops.stream_session.SessionFault.{SessionFault}
use Rattle.serde_json.specs.Data.{Data}
use Rattle.serde_json.specs.View.{view}
use Rattle.std.proofs.Common.{◌≡◌, refl, sym, ◌∙◌, ap, inl, inr, ◌⊎◌, ℕ, List, [], ◌∷◌, Option, Some, None}
use Rattle.std.proofs.Common.{IfSome}
use Rattle.std.specs.Prelude.{Result, Ok}

module _ {S H : Type 0} (handler_of : S → H) (name_of : S → ℕ) (capabilities_of : S → Data) (answers : H → Id
    → List ℕ → Data → Result Data ErrorObject → H → Type 0) (notes : H → List ℕ
    → Data → H → Type 0) (capabilities : Data) where
  abbrev lent : Behavior S
  lent = held_handler handler_of name_of capabilities_of answers notes

  abbrev plain : Behavior H
  plain = of_handler answers notes capabilities

  -- the capabilities are there until `initialize` is answered
  abbrev pub Has : Phase → S → Type 0
  Has starting s = capabilities_of s ≡ capabilities
  Has phase s = Unit {0}

  -- one message, and the handler that was lent is still that one
  has_idle : (p p' : Phase) (s s' : S) (m : Message) (sent : List Message) → Has p s → s' ≡ s
      → Idle p m sent p' → Has p' s'
  has_idle p p' s s' m sent has same (early_request i method params reply here is early output next) = rw (next, same)
      (rw here at has)
  has_idle p p' s s' m sent has same (early_note here mute early output next) = rw (next, same) (rw here at has)
  has_idle p p' s s' m sent has same (unasked shown here mute other output next) = rw next tt
  has_idle p p' s s' m sent has same (uninvited shown here other output next) = rw next tt
  has_idle p p' s s' m sent has same (leaves here is output next) = rw next tt
  has_idle p p' s s' m sent has same (exits i here is output next) = rw next tt
  has_idle p p' s s' m sent has same (late i here is output next) = rw next tt
  has_idle p p' s s' m sent has same (stays i shown here other output next) = rw next tt

  step_case_as : (p p' : Phase) (s s' : S) (came : Option Message) (sent : List Message) → Has p s
      → StepCase lent p s came sent p' s'
      → Step plain p (handler_of s) came sent p' (handler_of s') × Has p' s' × ((name_of s')
      ≡ (name_of s))
  step_case_as p p' s s' came sent has (at_initialize i method params outcome here is asks given output next) =
      let last : p' ≡ replied = next ∙ ap (λ (x : Result Data ErrorObject). phase_after x) given.0 in
      let outcome_is = given.0 ∙ ap (λ (x : Data). Ok (initialize_result x)) (rw here at has) in
      (rw (here, is, asks) (outcome, (outcome_is, given.1.0), output, next), rw last tt, given.1.1)
  step_case_as p p' s s' came sent has (at_initialized m here there is given next) = (
    rw (here, there, is) (
      (
        given.0,
        given.1.0,
      ),
      next,
    ),
    rw next tt,
    given.1.1,
  )
  step_case_as p p' s s' came sent has (at_served m here there is given next) = (
    rw (here, there, is) (given.0, next),
    rw next tt,
    given.1,
  )
  step_case_as p p' s s' came sent has (at_woken here none given next) = (
    rw (here, none) ((given.0, given.1.0), next),
    rw next tt,
    given.1.1,
  )
  step_case_as p p' s s' came sent has (at_shutdown i method params parting here is asks given output next) =
      (rw (here, is, asks) (parting, (given.0, given.1.0), output, next), rw next tt, given.1.1)
  step_case_as p p' s s' came sent has (idle m there same step row) = (
    rw (there, ap handler_of same) (step H plain (handler_of s) refl),
    has_idle p p' s s' m sent has same row,
    ap name_of same,
  )

  has_refused : (more : List Message) (next p' : Phase) (s' : S) → AfterRefusal more next p' → Has p' s'
  has_refused [] (asked i) p' s' after = rw after tt
  has_refused more next p' s' after = rw after.1 tt

  has_offered : (given output : List Message) (lost : Option Message) (next p' : Phase) (s' : S) → IsOffered given
      output lost next p' → Has next s' → Has p' s'
  has_offered given output None next p' s' offers has = rw offers.1 has
  has_offered given output (Some m) next p' s' offers has = has_refused offers.0 next p' s' offers.2

  steps_as : (p p' : Phase) (s s' : S) (xs : List Exchange) → Has p s → Steps lent p s xs p' s'
      → Steps plain p (handler_of s) xs p' (handler_of s') × ((name_of s') ≡ (name_of s))
  steps_as p p' s s' [] has steps = (
    ap (λ (a : Phase × S). (a.0, handler_of a.1)) steps,
    ap (λ (a : Phase × S). name_of a.1) (sym steps),
  )
  steps_as p p' s s' (x ∷ xs) has steps =
      let turn = steps.1 in
      let one = step_case_as p turn.next s steps.0.1 x.came turn.given has (row lent p turn.next s steps.0.1 x.came
      turn.given turn.step) in
      let more = steps_as steps.0.0 p' steps.0.1 s' xs (has_offered turn.given x.sent x.not_sent turn.next steps.0.0
      steps.0.1 turn.offers one.1) steps.2 in (
        (
          (steps.0.0, handler_of steps.0.1),
          record { given = turn.given; next = turn.next; step = one.0; offers = turn.offers },
          more.0,
        ),
        more.1 ∙ one.2,
      )

  module _ (s s' : S) (h' : H) (back : (name_of s') ≡ (name_of s) → h'
      ≡ (handler_of s')) where
    same : (after : S) → (name_of after) ≡ (name_of s) → s' ≡ after → h'
        ≡ (handler_of after)
    same after name e = back (ap name_of e ∙ name)
        ∙ ap handler_of e

    unserved : (after : S) → (name_of after) ≡ (name_of s) → (s' ≡ after)
        ⊎ KeepsHandler handler_of name_of capabilities_of after s' → (h' ≡ (handler_of after)) ⊎ (h' ≡
        (handler_of after))
    unserved after name left = elim left [
      | inl e ↦ inl (same after name e)
      | inr keeps ↦ inr (back (keeps.1 ∙ name) ∙ keeps.0)
    ]

    left_as : (p : Phase) (stop : Stop) (answer : SessionAnswer) (after : S) → (name_of after)
        ≡ (name_of s)
        → Stops lent p after stop answer s' → Stops plain p (handler_of after) stop answer h'
    left_as (ended by) decided answer after name stops = (stops.0, same after name stops.1)
    left_as (ended by) stop answer after name stops = absurd stops
    left_as (broken by) (refused fault) answer after name stops = (stops.0, stops.1, same after name stops.2)
    left_as (broken by) stop answer after name stops = absurd stops
    left_as p decided answer after name stops = absurd stops
    left_as p (refused fault) answer after name stops = absurd stops
    left_as (asked i) stop answer after name stops = (stops.0, same after name stops.1)
    left_as p timed_out answer after name stops = absurd stops
    left_as serving exhausted answer after name stops = stops
    left_as p exhausted answer after name stops = (stops.0, unserved after name stops.1)
    left_as p stop answer after name stops = (stops.0, same after name stops.1)

    pub held_as : (h : H) → (handler_of s) ≡ h → capabilities_of s ≡ capabilities
        → (xs : List Exchange) (stop : Stop) (answer : SessionAnswer)
        → SessionOut lent s s' xs stop answer → SessionOut plain h h' xs stop answer
    held_as h start has xs stop answer out =
        let steps = steps_as starting out.last s out.after xs has out.reached in
        record {
          last = out.last;
          after = (handler_of out.after);
          reached = rw start at steps.0;
          stopped = left_as out.last stop answer out.after steps.1 out.stopped;
        }

-- of a handler that was lent
pub session_as : {H : Type 0} (answers : H → Id → List ℕ → Data → Result Data ErrorObject → H → Type 0) (notes : H
    → List
    ℕ → Data → H → Type 0) (capabilities : Data) (s s' : HandlerService H) (h' : H)
    → (s'.handler.ghost_name ≡ s.handler.ghost_name → h' ≡ s'.handler.now)
    → (h : H) → s.handler.now ≡ h → view s.capabilities.now ≡ capabilities
    → (xs : List Exchange) (stop : Stop) (answer : SessionAnswer)
    → SessionOut (lent_handler answers notes) s s' xs stop answer
    → SessionOut (of_handler answers notes capabilities) h h' xs stop answer
session_as {H} answers notes capabilities s s' h' back = held_as (λ (s : HandlerService H). s.handler.now) (λ
    (s : HandlerService H). s.handler.ghost_name)
    (λ (s : HandlerService H). view s.capabilities.now) answers notes capabilities s s' h' back

-- of one that is owned
pub own_as : {H : Type 0} (answers : H → Id → List ℕ → Data → Result Data ErrorObject → H → Type 0) (notes : H → List
    ℕ → Data → H → Type 0) (s s' : HandlerApplication H)
    → (xs : List Exchange) (stop : Stop) (answer : SessionAnswer)
    → SessionOut (own_handler answers notes) s s' xs stop answer
    → SessionOut (of_handler answers notes (view s.capabilities)) s.handler s'.handler xs stop answer
own_as {H} answers notes s s' = held_as (λ (s : HandlerApplication H). s.handler) (λ (s : HandlerApplication H). 0)
    (λ (s : HandlerApplication H). view s.capabilities) answers notes
    (view s.capabilities) s s' s'.handler (λ names. refl) s.handler refl refl

-- A session that is described otherwise.
module _ (P Q : SessionPart)
    (to : (xs : List Exchange) (stop : Stop) (answer : SessionAnswer) → P xs stop answer → Q xs stop answer) where
  -- over boxes
  pub runs_as : {I O : Type 0} (receives : I → Event → I → Type 0) (sends : O → Message → Result (Unit {0}) SendFault
      → O → Type 0)
      (old new : I × O) (answer : SessionAnswer) → Runs receives sends P old answer new → Runs receives sends Q old
      answer new
  runs_as receives sends old new answer run = record {
    exchanges = run.exchanges;
    stop = run.stop;
    came = run.came;
    went = run.went;
    part = to run.exchanges run.stop answer run.part;
  }

  -- over one value with both ends
  pub talks_as : {L : Type 0} (receives listens : Receives L) (sends : Sends L) (phase : Phase) (old new : L)
      (answer : SessionAnswer)
      → Talks receives listens sends phase P old answer new → Talks receives listens sends phase Q old answer new
  talks_as receives listens sends phase old new answer talks = record {
    exchanges = talks.exchanges;
    stop = talks.stop;
    history = talks.history;
    part = to talks.exchanges talks.stop answer talks.part;
  }

  -- over a text, however it is read, and whatever is said of its end and of what was written
  pub over_as : {At : Type 0} (reads : At → Option Message → At → Type 0) (text : At) (Ends : SessionAnswer → Stop
      → At → Type 0)
      (Wrote : Stop → List Exchange → Type 0) → SessionOver reads P text Ends Wrote → SessionOver reads
      Q text Ends Wrote
  over_as reads text Ends Wrote g = record {
    exchanges = g.exchanges;
    at = g.at;
    read = g.read;
    stop = g.stop;
    answer = g.answer;
    part = to g.exchanges g.stop g.answer g.part;
    ends = g.ends;
    wrote = g.wrote;
  }

  -- if the bytes are known
  pub known_as : (limit : Limits) (known left old new : Option (List ℕ)) (answer : Result SessionEnd SessionFault)
      → IfSome known (λ text. Gives limit P text left old new answer)
      → IfSome known (λ text. Gives limit Q text left old new answer)
  known_as limit None left old new answer gives = tt
  known_as limit (Some text) left old new answer gives = over_as (ReadsMessage limit) text _ _ gives
