-- Each step of the machine is a row of the table, or its end.
use Rattle.lsp_message.specs.Id.{Id}
use Rattle.lsp_message.specs.Message.{Message, request, notification, response}
use Rattle.lsp_message.specs.Methods.{is_early, is_initialized, is_exit}
use Rattle.lsp_session.proofs.Late.{late_step}
use Rattle.lsp_session.proofs.Ran.{IsNoRequest}
use Rattle.lsp_session.specs.Event.{message}
use Rattle.lsp_session.specs.Finish.{FinishAnswer, EventFinishes, IsUninvited}
use Rattle.lsp_session.specs.Machine.{Row, Fails, phase_of}
use Rattle.lsp_session.specs.ProtocolError.{ProtocolFault, Shows, out_of_memory, expected_initialize}
use Rattle.lsp_session.specs.ProtocolError.{expected_initialized, unexpected_in_shutdown}
use Rattle.lsp_session.specs.Replies.{null_reply}
use Rattle.lsp_session.specs.Session.{Behavior, ended, asked, exhausted, is_reply, Step, Stops}
use Rattle.lsp_session.specs.SessionOutcome.{reason_of_fault}
use Rattle.lsp_session.specs.Shutdown.{ShutdownAnswer, IsNoExit, EventShutsDown}
use Rattle.lsp_session.specs.declared.loops.handler.SessionEnd.TheVariants.{ShutDown, Closed}
use Rattle.lsp_session.specs.declared.loops.machine.Stage.{Stage}
use Rattle.lsp_session.specs.declared.loops.machine.Stage.TheVariants.{Starting, Replied, Serving, Asked, Ended}
use Rattle.lsp_session.specs.declared.loops.session_outcome.StopReason.{StopReason}
use Rattle.lsp_session.specs.declared.loops.session_outcome.StopReason.TheVariants.{Decided}
use Rattle.serde_json.specs.Data.{Data}
use Rattle.std.proofs.Common.{◌≡◌, refl, ap, inl, inr, ◌⊎◌, ℕ, Bool, true, false, ◌&&◌, List, [], ◌∷◌, ◌++◌}
use Rattle.std.proofs.Common.{Some, codes}
use Rattle.std.specs.Bool.{MatchBool}
use Rattle.std.specs.Prelude.{Ok, Err, IsErrAnd}
use Rattle.std.specs.Str.{bytes_eq}

module _ {S : Type 0} (may : Behavior S) (s : S) where
  -- a message that is not awaited: the fault shows it, or memory ran out for that
  fails : (old : Stage) (m : Message) (fault : ProtocolFault) (make : List ℕ → ProtocolFault)
      → ((shown : List ℕ) → reason_of_fault (make shown) ≡ Decided)
      → ((shown : List ℕ) → Step may (phase_of old) s (Some m) [] (ended (Err (make shown))) s)
      → Stops may (phase_of old) s exhausted (Err out_of_memory) s
      → Shows make fault ⊎ (fault ≡ out_of_memory) → Fails may old s (message m) fault s
  fails old m fault make why step stops (inl shows) = rw shows.1 (inl (record {
    next = ended (Err (make shows.0));
    step = step shows.0;
    now = ap (λ (r : StopReason). Ended (record { answer = Err (make shows.0); stop = r })) (why shows.0);
  }))
  fails old m fault make why step stops (inr memory) =
      rw memory (inr (record { silent = refl; answer = Err out_of_memory; stops = stops; now = refl }))

  pub start_fails : (m : Message) (fault : ProtocolFault) → IsNoRequest m → is_early m ≡ false
      → Shows expected_initialize fault ⊎ (fault ≡ out_of_memory) → Fails may Starting s (message m) fault s
  start_fails (request id method params) fault none e shows = absurd none
  start_fails (notification method params) fault none e shows =
      fails Starting (notification method params) fault expected_initialize (λ n. refl)
      (λ n. (rw e (n, refl, refl), refl)) (refl, inl refl) shows
  start_fails (response id outcome) fault none e shows =
      fails Starting (response id outcome) fault expected_initialize (λ n. refl) (λ n. ((n, refl, refl), refl))
      (refl, inl refl) shows

  pub open_fails : (m : Message) (fault : ProtocolFault) → EventFinishes (message m) (Err fault)
      → Fails may Replied s (message m) fault s
  open_fails m fault decides = by_name (is_initialized m) refl decides
    where
      by_name : (b : Bool) → is_initialized m ≡ b → MatchBool b (◌≡◌ {A = FinishAnswer} (Err fault) (Ok tt))
          (IsUninvited fault) → Fails may Replied s (message m) fault s
      by_name true e decides = cc
      by_name false e decides =
          fails Replied m fault expected_initialized (λ n. refl) (λ n. rw e ((n, refl, refl), refl)) (refl, inl refl)
          decides

  pub exit_row : (m : Message) → is_exit m ≡ true
      → Row may (Serving, s) (Some m) [] (Ended (record { answer = Ok Closed; stop = Decided }), s)
  exit_row (notification method params) e = record {
    next = ended (Ok Closed);
    step = rw e (refl, refl, refl);
    now = refl;
  }
  exit_row m e = absurd (cc (e))

  pub shutdown_row : (s' : S) (id id' : Id) (method : List ℕ) (params : Data) (parting : List Message) → id' ≡ id
      → bytes_eq method (codes "shutdown") ≡ true → may.at_shutdown s id parting s'
      → Row may (Serving, s) (Some (request id method params)) (parting ++ null_reply id' ∷ []) (Asked id, s')
  shutdown_row s' id id' method params parting same asks gives = record {
    next = asked id;
    step = rw (asks, same) (parting, gives, refl, refl);
    now = refl;
  }

  pub late_row : (id : Id) (m : Message) → (may.passes_late && is_reply m) ≡ true
      → Row may (Asked id, s) (Some m) [] (Asked id, s)
  late_row id m passes = record { next = asked id; step = late_step may id s m passes; now = refl }

  pub leave_fails : (id : Id) (m : Message) (fault : ProtocolFault) → (may.passes_late && is_reply m) ≡ false
      → EventShutsDown (message m) (Err fault) → Fails may (Asked id) s (message m) fault s
  leave_fails id m fault other decides = by_name (Err fault) refl (is_exit m) refl decides
    where
      by_name : (answer : ShutdownAnswer) → answer ≡ Err fault → (c : Bool) → is_exit m ≡ c
          → MatchBool c (answer ≡ Ok true) (IsErrAnd answer IsNoExit) → Fails may (Asked id) s (message m) fault s
      by_name (Ok b) is c e decides = absurd (cc (is))
      by_name (Err other_fault) is true e decides = absurd (cc (decides))
      by_name (Err other_fault) is false e decides =
          let same : other_fault ≡ fault = cc (is) in
          fails (Asked id) m fault unexpected_in_shutdown (λ n. refl) (λ n. (rw (e, other) (n, refl, refl), refl))
          (refl, refl) (rw same at decides)

  pub leave_row : (id : Id) (m : Message) (b : Bool) → EventShutsDown (message m) (Ok b)
      → Row may (Asked id, s) (Some m) [] (Ended (record { answer = Ok ShutDown; stop = Decided }), s)
  leave_row id m b decides = by_name (Ok b) refl (is_exit m) refl decides
    where
      by_name : (answer : ShutdownAnswer) → answer ≡ Ok b → (c : Bool) → is_exit m ≡ c
          → MatchBool c (answer ≡ Ok true) (IsErrAnd answer IsNoExit)
          → Row may (Asked id, s) (Some m) [] (Ended (record { answer = Ok ShutDown; stop = Decided }), s)
      by_name answer is true e decides = record {
        next = ended (Ok ShutDown);
        step = (rw e (refl, refl), refl);
        now = refl;
      }
      by_name (Ok c') is false e decides = absurd decides
      by_name (Err fault) is false e decides = absurd (cc (is))
