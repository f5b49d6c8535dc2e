-- One turn of a session over a transport. For private clauses.
use Rattle.std.specs.Prelude.{◌≡◌, List, Option, Result, Ok, Err, MatchOption}
use Rattle.lsp_message.specs.Id.{Id}
use Rattle.lsp_message.specs.Message.{Message}
use Rattle.lsp_session.specs.Boxes.{Sends, Receives, Offers}
use Rattle.lsp_session.specs.Event.{Event}
use Rattle.lsp_session.specs.Machine.{Advances, IsAwaited, sends_with, reply_of, phase_of}
use Rattle.lsp_session.specs.Outputs.{SendsAll}
use Rattle.lsp_session.specs.Prompt.{WaitsIn}
use Rattle.lsp_session.specs.ProtocolError.{ProtocolFault}
use Rattle.lsp_session.specs.Replies.{null_reply}
use Rattle.lsp_session.specs.Session.{Behavior}
use Rattle.lsp_session.specs.SessionOutcome.{served_by}
use Rattle.lsp_session.specs.declared.loops.machine.Stage.{Stage}
use Rattle.lsp_session.specs.declared.loops.machine.Stage.TheVariants.{Ended}

-- the session ended
abbrev pub IsOver : Stage → Type 0
IsOver (Ended outcome) = Unit {0}
IsOver stage = ⊥

module _ {L : Type 0} (receives listens : Receives L) where
  module _ (sends : Sends L) where
    -- After the messages of a turn: if all were taken, the reply to `shutdown` is offered where it is due, and the
    -- session goes on as it decided. If one was refused, that fault ends the session.
    abbrev pub SendsTurn : Result (Unit {0}) ProtocolFault → Option Id → Stage → L → Stage → L → Type 0
    SendsTurn (Ok done) reply gone mid stage new = (stage ≡ gone)
        × MatchOption reply (new ≡ mid) (λ id. Offers sends (null_reply id) mid new)
    SendsTurn (Err fault) reply gone mid stage new = (stage ≡ Ended (served_by (Err fault))) × (new ≡ mid)

    module _ {S : Type 0} (may : Behavior S) where
      -- One event is awaited, the machine takes it, and the messages of that turn are sent, up to a refused one.
      pub record TurnsOn (old new : Stage × S × L) : Type 0 where
        pub event : Event
        pub awaited : IsAwaited old.0 event
        pub met : L
        pub awaits : WaitsIn receives listens (phase_of old.0) old.2 event met
        pub sent : List Message
        pub reply : Option Id
        pub gone : Stage
        pub advances : Advances may (old.0, old.1) event (sends_with sent reply) (gone, new.1)
        pub due : reply ≡ reply_of gone old.0
        pub outcome : Result (Unit {0}) ProtocolFault
        pub mid : L
        pub sends_all : SendsAll sends met sent outcome mid
        pub rest : SendsTurn outcome reply gone mid new.0 new.2
