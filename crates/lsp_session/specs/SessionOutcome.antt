-- Why a session stopped, as its result says.
use Rattle.std.specs.List.{list_all}
use Rattle.std.specs.Prelude.{◌≡◌, Bool, true, not, List, Result, Ok, Err}
use Rattle.lsp_message.specs.Message.{Message}
use Rattle.lsp_message.specs.Methods.{is_exit}
use Rattle.lsp_session.specs.ProtocolError.{ProtocolFault, disconnected, shutdown_timeout, shutdown_disconnected}
use Rattle.lsp_session.specs.ProtocolError.{out_of_memory, refused_closed, refused_memory}
use Rattle.lsp_session.specs.Session.{SessionPart, messages_of, Stop, decided, no_more, timed_out, refused, exhausted}
use Rattle.lsp_session.specs.declared.loops.session_outcome.SessionOutcome.{SessionOutcome}
use Rattle.lsp_session.specs.declared.loops.session_outcome.StopReason.{StopReason}
use Rattle.lsp_session.specs.declared.loops.session_outcome.StopReason.TheVariants.{Decided, NoMore, TimedOut, Refused}
use Rattle.lsp_session.specs.declared.loops.session_outcome.StopReason.TheVariants.{Exhausted}

abbrev pub reason_of : Stop → StopReason
reason_of decided = Decided
reason_of no_more = NoMore
reason_of timed_out = TimedOut
reason_of (refused fault) = Refused
reason_of exhausted = Exhausted

-- the session stopped for this reason
abbrev pub StopsFor : StopReason → SessionPart
StopsFor reason exchanges stop answer = reason ≡ reason_of stop

abbrev pub is_no_exit : Message → Bool
is_no_exit m = not (is_exit m)

-- A session stops at `exit`: if it stopped because the messages ended, none of those that arrived was `exit`.
abbrev pub StopsAtExit : Stop → List Message → Type 0
StopsAtExit no_more messages = list_all is_no_exit messages ≡ true
StopsAtExit stop messages = Unit {0}

-- the session stopped for this reason, and at `exit`
abbrev pub StopsBy : StopReason → SessionPart
StopsBy reason exchanges stop answer = StopsFor reason exchanges stop answer
    × StopsAtExit stop (messages_of exchanges)

-- For private clauses: why a session stopped that ends with this fault.
abbrev pub reason_of_fault : ProtocolFault → StopReason
reason_of_fault disconnected = NoMore
reason_of_fault shutdown_disconnected = NoMore
reason_of_fault shutdown_timeout = TimedOut
reason_of_fault refused_closed = Refused
reason_of_fault refused_memory = Refused
reason_of_fault out_of_memory = Exhausted
reason_of_fault fault = Decided

-- For private clauses: how a session ended, also where that is a fault.
abbrev pub served_by : Result SessionOutcome ProtocolFault → SessionOutcome
served_by (Ok served) = served
served_by (Err fault) = record { answer = Err fault; stop = reason_of_fault fault }
