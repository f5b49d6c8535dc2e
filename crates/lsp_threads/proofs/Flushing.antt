-- What was flushed at the end, of a session and of a pump.
use Rattle.std.proofs.Common.{◌≡◌, inl, [], Bool, true, false, Option, Some, None, Result, Ok, Err}
use Rattle.lsp_message.specs.Told.{Parts}
use Rattle.lsp_message.specs.declared.frame.ReadFault.TheVariants.{Memory as NoMemoryToRead}
use Rattle.lsp_message.specs.declared.frame.WriteFault.{WriteFault}
use Rattle.lsp_message.specs.declared.frame.WriteFault.TheVariants.{Output, Memory as NoMemory}
use Rattle.lsp_session.specs.Session.{SessionAnswer}
use Rattle.lsp_session.specs.SessionFault.{session_answer}
use Rattle.lsp_session.specs.declared.loops.ReadEnd.{ReadEnd}
use Rattle.lsp_session.specs.declared.loops.ReadEnd.TheVariants.{Exit, End, Fault, Closed, Memory}
use Rattle.lsp_session.specs.declared.loops.session_outcome.StopReason.{StopReason}
use Rattle.lsp_session.specs.declared.loops.session_outcome.StopReason.TheVariants.{NoMore, Exhausted}
use Rattle.lsp_threads.specs.Passing.{IsFlushed, IsFlushedUnless}
use Rattle.lsp_threads.specs.Pump.{pump_answer, PumpFlushes}
use Rattle.lsp_threads.specs.Replies.{reply_fault}
use Rattle.lsp_threads.specs.Threads.{FlushesInThreads}
use Rattle.lsp_threads.specs.declared.pumping.PumpFault.{PumpFault}
use Rattle.lsp_threads.specs.declared.pumping.PumpFault.TheVariants.{Start}
use Rattle.lsp_relay.specs.declared.start_fault.StartFault.{StartFault}

module _ (given : Parts) where
  -- a session whose output did not fail has no fault of writing
  answered : IsFlushed given → (stop : StopReason) (answer : SessionAnswer) (end : Option ReadEnd)
      → FlushesInThreads (session_answer stop answer end None) given
  answered is Exhausted answer end = is
  answered is NoMore answer (Some (Fault NoMemoryToRead)) = is
  answered is NoMore answer (Some (Fault fault)) = is
  answered is NoMore answer None = is
  answered is stop (Ok done) end = is
  answered is stop (Err fault) end = is

  pub session_flushed : (stop : StopReason) (answer : SessionAnswer) (end : Option ReadEnd) (fault : Option WriteFault)
      (failed : Bool) → IsFlushedUnless fault given
      → FlushesInThreads (session_answer stop answer end (reply_fault fault failed)) given
  session_flushed stop answer end (Some (Output kind)) failed is = tt
  session_flushed stop answer end (Some NoMemory) failed is = is
  session_flushed stop answer end None true is = is
  session_flushed stop answer end None false is = answered is stop answer end

  pub pump_flushed : (end : ReadEnd) (fault : Option WriteFault) → IsFlushedUnless fault given
      → PumpFlushes (pump_answer end fault) given
  pump_flushed end (Some (Output kind)) is = tt
  pump_flushed end (Some NoMemory) is = is
  pump_flushed Exit None is = is
  pump_flushed End None is = is
  pump_flushed (Fault fault) None is = is
  pump_flushed Closed None is = is
  pump_flushed Memory None is = is

  -- a pump that did not start gave nothing
  pub nothing_flushed : (answer : Result (Unit {0}) PumpFault) (fault : StartFault) → answer ≡ Err (Start fault)
      → given ≡ [] → PumpFlushes answer given
  nothing_flushed answer fault is none = rw is (inl none)
