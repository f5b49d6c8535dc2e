-- The answer of a session over a reader and a writer, by its parts, and what its faults print.
use Rattle.std.specs.Prelude.{ℕ, List, Option, Some, None, Result, Ok, Err, codes}
use Rattle.std.specs.declared.io.ErrorKind.TheVariants.{Other}
use Rattle.lsp_message.specs.Faults.{read_fault_text, write_fault_text}
use Rattle.lsp_message.specs.declared.frame.ReadFault.TheVariants.{Input, Memory as NoMemoryToRead}
use Rattle.lsp_message.specs.declared.frame.WriteFault.{WriteFault}
use Rattle.lsp_message.specs.declared.frame.WriteFault.TheVariants.{Output, Memory as NoMemory}
use Rattle.lsp_session.specs.ProtocolError.{fault_text}
use Rattle.lsp_session.specs.Session.{SessionAnswer}
use Rattle.lsp_session.specs.declared.loops.ReadEnd.{ReadEnd}
use Rattle.lsp_session.specs.declared.loops.ReadEnd.TheVariants.{Fault}
use Rattle.lsp_session.specs.declared.loops.handler.SessionEnd.{SessionEnd}
use Rattle.lsp_session.specs.declared.loops.session_outcome.StopReason.{StopReason}
use Rattle.lsp_session.specs.declared.loops.session_outcome.StopReason.TheVariants.{NoMore, Exhausted}
use Rattle.lsp_session.specs.declared.loops.stream_session.SessionFault.{SessionFault}
use Rattle.lsp_session.specs.declared.loops.stream_session.SessionFault.TheVariants.{Protocol, Read, Write, Memory}

-- Of a session that stopped so with this answer, whose messages ended so, and whose output failed
-- so. The first row that fits counts. If no more came and nothing ended the messages, it had taken
-- as many as it can count.
abbrev pub session_answer : StopReason → SessionAnswer → Option ReadEnd → Option WriteFault
    → Result SessionEnd SessionFault
session_answer stop answer end (Some (Output kind)) = Err (Write (Output kind))
session_answer stop answer end (Some NoMemory) = Err Memory
session_answer Exhausted answer end None = Err Memory
session_answer NoMore answer (Some (Fault NoMemoryToRead)) None = Err Memory
session_answer NoMore answer (Some (Fault fault)) None = Err (Read fault)
session_answer NoMore answer None None = Err (Read (Input Other))
session_answer stop (Ok end) read None = Ok end
session_answer stop (Err fault) read None = Err (Protocol fault)

abbrev pub session_fault_text : SessionFault → Option (List ℕ)
session_fault_text (Protocol fault) = Some (fault_text fault)
session_fault_text (Read fault) = read_fault_text fault
session_fault_text (Write fault) = write_fault_text fault
session_fault_text Memory = Some (codes "out of memory")
