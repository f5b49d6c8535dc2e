-- What faults print for a person: their own texts, and what these mean. Where the system's reason stands at the end,
-- nothing is said of the text.
use Rattle.std.specs.Fmt.{decimal}
use Rattle.std.specs.Prelude.{ℕ, List, [], ◌++◌, Option, Some, None, codes, if◌then◌else◌}
use Rattle.lsp_message.specs.Faults.{read_fault_number, write_fault_number}
use Rattle.lsp_message.specs.declared.frame.ReadFault.{ReadFault}
use Rattle.lsp_message.specs.declared.frame.ReadFault.TheVariants.{Input, LineNotText, LineEnd, NoSeparator, BadLength}
use Rattle.lsp_message.specs.declared.frame.ReadFault.TheVariants.{NoLength, ShortBody, BodyNotText, NoJson, NoMessage}
use Rattle.lsp_message.specs.declared.frame.ReadFault.TheVariants.{Memory, TooLong, Batch, HeaderTooLong}
use Rattle.lsp_message.specs.declared.frame.WriteFault.{WriteFault}
use Rattle.lsp_message.specs.declared.frame.WriteFault.TheVariants.{Output, Memory as NoMemory}
use Rattle.lsp_relay.specs.StartFault.{start_fault_text}
use Rattle.lsp_server.specs.declared.io_fault.IoFault.{IoFault}
use Rattle.lsp_server.specs.declared.io_fault.IoFault.TheVariants.{Closed, Start, Socket, Memory as IoMemory}
use Rattle.lsp_server.specs.declared.io_fault.IoFault.TheVariants.{Read as IoRead, Write as IoWrite}
use Rattle.lsp_session.specs.ProtocolError.{ProtocolFault, fault_text, is_disconnected}
use Rattle.lsp_session.specs.declared.loops.stream_session.SessionFault.{SessionFault}
use Rattle.lsp_session.specs.declared.loops.stream_session.SessionFault.TheVariants as session
use Rattle.lsp_threads.specs.declared.pumping.PumpFault.{PumpFault}
use Rattle.lsp_threads.specs.declared.pumping.PumpFault.TheVariants as pump

abbrev pub read_meaning : ReadFault → List ℕ
read_meaning (Input kind) = codes "the read failed"
read_meaning LineNotText = codes "a header line is not UTF-8"
read_meaning LineEnd = codes "a header line does not end in \\r\\n"
read_meaning NoSeparator = codes "a header line has no `: `"
read_meaning BadLength = codes "the value of `Content-Length` is no number"
read_meaning NoLength = codes "the header part has no `Content-Length`"
read_meaning ShortBody = codes "the input ended inside a content part"
read_meaning BodyNotText = codes "the content part is not UTF-8"
read_meaning NoJson =
    codes "the content part is not JSON that can be read; is `Content-Length` too small?"
read_meaning NoMessage = codes "the content part is JSON, but no message"
read_meaning Memory = codes "out of memory"
read_meaning TooLong = codes "the content part is above the limit"
read_meaning Batch = codes "the content part is a batch: LSP has none"
read_meaning HeaderTooLong = codes "the header part is above the limit"

abbrev pub read_with : ReadFault → List ℕ
read_with fault = codes "read fault " ++ (decimal (read_fault_number fault) ++ (codes ": " ++ read_meaning fault))

abbrev pub read_explained : ReadFault → Option (List ℕ)
read_explained (Input kind) = None
read_explained LineNotText = Some (read_with LineNotText)
read_explained LineEnd = Some (read_with LineEnd)
read_explained NoSeparator = Some (read_with NoSeparator)
read_explained BadLength = Some (read_with BadLength)
read_explained NoLength = Some (read_with NoLength)
read_explained ShortBody = Some (read_with ShortBody)
read_explained BodyNotText = Some (read_with BodyNotText)
read_explained NoJson = Some (read_with NoJson)
read_explained NoMessage = Some (read_with NoMessage)
read_explained Memory = Some (read_with Memory)
read_explained TooLong = Some (read_with TooLong)
read_explained Batch = Some (read_with Batch)
read_explained HeaderTooLong = Some (read_with HeaderTooLong)

abbrev pub write_explained : WriteFault → Option (List ℕ)
write_explained (Output kind) = None
write_explained NoMemory = Some (codes "write fault " ++ (decimal (write_fault_number NoMemory)
    ++ codes ": out of memory"))

-- behind the text of an error of the lifecycle
abbrev pub protocol_meaning : ProtocolFault → List ℕ
protocol_meaning fault = if is_disconnected fault then codes ": the messages ended too early" else []

abbrev pub protocol_explained : ProtocolFault → Option (List ℕ)
protocol_explained fault = Some (fault_text fault ++ protocol_meaning fault)

abbrev pub session_explained : SessionFault → Option (List ℕ)
session_explained (session.Protocol fault) = protocol_explained fault
session_explained (session.Read fault) = read_explained fault
session_explained (session.Write fault) = write_explained fault
session_explained session.Memory = Some (codes "out of memory")

abbrev pub pump_explained : PumpFault → Option (List ℕ)
pump_explained (pump.Read fault) = read_explained fault
pump_explained (pump.Write fault) = write_explained fault
pump_explained (pump.Start fault) = start_fault_text fault

abbrev pub io_explained : IoFault → Option (List ℕ)
io_explained (IoRead fault) = read_explained fault
io_explained (IoWrite fault) = write_explained fault
io_explained Closed = Some (codes "channel closed: the receiver of messages was dropped")
io_explained Start = Some (codes "thread not started")
io_explained (Socket kind) = None
io_explained IoMemory = Some (codes "out of memory")
