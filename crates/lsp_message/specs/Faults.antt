-- The numbers and kinds of the faults of reading and writing.
use Rattle.std.specs.Fmt.{decimal}
use Rattle.std.specs.Prelude.{ℕ, List, ◌++◌, Option, Some, codes}
use Rattle.std.specs.declared.io.ErrorKind.{ErrorKind}
use Rattle.std.specs.declared.io.ErrorKind.TheVariants.{InvalidData, UnexpectedEof, OutOfMemory}
use Rattle.lsp_message.specs.declared.frame.ReadFault.{ReadFault}
use Rattle.lsp_message.specs.declared.frame.ReadFault.TheVariants.{Input, LineNotText, LineEnd, NoSeparator, BadLength}
use Rattle.lsp_message.specs.declared.frame.ReadFault.TheVariants.{NoLength, ShortBody, BodyNotText, NoJson, NoMessage}
use Rattle.lsp_message.specs.declared.frame.ReadFault.TheVariants.{Memory, TooLong, Batch, HeaderTooLong}
use Rattle.lsp_message.specs.declared.frame.WriteFault.{WriteFault}
use Rattle.lsp_message.specs.declared.frame.WriteFault.TheVariants.{Output, Memory as NoMemory}

abbrev pub read_fault_number : ReadFault → ℕ
read_fault_number (Input kind) = 1
read_fault_number LineNotText = 2
read_fault_number LineEnd = 3
read_fault_number NoSeparator = 4
read_fault_number BadLength = 5
read_fault_number NoLength = 6
read_fault_number ShortBody = 7
read_fault_number BodyNotText = 8
read_fault_number NoJson = 9
read_fault_number NoMessage = 10
read_fault_number Memory = 11
read_fault_number TooLong = 12
read_fault_number Batch = 13
read_fault_number HeaderTooLong = 14

-- the reader's own, for an input that failed
abbrev pub read_fault_kind : ReadFault → ErrorKind
read_fault_kind (Input kind) = kind
read_fault_kind LineNotText = InvalidData
read_fault_kind LineEnd = InvalidData
read_fault_kind NoSeparator = InvalidData
read_fault_kind BadLength = InvalidData
read_fault_kind NoLength = InvalidData
read_fault_kind ShortBody = UnexpectedEof
read_fault_kind BodyNotText = InvalidData
read_fault_kind NoJson = InvalidData
read_fault_kind NoMessage = InvalidData
read_fault_kind Memory = OutOfMemory
read_fault_kind TooLong = InvalidData
read_fault_kind Batch = InvalidData
read_fault_kind HeaderTooLong = InvalidData

abbrev pub write_fault_number : WriteFault → ℕ
write_fault_number (Output kind) = 1
write_fault_number NoMemory = 2

-- what a fault prints
abbrev pub read_fault_text : ReadFault → Option (List ℕ)
read_fault_text fault = Some (codes "read fault " ++ decimal (read_fault_number fault))

abbrev pub write_fault_text : WriteFault → Option (List ℕ)
write_fault_text fault = Some (codes "write fault " ++ decimal (write_fault_number fault))
