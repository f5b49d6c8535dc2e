-- The numbers and texts of the faults of a connection's worker threads.
use Rattle.std.specs.Prelude.{ℕ, List, Bool, true, false, Option, Some, Result, Ok, Err, codes}
use Rattle.lsp_message.specs.Faults.{read_fault_text, write_fault_text}
use Rattle.lsp_session.specs.declared.loops.ReadEnd.{ReadEnd}
use Rattle.lsp_session.specs.declared.loops.ReadEnd.TheVariants.{Exit, End, Fault, Closed as OutboxClosed}
use Rattle.lsp_session.specs.declared.loops.ReadEnd.TheVariants.{Memory as OutboxMemory}
use Rattle.lsp_server.specs.declared.io_fault.IoFault.{IoFault}
use Rattle.lsp_server.specs.declared.io_fault.IoFault.TheVariants.{Read, Write, Closed, Start, Socket, Memory}

abbrev pub io_fault_number : IoFault → ℕ
io_fault_number (Read fault) = 1
io_fault_number (Write fault) = 2
io_fault_number Closed = 3
io_fault_number Start = 4
io_fault_number (Socket kind) = 5
io_fault_number Memory = 6

-- what a fault prints
abbrev pub io_fault_text : IoFault → Option (List ℕ)
io_fault_text (Read fault) = read_fault_text fault
io_fault_text (Write fault) = write_fault_text fault
io_fault_text Closed = Some (codes "channel closed")
io_fault_text Start = Some (codes "thread not started")
io_fault_text (Socket kind) = Some (codes "socket fault")
io_fault_text Memory = Some (codes "out of memory")

-- the faults of a connection whose threads are started: a thread was refused, or memory for a channel or a buffer
abbrev pub is_start_fault : IoFault → Bool
is_start_fault (Read fault) = false
is_start_fault (Write fault) = false
is_start_fault Closed = false
is_start_fault Start = true
is_start_fault (Socket kind) = false
is_start_fault Memory = true

-- the faults of a connection over a socket: the same, or one of the socket
abbrev pub is_connect_fault : IoFault → Bool
is_connect_fault (Read fault) = false
is_connect_fault (Write fault) = false
is_connect_fault Closed = false
is_connect_fault Start = true
is_connect_fault (Socket kind) = true
is_connect_fault Memory = true

-- what the thread that reads answers. For private clauses.
abbrev pub reader_answer : ReadEnd → Result (Unit {0}) IoFault
reader_answer Exit = Ok tt
reader_answer End = Ok tt
reader_answer (Fault fault) = Err (Read fault)
reader_answer OutboxClosed = Err Closed
reader_answer OutboxMemory = Err Memory
