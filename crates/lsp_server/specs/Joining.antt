-- What the thread of a connection that writes is known to have told. For private clauses.
use Rattle.std.specs.Prelude.{◌≡◌, Result, Ok, Err}
use Rattle.lsp_server.specs.Wrote.{Wrote}
use Rattle.lsp_server.specs.declared.io_fault.IoFault.{IoFault}
use Rattle.lsp_server.specs.declared.io_threads.Writer.{Writer}
use Rattle.lsp_server.specs.declared.io_threads.Writer.TheVariants.{Started, Ended}
use Rattle.lsp_server.specs.declared.writer_end.WriterEnd.{WriterEnd}

-- this is what the thread tells, or told
abbrev pub IsEndOf : Writer → WriterEnd → Type 0
IsEndOf (Started thread) end = Wrote thread.promise end
IsEndOf (Ended told) end = end ≡ told

-- the thread has ended
abbrev pub HasEnded : Writer → Writer → Type 0
HasEnded old (Started thread) = ⊥
HasEnded old (Ended end) = IsEndOf old end

-- nothing failed: the thread told that all was written
abbrev pub Joined : Writer → Result (Unit {0}) IoFault → Type 0
Joined writer (Ok done) = (end : WriterEnd) × IsEndOf writer end × (end.answer ≡ Ok tt)
Joined writer (Err fault) = Unit {0}
