-- What the thread that writes tells when it ends. For private clauses.
use Rattle.std.specs.Prelude.{◌≡◌, [], Some}
use Rattle.lsp_threads.specs.Passing.{noted}
use Rattle.lsp_server.specs.Taken.{taken_of}
use Rattle.lsp_server.specs.Writing.{WritesMessages}
use Rattle.lsp_server.specs.declared.writer_end.WriterEnd.{WriterEnd}
use Rattle.lsp_server.specs.declared.writer_end.WritesChannel.{WritesChannel}

-- it took messages from the channel of its promise, and wrote them, as if the writer began empty
abbrev pub Wrote : WritesChannel → WriterEnd → Type 0
Wrote promise end = (end.channel.value ≡ promise.channel.value)
    × WritesMessages (taken_of end.taken) (Some []) end.answer (noted end.given)
