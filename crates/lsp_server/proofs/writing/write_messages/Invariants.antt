use Rattle.lsp_message.specs.Written.{GetsFrames}
use Rattle.lsp_threads.specs.Passing.{GivesMore, noted}
use Rattle.lsp_server.specs.Taken.{taken_of}
use Rattle.lsp_server.proofs.writing.write_messages.Given as goal

-- all messages so far were written
abbrev pub invariant-loop : goal.invariant-loop
invariant-loop g l = record {
  written : GetsFrames (taken_of l.outgoing.taken).messages (noted l.fn.given) (noted l.given);
  given : GivesMore l.fn.given.parts l.given.parts (g.W.Write.contents l.fn.writer) (g.W.Write.contents l.writer);
}
