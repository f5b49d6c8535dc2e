use Rattle.std.specs.Prelude.{string_bytes}
use Rattle.lsp_threads.specs.Passing.{GivesMore, noted}
use Rattle.lsp_server.proofs.Gathering.{Gathered}
use Rattle.lsp_server.specs.Taken.{taken_of}
use Rattle.lsp_server.proofs.writing.write_behind.Given as goal

-- frames were gathered
abbrev pub invariant-loop : goal.invariant-loop
invariant-loop g l = record {
  gathered : Gathered (string_bytes l.fn.frame) (string_bytes l.gathered) (taken_of l.fn.outgoing.taken)
      (taken_of l.outgoing.taken) (noted l.fn.given) (noted l.given);
  given : GivesMore l.fn.given.parts l.given.parts (g.W.Write.contents l.fn.writer) (g.W.Write.contents l.writer);
}
