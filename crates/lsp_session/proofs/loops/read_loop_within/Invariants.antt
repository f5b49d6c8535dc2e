use Rattle.std.specs.Prelude.{List}
use Rattle.lsp_message.specs.Message.{Message}
use Rattle.lsp_message.specs.Limits.{of_content}
use Rattle.lsp_session.specs.WriteLoop.{OffersAll}
use Rattle.lsp_session.proofs.Handing.{Handed}
use Rattle.lsp_session.proofs.loops.read_loop_within.Given as goal

abbrev pub invariant-loop : goal.invariant-loop
invariant-loop g l = record {
  handed : Handed (of_content l.limit) g.O.Outbox.sends (g.R.Read.remaining l.fn.reader) (g.R.Read.remaining l.reader)
      l.fn.outbox l.outbox;
  offered : (ms : List Message) × OffersAll g.O.Outbox.sends l.fn.outbox ms l.outbox;
}
