use Rattle.std.proofs.Common.{◌≡◌, ◌∙◌, sym, subst, length}
use Rattle.crossbeam_channel.specs.Claims.{view as knows}
use Rattle.lsp_jobs.proofs.Tables.{same_view}
use Rattle.lsp_jobs.proofs.Tickets.{takes}
use Rattle.lsp_jobs.specs.Outcomes.{KnowsAll, all_jobs}
use Rattle.lsp_jobs.specs.Waiting.{HaveTickets, entry_of}
use Rattle.lsp_jobs.specs.declared.channel.Known.{Known}
use Rattle.lsp_jobs.proofs.table.JobTable.take_item.Goals as goal

pub try_recv_as-requires-clause-rule : goal.try_recv_as-requires-clause-rule
try_recv_as-requires-clause-rule g c = (takes g.J.Job _ _ c.args.self.now.known.2, λ sent known h seen. tt)

pub invariant_of-self : goal.invariant_of-self
invariant_of-self g c =
    let known = c.args.self.now.known in
    let seat = c.try_recv_as.ensures.channel.0 in
    let same : knows c.try_recv_as.new.pass ≡ knows c.args.self.now.pass = same_view _ _ _ _ c.try_recv_as.result
    c.try_recv_as.ensures.rule in
    record {
      known = (
        (seat.0 ∙ sym known.1.0 ∙ known.0.0, seat.1 ∙ sym known.1.1 ∙ known.0.1, seat.2, known.0.3),
        seat,
        subst (λ (k : Known g.row.J.Denot). KnowsAll k) (sym same) known.2,
        subst (λ (k : Known g.row.J.Denot). length (all_jobs k) ≡ c.args.self.now.next) (sym same) known.3,
        subst (λ (k : Known g.row.J.Denot). HaveTickets (all_jobs k) (entry_of c.args.self.now.jobs)) (sym same)
            known.4,
      );
    }
