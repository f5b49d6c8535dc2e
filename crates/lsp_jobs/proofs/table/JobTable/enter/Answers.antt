use Rattle.std.proofs.Common.{◌≡◌, ◌∙◌, ap, sym, subst, length}
use Rattle.crossbeam_channel.specs.Claims.{view as knows}
use Rattle.lsp_jobs.proofs.PendingLemmas.{jobs_in, pending_insert}
use Rattle.lsp_jobs.proofs.Tables.{known_all, one_longer, registered}
use Rattle.lsp_jobs.specs.Outcomes.{KnowsAll, all_jobs}
use Rattle.lsp_jobs.specs.PendingJobs.{with_job}
use Rattle.lsp_jobs.specs.Waiting.{HaveTickets, entry_of, job_of, pending_of}
use Rattle.lsp_jobs.specs.declared.channel.Known.{Known}
use Rattle.lsp_jobs.specs.declared.names.JobName.{JobName}
use Rattle.lsp_jobs.proofs.table.JobTable.enter.Goals as goal

pub invariant_of-self : goal.invariant_of-self
invariant_of-self g c =
    let known = c.args.self.now.known in
    let seat = c.with_ticket.ensures.seat.0 in
    let same : knows c.with_ticket.new.pass ≡ knows c.args.self.now.pass = c.in_err-queued.ensures.err in
    record {
      known = (
        seat,
        (seat.0 ∙ sym known.0.0 ∙ known.1.0, seat.1 ∙ sym known.0.1 ∙ known.1.1, seat.2, known.1.3),
        subst (λ (k : Known g.row.J.Denot). KnowsAll k) (sym same) known.2,
        subst (λ (k : Known g.row.J.Denot). length (all_jobs k) ≡ c.args.self.now.next) (sym same) known.3,
        subst (λ (k : Known g.row.J.Denot). HaveTickets (all_jobs k) (entry_of c.args.self.now.jobs)) (sym same)
            known.4,
      );
    }

pub invariant_of-self-2 : goal.invariant_of-self-2
invariant_of-self-2 g c =
    let known = c.args.self.now.known in
    let seat = c.with_ticket.ensures.seat.0 in
    let jobs = all_jobs (knows c.args.self.now.pass) in
    let grown = c.in_ok-queued.ensures.ok in
    record {
      known = (
        seat,
        (seat.0 ∙ sym known.0.0 ∙ known.1.0, seat.1 ∙ sym known.0.1 ∙ known.1.1, seat.2, known.1.3),
        (known_all _ _ grown).0,
        one_longer _ jobs c.args.job c.args.self.now.next grown known.3 ∙ sym c.in-Some.ensures.1,
        registered jobs c.args.job _ (entry_of c.args.self.now.jobs) (entry_of c.add.new.self) c.in-Ok.same _
            c.add.result grown (sym known.3) c.of.ensures c.add.ensures.ok c.add.ensures.err known.4,
      );
    }

pub returns-in-Ok-add-clause-ok : goal.returns-in-Ok-add-clause-ok
returns-in-Ok-add-clause-ok g c =
    let before = pending_of c.args.self.now.jobs in
    pending_insert job_of _ _ c.in-Ok.same _ c.in-Ok-add.ensures.ok
    ∙ ap (λ job. with_job c.in-Ok.same job before) c.of.ensures
    ∙ ap (λ (name : JobName). with_job name c.args.job before) c.in-Ok.ensures

pub returns-in-Err-clause-err : goal.returns-in-Err-clause-err
returns-in-Err-clause-err g c = ap (jobs_in job_of) c.in-Err.ensures.err
