use Rattle.std.proofs.Common.{◌∙◌, sym, ap, refl, inl, inr, [], ◌∷◌, map, Err}
use Rattle.std.proofs.lemmas.Result.{IfOk-weaker}
use Rattle.lsp_message.specs.Id.{Id}
use Rattle.lsp_message.specs.View.{outcome_view}
use Rattle.lsp_acts.specs.Acts.{replies}
use Rattle.lsp_acts.specs.View.{act_view}
use Rattle.lsp_jobs.specs.Asking.{same_origin}
use Rattle.lsp_jobs.specs.Ends.{no_memory}
use Rattle.lsp_jobs.specs.PendingJobs.{with_job, without}
use Rattle.lsp_jobs.specs.PoolView.{pending_jobs}
use Rattle.lsp_jobs.specs.declared.names.JobName.TheVariants.{Request}
use Rattle.lsp_jobs.proofs.PendingLemmas.{without_absent}
use Rattle.lsp_jobs.proofs.pooled_server.PooledServer.take_long.Goals as goal

pub returns-in-Job : goal.returns-in-Job
returns-in-Job g c =
    let given = (rw c.in-Job.is at c.in_ok-job.ensures) in
    let id = c.in_ok-id.ensures in
    let before = pending_jobs c.args.self.now.pool in
    let server = c.args.self.now.server in
    IfOk-weaker c.start_for.result _ _ (λ all did. elim did [
      | inl started ↦ inl (record {
        job = c.in-Job.job;
        is_for = given.0;
        gives = given.1;
        acts = started.0;
        started = started.1
            ∙ ap (λ (i : Id). (server, with_job (Request i) c.in-Job.job before)) id;
      })
      | inr failed ↦ inr (record {
        outcome = Err no_memory;
        is = inr (inr refl);
        acts = failed.0 ∙ ap (λ (i : Id). replies i (Err no_memory) ∷ []) id;
        left = failed.1 ∙ ap (λ (i : Id). (server, without (Request i) before)) id;
      })
    ]) c.start_for.ensures

pub returns-in-Reply : goal.returns-in-Reply
returns-in-Reply g c =
    let known = (rw c.in-Reply.is at c.in_ok-job.ensures) in
    let before = pending_jobs c.args.self.now.pool in
    let outcome = outcome_view c.in-Reply.outcome in
    let view_all = act_view (same_origin g.S.PendingData.PartialEq.eq) in
    IfOk-weaker c.one.result _ _ (λ all is. inr (record {
      outcome = outcome;
      is = known;
      acts = ap (map view_all) is ∙ ap (λ (i : Id). replies i outcome ∷ []) c.in_ok-id.ensures;
      left = ap (λ p. (c.args.self.now.server, p))
          (sym (without_absent before (Request c.args.request.id) c.requires));
    })) c.one.ensures
