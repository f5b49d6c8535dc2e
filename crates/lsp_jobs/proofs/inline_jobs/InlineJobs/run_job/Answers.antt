use Rattle.std.proofs.Common.{refl, List, ◌++◌}
use Rattle.std.proofs.lemmas.List.Elements.{All-map}
use Rattle.std.proofs.lemmas.Result.{IfOk-weaker}
use Rattle.std.specs.Prelude.{map}
use Rattle.lsp_acts.specs.Acts.{Act as Plain}
use Rattle.lsp_jobs.proofs.PendingLemmas.{came}
use Rattle.lsp_jobs.specs.Inline.{told, IsReport}
use Rattle.lsp_jobs.specs.PoolView.{came_view}
use Rattle.lsp_jobs.specs.Stated.{stated_jobs}
use Rattle.lsp_jobs.proofs.inline_jobs.InlineJobs.run_job.Goals as goal

pub returns : goal.returns
returns g c =
    let jobs = stated_jobs g.S.JobServer g.S.KeyedJobs.KeyedJobs g.J.Job in
    let job = c.args.job in
    let ran = c.in_ok-ran.ran in
    let sent : List (Plain g.row.S-PendingData.Denot) = map told c.in_ok-ran.sent.items in
    IfOk-weaker c.add_run.result _ _ (λ done is. (
      sent ++ is.0,
      record {
        came = came_view ran;
        comes = came g.J.Job.run_post job ran c.in_ok-ran.ensures.ran;
        sent = sent;
        reports = All-map (IsReport jobs job) told c.in_ok-ran.sent.items c.in_ok-ran.ensures.sent;
        last = is.0;
        ends = is.1;
        all = refl;
      },
      is.2,
    )) c.add_run.ensures
