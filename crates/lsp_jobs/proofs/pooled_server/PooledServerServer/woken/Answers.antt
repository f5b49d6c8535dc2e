use Rattle.std.proofs.Common.{subst, inl, inr, map}
use Rattle.std.proofs.lemmas.Result.{IfOk-weaker}
use Rattle.lsp_acts.specs.View.{act_view}
use Rattle.lsp_jobs.specs.Ends.{end_of}
use Rattle.lsp_jobs.specs.PoolView.{came_view}
use Rattle.lsp_jobs.specs.Pooled.{Ends, reply_at}
use Rattle.lsp_jobs.specs.Seen.{seen}
use Rattle.lsp_jobs.specs.Stated.{stated_jobs}
use Rattle.lsp_jobs.proofs.pooled_server.PooledServerServer.woken.Goals as goal

pub returns-in_ok-acts-in-Ran : goal.returns-in_ok-acts-in-Ran
returns-in_ok-acts-in-Ran g c =
    let may = stated_jobs g.S.JobServer g.S.KeyedJobs.KeyedJobs g.J.Job in
    let tells = (rw c.in-Ran.is at c.in-Some-take_message.ensures.some) in
    let name = c.in-Some-take_message.said.0 in
    let acts = map (act_view g.S.PendingData.PartialEq.eq) c.in_ok-acts-in-Ran.acts.items in
    let came = came_view c.in-Ran.ran in
    let ended = subst (λ t. Ends may name (end_of came) (reply_at name came) (c.args.self.now.server, t) acts
    (seen c.end_run.new.self)) tells.3 c.in_ok-acts-in-Ran.ensures in
    IfOk-weaker c.acts_with_changes.result _ _ (λ all others. inr (inr (inr (inl (
      others.0,
      others.1,
      record {
        name = name;
        job = tells.0;
        came = came;
        waits = tells.1;
        comes = tells.2;
        acts = acts;
        did = seen c.end_run.new.self;
        ended = ended;
        others = others.2;
      },
    ))))) c.acts_with_changes.ensures
