use Rattle.std.proofs.Common.{◌≡◌, sym, ◌∙◌, ap, subst, map, List, [], ◌∷◌, ◌++◌, append_assoc}
use Rattle.std.proofs.lemmas.Fn.{FoldsTo-push}
use Rattle.std.specs.List.{FoldsTo}
use Rattle.std.specs.Vec.Iter.{into_iter_items}
use Rattle.lsp_acts.specs.View.{act_view}
use Rattle.lsp_jobs.proofs.PendingLemmas.{all_taken}
use Rattle.lsp_jobs.specs.PoolView.{pending_jobs}
use Rattle.lsp_jobs.specs.Pooled.{Changes}
use Rattle.lsp_jobs.specs.declared.job_server.JobCommand.{JobCommand}
use Rattle.lsp_jobs.specs.Stated.{stated_jobs}
use Rattle.lsp_jobs.proofs.pooled_server.PooledServer.change_all.Goals as goal

pub loop-change-preserved : goal.loop-change-preserved
loop-change-preserved g c =
    let jobs = stated_jobs g.S.JobServer g.S.KeyedJobs.KeyedJobs g.J.Job in
    let before = c.loop-change.invariant in
    let rest : List (JobCommand _) = into_iter_items c.next.new.self in
    let turn : into_iter_items c.loop-change.change-iterator ≡ c.in-Some.change ∷ rest = c.in-Some.ensures.steps.0 in (
      tt,
      tt,
      append_assoc c.loop-change.yielded (c.in-Some.change ∷ []) rest
          ∙ (ap (λ (l : List (JobCommand _)). c.loop-change.yielded ++ l) (sym turn) ∙ before.2),
      FoldsTo-push (Changes jobs) _ c.loop-change.yielded _ c.in-Some.change _ before.3
          c.in_ok-change.ensures,
    )

pub returns : goal.returns
returns g c =
    let jobs = stated_jobs g.S.JobServer g.S.KeyedJobs.KeyedJobs g.J.Job in
    let none = sym c.loop-change.change-iterator.rest.ok.0 ∙ c.in-None.ensures.steps.0 in
    let all = all_taken c.loop-change.yielded (into_iter_items c.loop-change.change-iterator) c.args.changes.items
    c.loop-change.invariant.2 none in
    subst (λ (l : List (JobCommand _)). FoldsTo (Changes jobs) (
      c.args.self.now.server,
      pending_jobs c.args.self.now.pool,
      map (act_view g.S.PendingData.PartialEq.eq)
          c.args.acts.items,
    ) l (
      c.loop-change.self.server,
      pending_jobs c.loop-change.self.pool,
      map (act_view g.S.PendingData.PartialEq.eq)
          c.loop-change.acts.items,
    )) all c.loop-change.invariant.3
