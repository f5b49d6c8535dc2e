use Rattle.std.proofs.Common.{◌≡◌, sym, ◌∙◌, ap, subst, map, List, [], ◌∷◌, ◌++◌, append_assoc}
use Rattle.std.proofs.lemmas.Fn.{FoldsTo-push}
use Rattle.std.specs.List.{FoldsTo}
use Rattle.std.specs.Vec.Iter.{into_iter_items}
use Rattle.lsp_acts.specs.View.{act_view}
use Rattle.lsp_jobs.proofs.PendingLemmas.{all_taken}
use Rattle.lsp_jobs.specs.Inline.{Carries}
use Rattle.lsp_jobs.specs.declared.job_server.JobCommand.{JobCommand}
use Rattle.lsp_jobs.specs.Stated.{stated_jobs}
use Rattle.lsp_jobs.proofs.inline_jobs.InlineJobs.carry_out_all.Goals as goal

pub loop-command-preserved : goal.loop-command-preserved
loop-command-preserved g c =
    let jobs = stated_jobs g.S.JobServer g.S.KeyedJobs.KeyedJobs g.J.Job in
    let before = c.loop-command.invariant in
    let rest : List (JobCommand _) = into_iter_items c.next.new.self in
    let now = c.loop-command.command-iterator in
    let turn : into_iter_items now ≡ c.in-Some.command ∷ rest = c.in-Some.ensures.steps.0 in (
      tt,
      tt,
      append_assoc c.loop-command.yielded (c.in-Some.command ∷ []) rest
          ∙ (ap (λ (l : List (JobCommand _)). c.loop-command.yielded ++ l) (sym turn) ∙ before.2),
      FoldsTo-push (Carries jobs) _ c.loop-command.yielded _ c.in-Some.command _ before.3
          c.in_ok-carry_out.ensures,
    )

pub returns : goal.returns
returns g c =
    let jobs = stated_jobs g.S.JobServer g.S.KeyedJobs.KeyedJobs g.J.Job in
    let none = sym c.loop-command.command-iterator.rest.ok.0 ∙ c.in-None.ensures.steps.0 in
    let all = all_taken c.loop-command.yielded (into_iter_items c.loop-command.command-iterator) c.args.commands.items
    c.loop-command.invariant.2 none in
    subst (λ (l : List (JobCommand _)). FoldsTo (Carries jobs) (
      c.args.self.now.server,
      map (act_view g.S.PendingData.PartialEq.eq)
          c.args.acts.now.items,
    ) l (
      c.loop-command.self.server,
      map (act_view g.S.PendingData.PartialEq.eq)
          c.loop-command.acts.items,
    )) all c.loop-command.invariant.3
