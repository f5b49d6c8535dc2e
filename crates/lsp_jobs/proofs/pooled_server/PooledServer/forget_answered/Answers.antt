use Rattle.std.proofs.Common.{◌≡◌, sym, ◌∙◌, ap, map, ◌+◌, List, ◌∷◌, drop}
use Rattle.std.proofs.lemmas.List.{drop_more}
use Rattle.lsp_acts.specs.Acts.{Act as Plain}
use Rattle.lsp_acts.specs.View.{act_view}
use Rattle.lsp_acts.specs.declared.server.Act.{Act}
use Rattle.lsp_jobs.proofs.KeyChanges.{unanswered_first}
use Rattle.lsp_jobs.specs.PendingJobs.{PendingJobs}
use Rattle.lsp_jobs.specs.Pooled.{unanswered}
use Rattle.lsp_jobs.specs.PoolView.{pending_jobs}
use Rattle.lsp_jobs.proofs.pooled_server.PooledServer.forget_answered.Goals as goal

pub loop-act-preserved : goal.loop-act-preserved
loop-act-preserved g c =
    let see = act_view g.P.PartialEq.eq in
    let acts = c.args.acts.now in
    let i = c.loop-act.act-index in
    let act = c.act-item.result in
    let rest = map see (drop (i + 1) acts) in
    let old = pending_jobs c.loop-act.self.pool in
    let split : map see (drop i acts) ≡ see act ∷ rest =
    ap (map see) (drop_more acts i act c.loop-act-test.true ∙ ap (λ (a : Act g.row.P.Denot). a ∷ drop (i + 1) acts)
    (sym c.act-item.is)) in
    let now = c.forget_if_answered.ensures in (
      ap (λ (s : g.row.S.Denot × PendingJobs g.row.J.Denot). s.0) now ∙ c.loop-act.invariant.0,
      ap (λ (s : g.row.S.Denot × PendingJobs g.row.J.Denot). unanswered rest s.1) now
          ∙ (sym (unanswered_first (see act) rest old)
          ∙ (ap (λ (l : List (Plain g.row.P.Denot)). unanswered l old) (sym split) ∙ c.loop-act.invariant.1)),
    )
