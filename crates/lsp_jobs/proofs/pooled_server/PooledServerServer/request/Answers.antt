use Rattle.serde_json.specs.View.{view}
use Rattle.std.proofs.Common.{◌∙◌, ap, subst, inl, inr, map, string_bytes}
use Rattle.std.proofs.lemmas.Result.{IfOk-weaker}
use Rattle.lsp_acts.specs.View.{act_view}
use Rattle.lsp_jobs.proofs.PendingLemmas.{given_up, long_again}
use Rattle.lsp_jobs.specs.Asking.{same_origin}
use Rattle.lsp_jobs.specs.PendingJobs.{PendingJobs}
use Rattle.lsp_jobs.specs.PoolView.{pending_jobs}
use Rattle.lsp_jobs.specs.Pooled.{ChangesJobs, TakesLong}
use Rattle.lsp_jobs.specs.Seen.{seen}
use Rattle.lsp_jobs.specs.declared.names.JobName.TheVariants.{Request}
use Rattle.lsp_jobs.specs.Stated.{stated_jobs}
use Rattle.lsp_jobs.proofs.pooled_server.PooledServerServer.request.Goals as goal

pub take_long-requires : goal.take_long-requires
take_long-requires g c =
    let before = pending_jobs c.args.self.now.pool in
    let left = c.cancel_request.ensures in
    ap (λ (p : PendingJobs _). p (Request c.args.request.id)) left ∙ given_up before (Request c.args.request.id)

pub returns-then-is_long : goal.returns-then-is_long
returns-then-is_long g c =
    let jobs = stated_jobs g.S.JobServer g.S.KeyedJobs.KeyedJobs g.J.Job in
    let before = pending_jobs c.args.self.now.pool in
    let server = c.args.self.now.server in
    let id = c.args.request.id in
    let method = string_bytes c.args.request.method in
    let params = view c.args.request.params in
    let did = seen c.take_long.new.self in
    let view_all = act_view (same_origin g.S.PendingData.PartialEq.eq) in
    let left = c.cancel_request.ensures in
    IfOk-weaker c.take_long.result _ _ (λ all long. inl (
      c.if-is_long.ensures,
      long_again jobs server before id method params (map view_all all.items) did
          (subst (λ p. TakesLong jobs (server, p) id method params (map view_all all.items) did)
          left long),
    )) c.take_long.ensures

pub returns : goal.returns
returns g c =
    let jobs = stated_jobs g.S.JobServer g.S.KeyedJobs.KeyedJobs g.J.Job in
    let acts = map (act_view g.S.PendingData.PartialEq.eq) c.in_ok-acts.acts.items in
    let did = c.request.new.self in
    let before = pending_jobs c.args.self.now.pool in
    let left = c.cancel_request.ensures in
    IfOk-weaker c.acts_with_changes.result _ _ (λ all others. inr (
      c.if-is_long.ensures,
      (
        others.0,
        others.1,
        (
          acts,
          did,
          c.in_ok-acts.ensures,
          subst (λ t. ChangesJobs jobs (did, t) acts others.0 (seen c.acts_with_changes.new.self)) left
              others.2,
        ),
      ),
    )) c.acts_with_changes.ensures
