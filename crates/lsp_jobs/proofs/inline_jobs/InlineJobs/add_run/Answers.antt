use Rattle.std.proofs.Common.{◌∙◌, ap, List, ◌++◌, append_assoc}
use Rattle.std.proofs.lemmas.Result.{IfOk-weaker}
use Rattle.std.specs.Prelude.{map}
use Rattle.lsp_acts.specs.Acts.{Act as Plain}
use Rattle.lsp_acts.specs.View.{act_view}
use Rattle.lsp_jobs.specs.Inline.{told}
use Rattle.lsp_jobs.proofs.inline_jobs.InlineJobs.add_run.Goals as goal

pub returns : goal.returns
returns g c =
    let view = act_view g.S.PendingData.PartialEq.eq in
    let before : List (Plain g.row.S-PendingData.Denot) = map view c.args.acts.now.items in
    let sent : List (Plain g.row.S-PendingData.Denot) = map told c.args.sent.items in
    let last : List (Plain g.row.S-PendingData.Denot) = map view c.in_ok-last.last.items in
    IfOk-weaker c.append_acts.result _ _ (λ done is. (
      last,
      c.in_ok-last.ensures,
      is ∙ (ap (λ (l : List (Plain g.row.S-PendingData.Denot)). l ++ last) c.in_ok-push_notifications.ensures
          ∙ append_assoc before sent last),
    )) c.append_acts.ensures
