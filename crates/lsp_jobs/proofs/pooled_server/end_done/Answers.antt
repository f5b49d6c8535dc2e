use Rattle.std.proofs.Common.{◌≡◌, ◌∙◌, ap, refl, rules, map, List, ◌++◌, option_map}
use Rattle.lsp_message.specs.View.{outcome_view}
use Rattle.lsp_acts.specs.Acts.{Act}
use Rattle.lsp_acts.specs.View.{act_view}
use Rattle.lsp_jobs.specs.Ends.{Outcome, end_of, gave, reply_of}
use Rattle.lsp_jobs.specs.Pooled.{reply_with}
use Rattle.lsp_jobs.specs.Stated.{stated_jobs, SeesEnd}
use Rattle.lsp_jobs.proofs.pooled_server.end_done.Goals.{in-None+in_ok-internal_error-in-None, in-Some}
use Rattle.lsp_jobs.proofs.pooled_server.end_done.Goals.{in-None-found+in_ok-acts-in-None-found}
use Rattle.lsp_jobs.proofs.pooled_server.end_done.Goals.{in-Some-found+in_ok-acts-in-Some-found}
use Rattle.lsp_jobs.proofs.pooled_server.end_done.Goals as goal

pub returns : goal.returns
returns g c =
    let may = stated_jobs g.S.JobServer g.S.KeyedJobs.KeyedJobs g.J.Job in
    let done = c.args.done in
    let first : List (Act g.row.S-PendingData.Denot) = map (act_view g.S.PendingData.PartialEq.eq)
    c.match-found-2.acts.items in
    let answered : outcome_view c.match-reply.outcome
    ≡ reply_of (gave (option_map outcome_view done.reply) done.found) =
    elim c.match-reply.branch [
      | in-Some w ↦ rw (w.outcome-is, w.in-Some.is) refl
      | in-None+in_ok-internal_error-in-None w ↦ rw (w.outcome-is, w.in-None.is) (search rules)
    ] in
    let saw : SeesEnd may c.args.server.now c.args.name (end_of (gave (option_map outcome_view done.reply) done.found))
    first c.match-found-2.server = elim c.match-found-2.branch [
      | in-Some-found+in_ok-acts-in-Some-found w ↦ rw (w.server-is, w.acts-is, w.in-Some-found.is)
          w.in_ok-acts-in-Some-found.ensures
      | in-None-found+in_ok-acts-in-None-found w ↦ rw (w.server-is, w.acts-is, w.in-None-found.is)
          w.in_ok-acts-in-None-found.ensures
    ] in (
      first,
      saw,
      c.in_ok-push_reply.ensures ∙ ap (λ (o : Outcome). first ++ reply_with c.args.name o) answered,
    )
