use Rattle.std.proofs.Common.{◌∙◌, ap, refl, inl, inr, [], ◌∷◌, map, Err}
use Rattle.std.proofs.lemmas.Result.{IfOk-weaker}
use Rattle.lsp_message.specs.Id.{Id}
use Rattle.lsp_message.specs.Message.{ErrorObject}
use Rattle.lsp_message.specs.View.{error_view}
use Rattle.lsp_acts.specs.Acts.{replies}
use Rattle.lsp_acts.specs.View.{act_view}
use Rattle.lsp_jobs.specs.Ends.{no_memory}
use Rattle.lsp_jobs.proofs.inline_jobs.InlineJobs.answer_long.Goals as goal

pub returns-in_ok-out_of_memory-in-Err : goal.returns-in_ok-out_of_memory-in-Err
returns-in_ok-out_of_memory-in-Err g c =
    let error = error_view c.in_ok-out_of_memory-in-Err.field-0 in
    IfOk-weaker c.one-in-Err-2.result _ _ (λ all is. inl (
      Err no_memory,
      inr refl,
      ap (map (act_view g.S.PendingData.PartialEq.eq)) is
          ∙ (ap (λ (i : Id). replies i (Err error) ∷ []) c.in_ok-id.ensures
          ∙ ap (λ (e : ErrorObject). replies c.args.request.id (Err e) ∷ []) c.in_ok-out_of_memory-in-Err.ensures),
      refl,
    )) c.one-in-Err-2.ensures
