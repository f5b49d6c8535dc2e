use Rattle.std.proofs.Common.{ℤ, [], ◌∷◌, rules, ap, w32, FitsSigned, refl, sym, ◌∙◌}
use Rattle.std.proofs.lemmas.Int.{to_z-of_z}
use Rattle.std.specs.Prelude.{string_bytes}
use Rattle.lsp_message.specs.View.{response_view}
use Rattle.lsp_message.specs.declared.msg.Response.{Response}
use Rattle.lsp_peers.specs.SentFrame.{refused}
use Rattle.lsp_peers.specs.declared.step.Step.TheVariants.{Answer, Refuse}
use Rattle.lsp_peers.proofs.peer.Peer.step.Goals as goal

pub returns-in-Answer-clause-ok : goal.returns-in-Answer-clause-ok
returns-in-Answer-clause-ok c = rw c.in-Answer.is (c.answer.ensures.ok (Answer c.in-Answer.side c.in-Answer.id
    c.in-Answer.value)
    refl)

pub returns-in-Refuse-clause-ok : goal.returns-in-Refuse-clause-ok
returns-in-Refuse-clause-ok c =
    let fits : FitsSigned w32 c.in-Refuse.code = search rules in
    rw c.in-Refuse.is (c.answer-in-Refuse.ensures.ok (Refuse c.in-Refuse.side c.in-Refuse.id c.in-Refuse.code
    c.in-Refuse.message) (sym (ap (λ (r : Response). response_view r ∷ []) c.new_err.ensures
    ∙ ap (λ (code : ℤ). refused c.in-Refuse.id code (string_bytes c.in-Refuse.message) ∷ []) (to_z-of_z w32
    c.in-Refuse.code fits))))
