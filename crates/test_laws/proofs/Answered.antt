-- The answers of a new dispatcher to two messages.
use Rattle.std.proofs.Common.{◌≡◌, List, [], ◌∷◌, subst, sym}
use Rattle.lsp_message.specs.Message.{Message}
use Rattle.lsp_dispatch.specs.DispatchAnswers.{Answer}
use Rattle.lsp_dispatch.specs.DispatchCalls.{delivers}
use Rattle.lsp_dispatch.specs.DispatchPending.{Held, answers_from, delivered, no_work}

pub two_answers : (P : List Answer → Type 0) (first second : Message) (answer later : Answer) (start held last : Held)
    → start ≡ no_work → (answer, held) ≡ delivered start first → (later, last) ≡ delivered held second
    → P (answers_from no_work (delivers first ∷ delivers second ∷ [])) → P (answer ∷ later ∷ [])
two_answers P first second answer later start held last new here there said =
    subst (λ (a : Answer × Held). P (answer ∷ a.0 ∷ [])) (sym there)
    (subst (λ (a : Answer × Held). P (a.0 ∷ (delivered a.1 second).0 ∷ [])) (sym here)
    (subst (λ (held : Held). P (answers_from held (delivers first ∷ delivers second ∷ []))) (sym new) said))
