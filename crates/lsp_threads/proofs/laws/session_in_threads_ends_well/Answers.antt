use Rattle.lsp_threads.proofs.EndedWell.{of_application}
use Rattle.lsp_threads.proofs.laws.session_in_threads_ends_well.Goals as goal

pub returns : goal.returns
returns g c = λ limits capabilities old new first last known before after taken given writes answer never serves.
    of_application g.H.Handler.answer_post g.H.Handler.note_post capabilities old new limits
    g.L.BadContentPolicy.passes first last known before after taken given writes answer never serves
