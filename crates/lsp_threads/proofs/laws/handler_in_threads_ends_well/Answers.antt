use Rattle.lsp_threads.proofs.EndedWell.{of_lent}
use Rattle.lsp_threads.proofs.laws.handler_in_threads_ends_well.Goals as goal

pub returns : goal.returns
returns g c = λ limits capabilities old new known before after answer handles. of_lent g.H.Handler.answer_post
    g.H.Handler.note_post capabilities old new limits known before after answer handles
