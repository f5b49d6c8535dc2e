use Rattle.lsp_session.proofs.WellEnded.{over_bytes}
use Rattle.lsp_session.proofs.laws.endings.session_ends_well.Goals as goal

pub returns : goal.returns
returns g c = λ limits capabilities old new text left before after result gives. over_bytes g.H.Handler.answer_post
    g.H.Handler.note_post capabilities old new limits text left before after result gives
