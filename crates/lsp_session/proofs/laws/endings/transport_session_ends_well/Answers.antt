use Rattle.lsp_session.proofs.WellEnded.{over_transport}
use Rattle.lsp_session.proofs.laws.endings.transport_session_ends_well.Goals as goal

pub returns : goal.returns
returns g c = λ capabilities old new before after result skips serves. over_transport g.H.Handler.answer_post
    g.H.Handler.note_post capabilities old new before.limits after.transcript.now result skips serves.told
