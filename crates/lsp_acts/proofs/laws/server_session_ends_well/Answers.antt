use Rattle.lsp_acts.proofs.EndedWell.{over_transport}
use Rattle.lsp_acts.proofs.laws.server_session_ends_well.Goals as goal

pub returns : goal.returns
returns g c = λ first last before after result skips serves. over_transport g.S.Server first last before.limits
    after.transcript.now result skips serves.told
