use Rattle.lsp_session.specs.Transcripts.{notes_of}
use Rattle.lsp_session.proofs.TellsBytes.{skips_nothing}
use Rattle.lsp_session.proofs.laws.policies.nothing_is_skipped.Goals as goal

pub returns : goal.returns
returns g c = λ old new before after answer nothing serves.
    skips_nothing g.L.BadContentPolicy.passes nothing before.limits (notes_of after.transcript.now) before.policy.now
    after.policy.now serves.asked
