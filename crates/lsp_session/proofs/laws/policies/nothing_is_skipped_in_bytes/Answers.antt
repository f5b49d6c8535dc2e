use Rattle.lsp_session.proofs.Passing.{none_passed}
use Rattle.lsp_session.proofs.laws.policies.nothing_is_skipped_in_bytes.Goals as goal

pub returns : goal.returns
returns g c = λ old new limit text left first last before after answer never gives.
    none_passed g.L.BadContentPolicy.passes never limit (g.A.Application.session old new) text left first last before
    after answer gives
