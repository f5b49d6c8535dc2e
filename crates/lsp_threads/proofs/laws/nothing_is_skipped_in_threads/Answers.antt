use Rattle.lsp_threads.proofs.Sessions.{none_passed}
use Rattle.lsp_threads.proofs.laws.nothing_is_skipped_in_threads.Goals as goal

pub returns : goal.returns
returns g c = λ old new wakeable limit text first last before after answer never tells.
    none_passed wakeable g.L.BadContentPolicy.passes limit first last never
    (g.A.Application.session old new) text before
    after answer tells
