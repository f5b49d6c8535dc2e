use Rattle.lsp_threads.proofs.Order.{talks_in_order}
use Rattle.lsp_threads.proofs.ThreadEnds.{ends_run}
use Rattle.lsp_threads.specs.ThreadEnds.{EndsListen}
use Rattle.lsp_threads.proofs.thread_ends.serve_ends.Goals as goal

pub returns-clause-runs : goal.returns-clause-runs
returns-clause-runs g c =
    let passes = g.L.BadContentPolicy.passes in
    let listens = EndsListen g.L.BadContentPolicy.ends in
    (ends_run passes listens _ _ _ _ (talks_in_order passes listens _ _ _ _ c.requires c.serve_application.ensures)).0

pub returns-clause-lent : goal.returns-clause-lent
returns-clause-lent g c = (ends_run g.L.BadContentPolicy.passes (EndsListen g.L.BadContentPolicy.ends) _ _ _ _
    c.serve_application.ensures).1
