use Rattle.std.proofs.Common.{ap, refl}
use Rattle.lsp_acts.proofs.Taking.{session_of}
use Rattle.lsp_acts.proofs.server_application.ServerApplicationPendingDataApplication.begin.Goals as goal

pub returns : goal.returns
returns g c = λ last.
    let server = c.args.self.now.server in
    session_of g.S.Server (record { server = server; queues = c.new-queues.result }) last server last.server
    (ap (λ q. (server, q)) c.new-queues.ensures) refl
