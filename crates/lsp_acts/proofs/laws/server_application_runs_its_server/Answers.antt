use Rattle.std.proofs.Common.{refl}
use Rattle.lsp_acts.proofs.Taking.{session_of}
use Rattle.lsp_acts.proofs.laws.server_application_runs_its_server.Goals as goal

pub returns : goal.returns
returns g c = λ old new server xs stop answer begun out. session_of g.S.Server old new server new.server
    begun refl xs stop answer out
