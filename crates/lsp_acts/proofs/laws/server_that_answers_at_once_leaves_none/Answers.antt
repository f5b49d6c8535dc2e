use Rattle.lsp_acts.proofs.AtOnce.{leaves_none}
use Rattle.lsp_acts.proofs.laws.server_that_answers_at_once_leaves_none.Goals as goal

pub returns : goal.returns
returns g c = leaves_none g.S.Server
