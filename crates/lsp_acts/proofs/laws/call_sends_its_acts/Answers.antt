use Rattle.lsp_acts.proofs.Acting.{acts_at}
use Rattle.lsp_acts.proofs.laws.call_sends_its_acts.Goals as goal

pub returns : goal.returns
returns g c = acts_at g.S.Server
