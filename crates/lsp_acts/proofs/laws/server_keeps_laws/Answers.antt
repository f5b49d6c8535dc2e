use Rattle.lsp_acts.proofs.Taking.{keeps_laws, lawful}
use Rattle.lsp_acts.proofs.laws.server_keeps_laws.Goals as goal

pub returns : goal.returns
returns g c = record {
  exchanges = keeps_laws g.S.Server;
  lawful = λ first last. lawful g.S.Server first last;
}
