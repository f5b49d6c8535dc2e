use Rattle.lsp_session.proofs.Ordering.{ends_refused}
use Rattle.lsp_session.proofs.laws.sessions.nothing_follows_a_refusal.Goals as goal

pub returns : goal.returns
returns g c = λ old new exchanges fault answer out. ends_refused g.S.Service.behavior old new exchanges fault answer out
