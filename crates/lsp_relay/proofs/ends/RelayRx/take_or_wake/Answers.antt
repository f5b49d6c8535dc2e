use Rattle.std.proofs.Common.{ap}
use Rattle.lsp_relay.specs.declared.account.Account.{Account}
use Rattle.lsp_relay.proofs.Accounts.{takes}
use Rattle.lsp_relay.proofs.ends.RelayRx.take_or_wake.Goals as goal

pub recv_as-requires-clause-rule : goal.recv_as-requires-clause-rule
recv_as-requires-clause-rule g c = (
  takes g.P.Plan.may_send _ _ (ap (λ (v : Account _). v.takes) c.self.invariant.1),
  λ held accounts h at. tt,
)
