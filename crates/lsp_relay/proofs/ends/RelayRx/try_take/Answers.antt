use Rattle.std.proofs.Common.{ap}
use Rattle.lsp_relay.specs.declared.account.Account.{Account}
use Rattle.lsp_relay.proofs.Accounts.{takes}
use Rattle.lsp_relay.proofs.ends.RelayRx.try_take.Goals as goal

pub try_recv_as-requires-clause-rule : goal.try_recv_as-requires-clause-rule
try_recv_as-requires-clause-rule g c = (
  takes g.P.Plan.may_send _ _ (ap (λ (v : Account _). v.takes)
      c.self.invariant.1),
  λ held accounts h at. tt,
)
