use Rattle.std.proofs.Common.{ap}
use Rattle.lsp_relay.specs.declared.account.Account.{Account}
use Rattle.lsp_relay.proofs.Accounts.{wakes}
use Rattle.lsp_relay.proofs.ends.RelayWaker.wake.Goals as goal

pub send_as-requires-clause-rule : goal.send_as-requires-clause-rule
send_as-requires-clause-rule g c = (
  wakes g.P.Plan.may_send _ _ _ (ap (λ (v : Account _). v.takes) c.self.invariant.1)
      (ap (λ (v : Account _). v.may_wake) c.self.invariant.1),
  λ held accounts h at. tt,
)
