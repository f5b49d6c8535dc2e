use Rattle.std.proofs.Common.{ap}
use Rattle.lsp_relay.specs.declared.account.Account.{Account}
use Rattle.lsp_relay.proofs.Accounts.{copies_waker}
use Rattle.lsp_relay.proofs.ends.RelayWaker.another.Goals as goal

pub another-pass-requires-clause-rule : goal.another-pass-requires-clause-rule
another-pass-requires-clause-rule g c = copies_waker g.P.Plan.may_send _ _ (ap (λ (v : Account _). v.may_wake)
    c.self.invariant.1)
