use Rattle.std.proofs.Common.{ap, ◌∙◌}
use Rattle.lsp_relay.specs.Relay.{Sending}
use Rattle.lsp_relay.specs.declared.account.Account.{Account}
use Rattle.lsp_relay.proofs.Accounts.{makes_waker}
use Rattle.lsp_relay.proofs.ends.RelayTx.waker.Goals as goal

pub another-pass-requires-clause-rule : goal.another-pass-requires-clause-rule
another-pass-requires-clause-rule g c = makes_waker g.P.Plan.may_send _ _ (ap (λ (v : Account _). v.sends)
    c.self.invariant.1) (ap (λ (s : Sending _). s.source) c.self.view_is ∙ c.requires.unplanned)
