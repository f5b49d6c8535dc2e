use Rattle.std.proofs.Common.{ap}
use Rattle.lsp_relay.specs.declared.account.Account.{Account}
use Rattle.lsp_relay.proofs.Accounts.{begins, parts}
use Rattle.lsp_relay.proofs.ends.relay.Goals as goal

pub bounded_with-requires-clause-rule : goal.bounded_with-requires-clause-rule
bounded_with-requires-clause-rule g c = begins g.P.Plan.may_send

pub another-takes-requires-clause-rule : goal.another-takes-requires-clause-rule
another-takes-requires-clause-rule g c = let first = c.in_ok-sender.ensures.3 in parts g.P.Plan.may_send _ _
    (ap (λ (v : Account _). v.sends) first) (ap (λ (v : Account _). v.takes) first)
