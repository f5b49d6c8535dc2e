use Rattle.std.proofs.Common.{rules, ap, sym, ◌∙◌}
use mathlib.Core.List.{IsPrefix}
use Rattle.lsp_relay.specs.Relay.{EndsAtMostOnce, account_of}
use Rattle.lsp_relay.specs.declared.account.Account.{Account}
use Rattle.lsp_relay.proofs.Accounts.{lends, joins, parts, whole_taken}
use Rattle.lsp_relay.proofs.ends.RelayRx.settle.Goals as goal

pub another-takes-requires-clause-rule : goal.another-takes-requires-clause-rule
another-takes-requires-clause-rule g c = lends g.P.Plan.may_send _ _ (ap (λ (v : Account _). v.sends)
    c.self.invariant.1) (ap (λ (v : Account _). v.takes) c.self.invariant.1)

pub absorb-requires-clause-rule : goal.absorb-requires-clause-rule
absorb-requires-clause-rule g c = joins g.P.Plan.may_send _ _ _ _ (ap (λ (v : Account _). v.sends) c.tx.invariant.1)
    (ap (λ (v : Account _). v.takes) c.another-takes.ensures.rule.1)

pub another-requires-clause-rule : goal.another-requires-clause-rule
another-requires-clause-rule g c =
    let both = c.learn_as.ensures.channel.2 ∙ c.absorb.ensures.rule in parts g.P.Plan.may_send _ _
    (ap (λ (v : Account _). v.sends) both) (ap (λ (v : Account _). v.takes) both)

pub returns-clause-whole : goal.returns-clause-whole
returns-clause-whole g c =
    let settled : IsPrefix (account_of c.another.result).taken c.another.new.pass.me.0.client.sent = search rules in
    let once : EndsAtMostOnce c.another.new.pass.me.0.client.sent = search rules in
    λ closed. whole_taken (account_of c.another.result).taken settled.0 c.another.new.pass.me.0.client.sent
    (sym settled.1) once closed
