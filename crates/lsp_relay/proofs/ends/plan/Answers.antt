use Rattle.std.proofs.Common.{rules, ap, ◌∙◌, sym, Some}
use Rattle.lsp_relay.specs.Relay.{Sending, receiver_account}
use Rattle.lsp_relay.specs.declared.account.Account.{Account}
use Rattle.lsp_relay.proofs.Accounts.{lends, joins, plans, planned}
use Rattle.lsp_relay.proofs.ends.plan.Goals as goal

pub another-takes-requires-clause-rule : goal.another-takes-requires-clause-rule
another-takes-requires-clause-rule g c = lends g.P.Plan.may_send _ _ (ap (λ (v : Account _). v.sends) c.rx.invariant.1)
    (ap (λ (v : Account _). v.takes) c.rx.invariant.1)

pub absorb-requires-clause-rule : goal.absorb-requires-clause-rule
absorb-requires-clause-rule g c = joins g.P.Plan.may_send _ _ _ _ (ap (λ (v : Account _). v.sends) c.tx.invariant.1)
    (ap (λ (v : Account _). v.takes) c.another-takes.ensures.rule.1)

pub another-requires-clause-rule : goal.another-requires-clause-rule
another-requires-clause-rule g c =
    let both = c.learn_as.ensures.channel.2 ∙ c.absorb.ensures.rule in
    plans g.P.Plan.may_send _ _ g.W.Source.source (ap (λ (v : Account _). v.sends) both)
    (ap (λ (v : Account _). v.takes) both)
    (ap (λ (v : Account _). v.sent) both ∙ ap (λ (s : Sending _). s.sent) c.tx.view_is ∙ c.requires.fresh)
    c.requires.begins

pub invariant_of-rx : goal.invariant_of-rx
invariant_of-rx g c =
    let both = c.learn_as.ensures.channel.2 ∙ c.absorb.ensures.rule in
    let told = c.another.ensures.rule.1 in
    let fresh = ap (λ (v : Account _). v.sent) both ∙ ap (λ (s : Sending _). s.sent) c.tx.view_is ∙ c.requires.fresh in
    let known = c.learn_as.ensures.rule in (
      search rules,
      told ∙ (λ i. receiver_account (ap (λ (v : Account _). v.taken) (sym told) i) (ap (λ (v : Account _). v.wakes)
          (sym told) i) (ap (λ (v : Account _). v.wakeable) (sym told) i) (ap (λ (v : Account _). v.source) (sym told)
          i)),
      planned g.P.Plan.may_send _ known.0 g.W.Source.source _ c.absorb.new.pass.me.0.client (told
          ∙ ap (λ (v : Account _). receiver_account v.taken v.wakes v.wakeable (Some g.W.Source.source))
          c.learn_as.ensures.channel.2) known.1.0
          (ap (λ (v : Account _). v.sent) c.absorb.ensures.rule ∙ ap (λ (s : Sending _). s.sent) c.tx.view_is
          ∙ c.requires.fresh) known.1.1 c.requires.begins,
    )
