use Rattle.std.proofs.Common.{rules, ap, sym, subst, ◌∙◌, ◌∷◌, ◌++◌, []}
use Rattle.lsp_relay.specs.declared.account.Account.{Account}
use Rattle.lsp_relay.specs.Relay.{Sending, Follows, IsOpen, EndsAtMostOnce, sender_account}
use Rattle.lsp_relay.proofs.Accounts.{sends, ends_after, sender_after}
use Rattle.lsp_relay.proofs.ends.RelayTx.send.Goals as goal
use Rattle.lsp_relay.proofs.ends.RelayTx.send.Goals.{in-Ok, in-Err+in-Some}

pub send_as-requires-clause-rule : goal.send_as-requires-clause-rule
send_as-requires-clause-rule g c = (
  sends g.P.Plan.may_send _ _ _ _ (ap (λ (v : Account _). v.sends) c.self.invariant.1)
      (subst (λ (s : Sending _). Follows g.P.Plan.may_send s.source (s.sent ++ c.args.parcel ∷ [])) (sym c.self.view_is)
      c.requires.planned),
  λ held accounts h at. tt,
)

pub invariant_of-self : goal.invariant_of-self
invariant_of-self g c = elim c.match-send_as.branch [
  | in-Ok w ↦ let step = w.in-Ok.ensures.rule in let unended = subst (λ (s : Sending _). IsOpen s.sent)
      (sym c.self.view_is) c.requires.open in (
        search rules,
        sender_after _ _ _ c.self.invariant.1 step,
        subst EndsAtMostOnce (sym (ap (λ (v : Account _). v.sent) step)) (ends_after c.self.inside.pass.me.0.client.sent
            c.args.parcel unended),
      )
  | in-Err+in-Some w ↦ let same = w.in-Err.ensures.rule.1 in (
    search rules,
    same ∙ c.self.invariant.1 ∙ (λ i. sender_account (ap (λ (v : Account _). v.sent) (sym same) i)
        (ap (λ (v : Account _). v.wakeable) (sym same) i) (ap (λ (v : Account _). v.source) (sym same) i)),
    subst EndsAtMostOnce (sym (ap (λ (v : Account _). v.sent) same)) c.self.invariant.2,
  )
]
