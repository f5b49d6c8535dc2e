use Rattle.std.proofs.Common.{arith, subst}
use mathlib.Core.List.{IsPrefix}
use Rattle.lsp_relay.specs.Relay.{Sending}
use Rattle.lsp_relay.proofs.Parcels.{settled_before}
use Rattle.lsp_relay.proofs.ends.settle_all.Goals as goal

pub returns-clause-settled : goal.returns-clause-settled
returns-clause-settled g c =
    let settled = subst (λ (s : Sending _). IsPrefix c.settle.new.self.taken s.sent) c.settle.ensures.sender
    c.settle.ensures.settled in
    settled_before c.settle.result c.args.rx.taken c.settle.new.self.taken c.args.tx.sent c.settle.ensures.some
    c.settle.ensures.none settled

pub returns-clause-unwoken : goal.returns-clause-unwoken
returns-clause-unwoken g c = λ none. omega (arith, c.settle.ensures.unwoken none, c.settle.ensures.wakes)
