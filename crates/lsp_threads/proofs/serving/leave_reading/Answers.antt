use Rattle.std.proofs.Common.{◌∙◌, ap, subst, sym}
use mathlib.Core.List.{IsPrefix}
use Rattle.lsp_relay.specs.Relay.{IsOpen}
use Rattle.lsp_threads.proofs.Leaving.{joined_reading, left_reading, open_taken}
use Rattle.lsp_threads.specs.Contents.{contents_of, parts_of, BeginsSource, Lent, source_of}
use Rattle.lsp_threads.proofs.serving.leave_reading.Goals as goal

pub returns-then-drained-clause-leaves : goal.returns-then-drained-clause-leaves
returns-then-drained-clause-leaves g c =
    let back = c.join-tx.result in
    joined_reading c.args.reading.promise.limits c.args.reading.promise.tx.value c.args.parts (g.R.Read.remaining
    c.args.reading.promise.reader.value) back.0 back.1 back.2.parts
    (sym c.if-drained.ensures) (subst (λ l. IsPrefix l back.0.sent) c.leave-rx.ensures.taken
    c.settle_all.ensures.settled)
    (λ none. sym c.leave-rx.ensures.wakes ∙ c.settle_all.ensures.unwoken none) c.join-tx.ensures.1

pub returns-then-drained-clause-failed : goal.returns-then-drained-clause-failed
returns-then-drained-clause-failed g c = λ is. c.join-tx.ensures.2

pub returns-clause-leaves : goal.returns-clause-leaves
returns-clause-leaves g c =
    let limit = c.args.reading.promise.limits in
    let known = g.R.Read.remaining c.args.reading.promise.reader.value in
    let relay = c.leave-rx.ensures.relay in
    let is = ap (λ (l : Lent). l.1) relay ∙ c.requires.known.1 in
    let none = sym c.if-drained.ensures in
    let begins = subst (λ l. IsOpen l → BeginsSource (source_of known limit) (contents_of l) (parts_of l))
    c.leave-rx.ensures.taken (c.learn.ensures.0 (source_of known limit) is) in
    left_reading limit c.args.reading.promise.tx.value c.args.parts known c.leave-rx.result.1.parts none
    c.requires.known.2 c.leave-rx.ensures.account
    (begins (open_taken c.args.parts.taken none))
    (λ silent. sym c.leave-rx.ensures.wakes ∙ c.learn.ensures.1 (source_of known limit) is (ap (λ (l : Lent). l.2) relay
    ∙ silent))

pub returns-clause-failed : goal.returns-clause-failed
returns-clause-failed g c = λ is. absurd (cc (is, c.is_drained-drained.ensures, c.if-drained.false))
