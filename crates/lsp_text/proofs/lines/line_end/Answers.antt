use Rattle.std.proofs.Common.{arith}
use Rattle.std.proofs.lemmas.Bool.Decides.{nat_tests}
use Rattle.lsp_text.proofs.StartLemmas.{begins_within}
use Rattle.lsp_text.proofs.LineLemmas.{line_between, last_line}
use Rattle.lsp_text.proofs.lines.line_end.Goals.{else-starts-line-via-then-starts-line+else-text-last-eq13}
use Rattle.lsp_text.proofs.lines.line_end.Goals.{else-starts-line-via-else-starts-line}
use Rattle.lsp_text.proofs.lines.line_end.Goals as goal

pub returns-then-line-starts-clause-in_order : goal.returns-then-line-starts-clause-in_order
returns-then-line-starts-clause-in_order c = begins_within c.args.ends c.args.text.now c.args.starts.now c.args.line
    c.requires.index c.requires.within

pub returns-then-line-starts-clause-line : goal.returns-then-line-starts-clause-line
returns-then-line-starts-clause-line c = last_line c.args.ends c.args.text.now c.args.starts.now c.args.line
    c.requires.index c.if-line-starts.true

pub overflow_sub-last : goal.overflow_sub-last
overflow_sub-last c =
    let b = line_between c.args.ends c.args.text.now c.args.starts.now c.args.line c.requires.index
    c.requires.within c.if-line-starts.false in
    let u = b.up in
    omega (arith, u)

pub bounds-text-last : goal.bounds-text-last
bounds-text-last c =
    let b = line_between c.args.ends c.args.text.now c.args.starts.now c.args.line c.requires.index
    c.requires.within c.if-line-starts.false in
    let u = b.up in
    let w = b.within in
    omega (arith, u, w)

pub returns-then-text-last-eq13-clause-line : goal.returns-then-text-last-eq13-clause-line
returns-then-text-last-eq13-clause-line c =
    let b = line_between c.args.ends c.args.text.now c.args.starts.now c.args.line c.requires.index
    c.requires.within c.if-line-starts.false in
    b.two c.if-starts-line.true c.if-text-last-eq13.true

pub returns-else-starts-line-clause-in_order : goal.returns-else-starts-line-clause-in_order
returns-else-starts-line-clause-in_order c =
    let b = line_between c.args.ends c.args.text.now c.args.starts.now c.args.line c.requires.index
    c.requires.within c.if-line-starts.false in
    let u = b.up in
    omega (arith, u)

pub returns-else-starts-line-clause-line : goal.returns-else-starts-line-clause-line
returns-else-starts-line-clause-line c =
    let b = line_between c.args.ends c.args.text.now c.args.starts.now c.args.line c.requires.index
    c.requires.within c.if-line-starts.false in
    b.one (λ l. elim c.else-starts-line.branch [
      | else-starts-line-via-then-starts-line+else-text-last-eq13 w ↦ (let f = w.if-text-last-eq13.false in grind (
        arith,
        nat_tests,
        f,
      ))
      | else-starts-line-via-else-starts-line w ↦ (let f = w.if-starts-line.false in absurd (omega (arith, l, f)))
    ])

pub returns-else-starts-line-clause-boundary : goal.returns-else-starts-line-clause-boundary
returns-else-starts-line-clause-boundary c =
    let b = line_between c.args.ends c.args.text.now c.args.starts.now c.args.line c.requires.index
    c.requires.within c.if-line-starts.false in
    let w = b.within in
    let a = b.ascii in
    (omega (arith, w), λ p q h. absurd (omega (arith, a, h)))
