use Rattle.std.proofs.Common.{◌≡◌, ◌-◌, ◌+◌, arith, get_or, length, ap}
use Rattle.std.proofs.lemmas.Str.{lead_after_ascii}
use Rattle.lsp_text.proofs.blocks.block_end.Goals as goal

pub loop-i-init : goal.loop-i-init
loop-i-init c =
    let e = c.saturating_add-i.ensures in
    let b = c.ranges.at.fits in
    record { behind = omega (arith, e, b) }

pub returns-then-text-i-eq10 : goal.returns-then-text-i-eq10
returns-then-text-i-eq10 c =
    let i = c.loop-i.i in
    let bs = c.args.text.now in
    let v = c.as_bytes-text.ensures.value in
    let n = ap length v in
    let l = c.loop-i-test.true in
    let b = c.loop-i.invariant.behind in
    let z : i + 1 - 1 ≡ i = omega arith in
    let read : get_or bs i 0 ≡ 10 = rw v at c.if-text-i-eq10.true in (
      omega (arith, b),
      (
        omega (arith, n, l),
        (
          rw z read,
          (
            omega (arith, n, l),
            λ p q h. lead_after_ascii bs i c.utf8.text (omega (arith, read)) q h,
          ),
        ),
      ),
    )

pub loop-i-preserved : goal.loop-i-preserved
loop-i-preserved c = (let b = c.loop-i.invariant.behind in record { behind = omega (arith, b) })
