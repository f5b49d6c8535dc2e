use Rattle.std.proofs.Common.{◌≡◌, true, false, ◌==◌, nat_le, length, arith}
use Rattle.std.proofs.lemmas.Bool.Decides.{nat_tests}
use Rattle.std.proofs.lemmas.Grind.{common_steps}
use Rattle.toml_parser.specs.Lexical.{first}
use Rattle.toml_outline.specs.Scanned.{keys_of}
use Rattle.toml_outline.proofs.Steps.{begin_array, begin_bad, begin_scalar, begin_table, deep_array, deep_table}
use Rattle.toml_outline.proofs.Steps.{on_error}
use Rattle.toml_outline.proofs.scanner.Scanner.begin.Goals.{else-not-is_table-via-then-not-is_table+else-first-ne91}
use Rattle.toml_outline.proofs.scanner.Scanner.begin.Goals.{else-not-is_table-via-else-not-is_table}
use Rattle.toml_outline.proofs.scanner.Scanner.begin.Goals as goal

pub returns-in_err-kind-clause-step : goal.returns-in_err-kind-clause-step
returns-in_err-kind-clause-step c =
    let old = c.args.self.now in
    let table : (first old.rest.now == 123) ≡ false = grind (arith, nat_tests, common_steps) in
    let array : (first old.rest.now == 91) ≡ false = grind (arith, nat_tests, common_steps) in
    on_error c.from_residual.result _ _ c.in_err-kind.field-0.0 _ c.from_residual.ensures.1 (λ y p. p) (λ refused.
    rw c.in_err-kind.ensures.kept.keys (begin_bad old.outline.text.now c.args.owner c.args.frames.now.items
    old.rest.now (keys_of old.outline) table array (c.in_err-kind.ensures.read refused)))

pub returns-then-first-ne91-clause-step : goal.returns-then-first-ne91-clause-step
returns-then-first-ne91-clause-step c =
    let old = c.args.self.now in
    let table : (first old.rest.now == 123) ≡ false = grind (arith, nat_tests, common_steps) in
    let array : (first old.rest.now == 91) ≡ false = grind (arith, nat_tests, common_steps) in
    rw (c.settle.ensures.rest, c.settle.ensures.keys, c.in_ok-kind.ensures.kept.keys)
    (begin_scalar old.outline.text.now c.args.owner c.args.frames.now.items old.rest.now (keys_of old.outline)
    c.in_ok-kind.kind c.scalar.new.self.rest.now table array c.in_ok-kind.ensures.read)

pub returns-then-len-ge-RECURSION_LIMIT-clause-step : goal.returns-then-len-ge-RECURSION_LIMIT-clause-step
returns-then-len-ge-RECURSION_LIMIT-clause-step c refused =
    let old = c.args.self.now in
    let frames = c.args.frames.now in
    let deep : nat_le 80 (length frames.items) ≡ true = grind (arith, nat_tests, frames.ok.0) in
    elim c.else-not-is_table.branch [
      | else-not-is_table-via-then-not-is_table+else-first-ne91 w ↦
          let table : (first old.rest.now == 123) ≡ false = grind (arith, nat_tests, common_steps) in
          let array : (first old.rest.now == 91) ≡ true = grind (arith, nat_tests, common_steps) in
          deep_array old.outline.text.now c.args.owner frames.items old.rest.now (keys_of old.outline) table
          array deep
      | else-not-is_table-via-else-not-is_table w ↦
          let table : (first old.rest.now == 123) ≡ true = grind (arith, nat_tests, common_steps) in
          deep_table old.outline.text.now c.args.owner frames.items old.rest.now (keys_of old.outline) table deep
    ]

pub returns-then-is_table-clause-step : goal.returns-then-is_table-clause-step
returns-then-is_table-clause-step c =
    let old = c.args.self.now in
    let frames = c.args.frames.now in
    let flat : nat_le 80 (length frames.items) ≡ false = grind (arith, nat_tests, frames.ok.0) in
    let table : (first old.rest.now == 123) ≡ true = grind (arith, nat_tests, common_steps) in
    rw (
      c.in_ok-push.ensures.items,
      c.skip-self.ensures.rest,
      c.around-around.ensures,
      c.as_slice.ensures.value,
      c.offset-start.ensures,
      c.first-is_table.ensures,
    )
    (begin_table old.outline.text.now c.args.owner frames.items old.rest.now (keys_of old.outline) table flat)

pub returns-else-is_table-clause-step : goal.returns-else-is_table-clause-step
returns-else-is_table-clause-step c =
    let old = c.args.self.now in
    let frames = c.args.frames.now in
    let flat : nat_le 80 (length frames.items) ≡ false = grind (arith, nat_tests, frames.ok.0) in
    let table : (first old.rest.now == 123) ≡ false = grind (arith, nat_tests, common_steps) in
    let array : (first old.rest.now == 91) ≡ true =
    elim c.else-not-is_table.branch [
      | else-not-is_table-via-then-not-is_table+else-first-ne91 w ↦ grind (arith, nat_tests, common_steps)
      | else-not-is_table-via-else-not-is_table w ↦ absurd (grind (arith, nat_tests, common_steps))
    ] in
    rw (
      c.in_ok-push.ensures.items,
      c.skip-self.ensures.rest,
      c.around-around.ensures,
      c.as_slice.ensures.value,
      c.offset-start.ensures,
      c.first-is_table.ensures,
    )
    (begin_array old.outline.text.now c.args.owner frames.items old.rest.now (keys_of old.outline) table array flat)
