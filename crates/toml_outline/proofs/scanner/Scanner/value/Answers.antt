use Rattle.std.proofs.Common.{◌≡◌, ◌∙◌, refl, ℕ, Option, ◌*◌, ◌+◌, ◌-◌, ◌<◌, suc, length, Some, None, [], option_map}
use Rattle.std.proofs.Common.{arith}
use Rattle.toml_outline.specs.Keys.{fails, goes}
use Rattle.toml_outline.specs.Scanned.{keys_of}
use Rattle.toml_outline.specs.Values.{Inside, turn, turns}
use Rattle.toml_outline.specs.declared.scanner.Awaited.TheVariants.{Value}
use Rattle.toml_outline.proofs.Keeping.{keeps_text_then}
use Rattle.toml_outline.proofs.Steps.{on_error}
use Rattle.toml_outline.proofs.Turns.{turns_bad, turns_more, turns_none, turns_over}
use Rattle.toml_outline.proofs.scanner.Scanner.value.Goals as goal
use Rattle.toml_outline.proofs.scanner.Scanner.value.Goals.{else-loop-test, then-loop-test+in_default}

pub returns-in_err-awaited-clause-step : goal.returns-in_err-awaited-clause-step
returns-in_err-awaited-clause-step c =
    let old = c.args.self.now in
    let text = old.outline.text.now in
    let left : ℕ = suc (2 * length old.rest.now) - c.loop.counter in
    let some : 0 < left = omega arith in
    on_error c.from_residual.result _ _ c.in_err-awaited.field-0.0 _ c.from_residual.ensures.1 (λ y p. p) (λ refused.
    let bad : turn text c.in-Some.next c.loop.frames.items c.loop.self.rest.now (keys_of c.loop.self.outline)
    ≡ fails (keys_of c.step.new.self.outline) =
    rw c.loop.invariant.kept.text at (c.in_err-awaited.ensures.step refused) in
    let all : turns text (suc (2 * length old.rest.now)) (Some ([], Value (Some c.args.entry))) old.rest.now
    (keys_of old.outline) ≡ fails (keys_of c.step.new.self.outline) =
    c.loop.invariant.read ∙ rw c.in-Some.is (turns_bad text left (c.loop.frames.items, c.in-Some.next)
    c.loop.self.rest.now (keys_of c.loop.self.outline) (keys_of c.step.new.self.outline) some bad) in
    rw all refl)

pub loop-preserved : goal.loop-preserved
loop-preserved c =
    let old = c.args.self.now in
    let text = old.outline.text.now in
    let left : ℕ = suc (2 * length old.rest.now) - c.loop.counter in
    let some : 0 < left = omega arith in
    let less : left - 1 ≡ suc (2 * length old.rest.now) - (c.loop.counter + 1) = omega arith in
    let good : turn text c.in-Some.next c.loop.frames.items c.loop.self.rest.now (keys_of c.loop.self.outline)
    ≡ goes (option_map (λ next. (c.step.new.frames.items, next)) c.in_ok-awaited.awaited) c.step.new.self.rest.now
    (keys_of c.step.new.self.outline) =
    rw c.loop.invariant.kept.text at c.in_ok-awaited.ensures.step in
    record {
      kept = keeps_text_then old c.loop.self c.step.new.self c.loop.invariant.kept c.in_ok-awaited.ensures.kept;
      read = rw (← less) (c.loop.invariant.read ∙ rw c.in-Some.is (turns_more text left
          (c.loop.frames.items, c.in-Some.next) _ c.loop.self.rest.now _ (keys_of c.loop.self.outline) _ some good));
    }

pub returns-clause-step : goal.returns-clause-step
returns-clause-step c =
    let old = c.args.self.now in
    let text = old.outline.text.now in
    let left : ℕ = suc (2 * length old.rest.now) - c.loop.counter in
    let last : Option Inside = option_map (λ next. (c.loop.frames.items, next)) c.loop.awaited in
    elim c.loop-test.branch [
      | else-loop-test w ↦
          let none : left ≡ 0 = omega arith in
          let all : turns text (suc (2 * length old.rest.now)) (Some ([], Value (Some c.args.entry))) old.rest.now
          (keys_of old.outline) ≡ goes last c.loop.self.rest.now (keys_of c.loop.self.outline) =
          c.loop.invariant.read ∙ rw none (turns_none text last c.loop.self.rest.now (keys_of c.loop.self.outline)) in
          rw all refl
      | then-loop-test+in_default w ↦
          let all : turns text (suc (2 * length old.rest.now)) (Some ([], Value (Some c.args.entry))) old.rest.now
          (keys_of old.outline) ≡ goes None c.loop.self.rest.now (keys_of c.loop.self.outline) =
          c.loop.invariant.read
          ∙ rw w.in_default.is (turns_over text left c.loop.self.rest.now (keys_of c.loop.self.outline)) in
          rw all refl
    ]
