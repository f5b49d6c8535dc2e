use Rattle.std.proofs.Common.{◌≡◌, true, false, ◌==◌, arith}
use Rattle.std.proofs.lemmas.Bool.Decides.{nat_tests}
use Rattle.std.proofs.lemmas.Grind.{common_steps}
use Rattle.toml_parser.specs.Lexical.{first, skip_blank}
use Rattle.toml_outline.specs.Scanned.{keys_of}
use Rattle.toml_outline.proofs.Steps.{member_bad, member_closes, member_goes, on_error}
use Rattle.toml_outline.proofs.scanner.Scanner.next_member.Goals as goal

pub returns-in_err-entry-clause-step : goal.returns-in_err-entry-clause-step
returns-in_err-entry-clause-step c =
    let old = c.args.self.now in
    let kept = c.in_ok-skip_lines.ensures.kept in
    let skipped = c.in_ok-skip_lines.ensures.rest in
    let other : (first (skip_blank old.rest.now) == 125) ≡ false =
    rw (← skipped) (grind (arith, nat_tests, common_steps)) in
    on_error c.from_residual-in_err-entry.result _ _ c.in_err-entry.field-0.0 _ c.from_residual-in_err-entry.ensures.1
    (λ y p. p) (λ refused. member_bad old.outline.text.now c.args.frames.now.items old.rest.now (keys_of
    old.outline) _ other
    (rw (kept.kept.text, skipped, kept.keys, c.holder.ensures, c.as_slice.ensures.value) at
    (c.in_err-entry.ensures.step refused)))

pub returns-then-first-ne125-clause-step : goal.returns-then-first-ne125-clause-step
returns-then-first-ne125-clause-step c =
    let old = c.args.self.now in
    let kept = c.in_ok-skip_lines.ensures.kept in
    let skipped = c.in_ok-skip_lines.ensures.rest in
    let other : (first (skip_blank old.rest.now) == 125) ≡ false =
    rw (← skipped) (grind (arith, nat_tests, common_steps)) in
    member_goes old.outline.text.now c.args.frames.now.items old.rest.now (keys_of old.outline)
    c.in_ok-entry.entry _ _ other
    (rw (kept.kept.text, skipped, kept.keys, c.holder.ensures, c.as_slice.ensures.value) at
    c.in_ok-entry.ensures.step)

pub returns-clause-step : goal.returns-clause-step
returns-clause-step c =
    let old = c.args.self.now in
    let skipped = c.in_ok-skip_lines.ensures.rest in
    let noted = c.in_ok-note_comma.ensures in
    let is : (first (skip_blank old.rest.now) == 125) ≡ true =
    rw (← skipped) (grind (arith, nat_tests, common_steps)) in
    rw (
      c.close.ensures.left,
      c.close.ensures.rest,
      c.close.ensures.keys,
      noted.rest,
      noted.kept.keys,
      skipped,
      c.in_ok-skip_lines.ensures.kept.keys,
    )
    (member_closes old.outline.text.now c.args.frames.now.items old.rest.now (keys_of old.outline) is)
