use Rattle.std.proofs.Common.{◌≡◌, true, false, ◌==◌, arith}
use Rattle.std.proofs.lemmas.Bool.Decides.{nat_tests}
use Rattle.std.proofs.lemmas.Grind.{common_steps}
use Rattle.toml_parser.specs.Lexical.{first, skip_blank}
use Rattle.toml_outline.specs.Scanned.{keys_of}
use Rattle.toml_outline.specs.Values.{closing}
use Rattle.toml_outline.proofs.Steps.{bracket_follows, comma_follows, nothing_follows}
use Rattle.toml_outline.proofs.scanner.Scanner.separator.Goals as goal

pub returns-then-first-eq44-clause-step : goal.returns-then-first-eq44-clause-step
returns-then-first-eq44-clause-step c =
    let old = c.args.self.now in
    let kept = c.in_ok-skip_lines.ensures.kept in
    let skipped = c.in_ok-skip_lines.ensures.rest in
    let is : (first (skip_blank old.rest.now) == 44) ≡ true =
    rw (← skipped) (grind (arith, nat_tests, common_steps)) in
    rw (c.after_comma.ensures, c.offset-comma.ensures, c.skip-self.ensures.rest, kept.kept.text, skipped, kept.keys)
    (comma_follows old.outline.text.now c.args.frame c.args.frames.now.items old.rest.now (keys_of old.outline) is)

pub returns-then-first-closing-clause-step : goal.returns-then-first-closing-clause-step
returns-then-first-closing-clause-step c refused =
    let old = c.args.self.now in
    let kept = c.in_ok-skip_lines.ensures.kept in
    let skipped = c.in_ok-skip_lines.ensures.rest in
    let comma : (first (skip_blank old.rest.now) == 44) ≡ false =
    rw (← skipped) (grind (arith, nat_tests, common_steps)) in
    let is : (first (skip_blank old.rest.now) == closing c.args.frame.is_table) ≡ false =
    rw (← skipped, ← c.closing.ensures.bracket) (grind (arith, nat_tests, common_steps)) in
    rw kept.keys
    (nothing_follows old.outline.text.now c.args.frame c.args.frames.now.items old.rest.now (keys_of
    old.outline) comma is)

pub returns-clause-step : goal.returns-clause-step
returns-clause-step c =
    let old = c.args.self.now in
    let kept = c.in_ok-skip_lines.ensures.kept in
    let skipped = c.in_ok-skip_lines.ensures.rest in
    let comma : (first (skip_blank old.rest.now) == 44) ≡ false =
    rw (← skipped) (grind (arith, nat_tests, common_steps)) in
    let is : (first (skip_blank old.rest.now) == closing c.args.frame.is_table) ≡ true =
    rw (← skipped, ← c.closing.ensures.bracket) (grind (arith, nat_tests, common_steps)) in
    rw (c.close.ensures.left, c.close.ensures.rest, c.close.ensures.keys, skipped, kept.keys)
    (bracket_follows old.outline.text.now c.args.frame c.args.frames.now.items old.rest.now (keys_of
    old.outline) comma is)
