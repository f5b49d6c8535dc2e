use Rattle.std.proofs.Common.{◌≡◌, true, false, ◌==◌, arith}
use Rattle.std.proofs.lemmas.Bool.Decides.{nat_tests}
use Rattle.std.proofs.lemmas.Grind.{common_steps}
use Rattle.toml_parser.specs.Lexical.{first, skip_blank}
use Rattle.toml_outline.specs.Scanned.{keys_of}
use Rattle.toml_outline.proofs.Steps.{item_begins, item_closes}
use Rattle.toml_outline.proofs.scanner.Scanner.next_item.Goals as goal

pub returns-then-first-ne93-clause-step : goal.returns-then-first-ne93-clause-step
returns-then-first-ne93-clause-step c =
    let old = c.args.self.now in
    let skipped = c.in_ok-skip_lines.ensures.rest in
    let other : (first (skip_blank old.rest.now) == 93) ≡ false =
    rw (← skipped) (grind (arith, nat_tests, common_steps)) in
    rw (skipped, c.in_ok-skip_lines.ensures.kept.keys)
    (item_begins old.outline.text.now c.args.frames.now.items old.rest.now (keys_of old.outline) other)

pub returns-clause-step : goal.returns-clause-step
returns-clause-step c =
    let old = c.args.self.now in
    let skipped = c.in_ok-skip_lines.ensures.rest in
    let is : (first (skip_blank old.rest.now) == 93) ≡ true =
    rw (← skipped) (grind (arith, nat_tests, common_steps)) in
    rw (
      c.close.ensures.left,
      c.close.ensures.rest,
      c.close.ensures.keys,
      skipped,
      c.in_ok-skip_lines.ensures.kept.keys,
    )
    (item_closes old.outline.text.now c.args.frames.now.items old.rest.now (keys_of old.outline) is)
