use Rattle.std.proofs.Common.{◌≡◌, ◌∙◌, sym, ◌==◌, true, false, get_or, arith}
use Rattle.std.proofs.lemmas.Grind.{common_steps}
use Rattle.std.proofs.lemmas.Bool.Decides.{nat_tests}
use Rattle.toml_outline.proofs.Turns.{newline_here, newline_later}
use Rattle.toml_outline.proofs.scanner.after_line.Goals as goal

pub returns-then-byte_at-eq10 : goal.returns-then-byte_at-eq10
returns-then-byte_at-eq10 c =
    let text = c.args.text.now in
    let at = c.loop-at.at in
    let here : (get_or text at 0 == 10) ≡ true = grind (arith, nat_tests, common_steps) in
    c.skip.ensures.rest ∙ sym (newline_here text at (omega arith) here) ∙ c.loop-at.invariant

pub loop-at-preserved : goal.loop-at-preserved
loop-at-preserved c =
    let text = c.args.text.now in
    let at = c.loop-at.at in
    let later : (get_or text at 0 == 10) ≡ false = grind (arith, nat_tests, common_steps) in
    sym (newline_later text at (omega arith) later) ∙ c.loop-at.invariant
