use Rattle.std.proofs.Common.{◌≡◌, true, false, ◌==◌, length, arith}
use Rattle.std.proofs.lemmas.Bool.Decides.{nat_tests}
use Rattle.std.proofs.lemmas.Grind.{common_steps}
use Rattle.toml_parser.specs.Lexical.{skip_blank, skip_ws}
use Rattle.toml_outline.specs.Lines.{ends_line}
use Rattle.toml_outline.specs.Scanned.{keys_of}
use Rattle.toml_outline.proofs.Steps.{line_bad, line_ends, line_goes_on, line_reads, on_error}
use Rattle.toml_outline.proofs.scanner.Scanner.expression.Goals as goal

pub returns-then-is_empty-clause-line : goal.returns-then-is_empty-clause-line
returns-then-is_empty-clause-line c =
    let old = c.args.self.now in
    let skipped = c.in_ok-skip_comments.ensures.rest in
    let over : (length (skip_blank old.rest.now) == 0) ≡ true =
    rw (← skipped) (grind (arith, nat_tests, common_steps)) in (
      line_ends old.outline.text.now old.header old.rest.now (keys_of old.outline) over,
      c.in_ok-skip_comments.ensures.kept.keys,
    )

pub returns-in_err-content-clause-line : goal.returns-in_err-content-clause-line
returns-in_err-content-clause-line c =
    let old = c.args.self.now in
    let kept = c.in_ok-skip_comments.ensures.kept in
    let skipped = c.in_ok-skip_comments.ensures.rest in
    let there : (length (skip_blank old.rest.now) == 0) ≡ false =
    rw (← skipped) (grind (arith, nat_tests, common_steps)) in
    on_error c.from_residual-in_err-content.result _ _ c.in_err-content.field-0.0 _
    c.from_residual-in_err-content.ensures.1
    (λ y p. p) (λ refused. rw (c.in_err-content.ensures.header, kept.kept.header)
    (line_bad old.outline.text.now old.header old.rest.now (keys_of old.outline) _ there
    (rw (kept.kept.text, kept.kept.header, skipped, kept.keys) at (c.in_err-content.ensures.step refused))))

pub returns-then-not-ends_line-clause-line : goal.returns-then-not-ends_line-clause-line
returns-then-not-ends_line-clause-line c refused =
    let old = c.args.self.now in
    let kept = c.in_ok-skip_comments.ensures.kept in
    let skipped = c.in_ok-skip_comments.ensures.rest in
    let new = c.content.new.self in
    let there : (length (skip_blank old.rest.now) == 0) ≡ false =
    rw (← skipped) (grind (arith, nat_tests, common_steps)) in
    let goes_on : ends_line (skip_ws new.rest.now) ≡ false =
    rw (← c.skip_ws-self.ensures.rest, ← c.ends_line.ensures) (grind (arith, common_steps)) in
    line_goes_on old.outline.text.now old.header new.header old.rest.now new.rest.now (keys_of old.outline)
    (keys_of new.outline) there (rw (kept.kept.text, kept.kept.header, skipped, kept.keys) at
    c.in_ok-content.ensures.step)
    goes_on

pub returns-clause-line : goal.returns-clause-line
returns-clause-line c =
    let old = c.args.self.now in
    let kept = c.in_ok-skip_comments.ensures.kept in
    let skipped = c.in_ok-skip_comments.ensures.rest in
    let new = c.content.new.self in
    let there : (length (skip_blank old.rest.now) == 0) ≡ false =
    rw (← skipped) (grind (arith, nat_tests, common_steps)) in
    let ended : ends_line (skip_ws new.rest.now) ≡ true =
    rw (← c.skip_ws-self.ensures.rest, ← c.ends_line.ensures) (grind (arith, common_steps)) in
    rw c.skip_ws-self.ensures.rest
    (line_reads old.outline.text.now old.header new.header old.rest.now new.rest.now (keys_of old.outline)
    (keys_of new.outline) there (rw (kept.kept.text, kept.kept.header, skipped, kept.keys) at
    c.in_ok-content.ensures.step)
    ended)
