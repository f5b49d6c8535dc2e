use Rattle.std.proofs.Common.{◌≡◌, ◌∙◌, refl, true, false, ◌==◌, length, arith}
use Rattle.std.proofs.lemmas.Bool.Decides.{nat_tests}
use Rattle.std.proofs.lemmas.Grind.{common_steps}
use Rattle.toml_parser.specs.Lexical.{first}
use Rattle.toml_outline.specs.Lines.{header, value}
use Rattle.toml_outline.specs.Scanned.{keys_of}
use Rattle.std.proofs.Common.{Some}
use Rattle.toml_outline.proofs.Steps.{content_header, content_pair, on_error, on_ok, steps_then}
use Rattle.toml_outline.proofs.scanner.Scanner.content.Goals as goal

pub returns-then-first-eq91-clause-step : goal.returns-then-first-eq91-clause-step
returns-then-first-eq91-clause-step c =
    let old = c.args.self.now in
    let text = old.outline.text.now in
    let keys = keys_of old.outline in
    let is : (first old.rest.now == 91) ≡ true = grind (arith, nat_tests, common_steps) in
    rw (content_header text old.header old.rest.now keys is)
    (steps_then c.read_header.result c.read_header.new.self (header text old.rest.now keys) (Some (length keys))
    c.read_header.ensures.step c.read_header.ensures.set)

pub returns-in_err-entry-clause-step : goal.returns-in_err-entry-clause-step
returns-in_err-entry-clause-step c =
    let old = c.args.self.now in
    let text = old.outline.text.now in
    let keys = keys_of old.outline in
    let other : (first old.rest.now == 91) ≡ false = grind (arith, nat_tests, common_steps) in
    on_error c.from_residual.result _ _ c.in_err-entry.field-0.0 _ c.from_residual.ensures.1 (λ y p. p) (λ refused.
    rw (content_pair text old.header old.rest.now keys other, c.in_err-entry.ensures.step refused) refl)

pub returns-clause-step : goal.returns-clause-step
returns-clause-step c =
    let old = c.args.self.now in
    let text = old.outline.text.now in
    let keys = keys_of old.outline in
    let new = c.key_and_equals.new.self in
    let other : (first old.rest.now == 91) ≡ false = grind (arith, nat_tests, common_steps) in
    let read : value text c.in_ok-entry.entry new.rest.now (keys_of new.outline)
    ≡ value new.outline.text.now c.in_ok-entry.entry new.rest.now (keys_of new.outline) =
    rw c.in_ok-entry.ensures.kept.text refl in
    rw (content_pair text old.header old.rest.now keys other, c.in_ok-entry.ensures.step, read)
    (steps_then c.value.result c.value.new.self (value new.outline.text.now c.in_ok-entry.entry new.rest.now
    (keys_of new.outline))
    old.header c.value.ensures.step (on_ok c.value.result (c.value.new.self.header ≡ old.header)
    (c.value.ensures.kept.header ∙ c.in_ok-entry.ensures.kept.header)))
