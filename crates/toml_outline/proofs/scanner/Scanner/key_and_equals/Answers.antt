use Rattle.std.proofs.Common.{◌≡◌, ap, true, false, ◌==◌, length, arith}
use Rattle.std.proofs.lemmas.Bool.Decides.{nat_tests}
use Rattle.std.proofs.lemmas.Grind.{common_steps}
use Rattle.toml_parser.specs.Lexical.{first}
use Rattle.std.proofs.lemmas.List.{length-map, map_push}
use Rattle.toml_outline.specs.Keys.{key_of}
use Rattle.toml_outline.specs.Scanned.{keys_of}
use Rattle.toml_outline.proofs.Steps.{key_bad, key_goes, key_lacks, on_error}
use Rattle.toml_outline.proofs.scanner.Scanner.key_and_equals.Goals as goal

pub returns-in_err-parts-clause-step : goal.returns-in_err-parts-clause-step
returns-in_err-parts-clause-step c =
    let old = c.args.self.now in
    on_error c.from_residual.result _ _ c.in_err-parts.field-0.0 _ c.from_residual.ensures.1 (λ y p. p) (λ refused.
    rw c.in_err-parts.ensures.kept.keys (key_bad old.outline.text.now c.args.parent old.rest.now (keys_of old.outline)
    (c.in_err-parts.ensures.read refused)))

pub returns-then-first-ne61-clause-step : goal.returns-then-first-ne61-clause-step
returns-then-first-ne61-clause-step c refused =
    let old = c.args.self.now in
    let new = c.dotted_key.new.self in
    let read = c.in_ok-parts.ensures.read in
    let lacks : (first new.rest.now == 61) ≡ false = grind (arith, nat_tests, common_steps) in
    rw (
      c.in_ok-push.ensures.items,
      map_push key_of new.outline.entries.items _,
      c.in_ok-parts.ensures.kept.keys,
      c.new-key.ensures,
      c.offset-start.ensures,
      read.2,
    )
    (key_lacks old.outline.text.now c.args.parent old.rest.now (keys_of old.outline) c.in_ok-parts.parts.items read.0
    new.rest.now read.1 lacks)

pub returns-clause-step : goal.returns-clause-step
returns-clause-step c =
    let old = c.args.self.now in
    let new = c.dotted_key.new.self in
    let read = c.in_ok-parts.ensures.read in
    let is : (first new.rest.now == 61) ≡ true = grind (arith, nat_tests, common_steps) in
    let count : c.len-index.result ≡ length (keys_of old.outline) =
    omega (
      arith,
      new.outline.entries.ok.0,
      length-map new.outline.entries.items key_of,
      ap length c.in_ok-parts.ensures.kept.keys,
      c.len-index.ensures,
    ) in
    rw (
      c.in_ok-push.ensures.items,
      map_push key_of new.outline.entries.items _,
      c.in_ok-parts.ensures.kept.keys,
      c.new-key.ensures,
      c.offset-start.ensures,
      read.2,
      count,
      c.skip_ws-self.ensures.rest,
      c.skip.ensures.rest,
    )
    (key_goes old.outline.text.now c.args.parent old.rest.now (keys_of old.outline) c.in_ok-parts.parts.items read.0
    new.rest.now read.1 is)
