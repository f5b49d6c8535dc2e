use Rattle.std.proofs.Common.{◌≡◌, arith, rules}
use Rattle.std.proofs.lemmas.Grind.{common_steps}
use Rattle.std.proofs.Common.{Some, None}
use Rattle.std.proofs.lemmas.List.{map_push}
use Rattle.toml_outline.specs.Keys.{key_of}
use Rattle.toml_outline.specs.Lines.{after_brackets, begins_array}
use Rattle.toml_outline.specs.Scanned.{keys_of}
use Rattle.toml_outline.proofs.Steps.{header_bad, header_goes, header_open, on_error}
use Rattle.toml_outline.proofs.scanner.Scanner.read_header.Goals as goal

pub returns-in_err-parts-clause-step : goal.returns-in_err-parts-clause-step
returns-in_err-parts-clause-step c =
    let old = c.args.self.now in
    on_error c.from_residual.result _ _ c.in_err-parts.field-0.0 _ c.from_residual.ensures.1 (λ y p. p) (λ refused.
    rw c.in_err-parts.ensures.kept.keys (header_bad old.outline.text.now old.rest.now (keys_of old.outline)
    (rw (c.skip_ws-self.ensures.rest, c.after_opening.ensures, c.begins_array-is_array.ensures) at
    (c.in_err-parts.ensures.read refused))))

pub returns-in_default-clause-step : goal.returns-in_default-clause-step
returns-in_default-clause-step c refused =
    let old = c.args.self.now in
    let new = c.dotted_key.new.self in
    let read = c.in_ok-parts.ensures.read in
    let still : after_brackets 93 c.begins_array-is_array.result new.rest.now ≡ None =
    first_of (cc, grind (arith, common_steps), search rules) in
    let open_still : after_brackets 93 (begins_array old.rest.now) new.rest.now ≡ None =
    rw c.begins_array-is_array.ensures at still in
    rw c.in_ok-parts.ensures.kept.keys
    (header_open old.outline.text.now old.rest.now (keys_of old.outline) c.in_ok-parts.parts.items read.0 new.rest.now
    (rw (c.skip_ws-self.ensures.rest, c.after_opening.ensures, c.begins_array-is_array.ensures) at read.1) open_still)

pub returns-clause-step : goal.returns-clause-step
returns-clause-step c =
    let old = c.args.self.now in
    let new = c.dotted_key.new.self in
    let kept = c.in_ok-parts.ensures.kept in
    let read = c.in_ok-parts.ensures.read in
    let rest = c.in-Some.rest in
    let found : after_brackets 93 c.begins_array-is_array.result new.rest.now ≡ Some rest.now =
    first_of (cc, grind (arith, common_steps), search rules) in
    let closed : after_brackets 93 (begins_array old.rest.now) new.rest.now ≡ Some rest.now =
    rw c.begins_array-is_array.ensures at found in
    rw (
      c.in_ok-push.ensures.items,
      map_push key_of new.outline.entries.items _,
      kept.keys,
      c.header_kind.ensures,
      c.new-whole.ensures,
      c.offset-start.ensures,
      c.offset.ensures,
      kept.kept.text,
      c.begins_array-is_array.ensures,
    )
    (header_goes old.outline.text.now old.rest.now (keys_of old.outline) c.in_ok-parts.parts.items read.0 new.rest.now
    rest.now (rw (c.skip_ws-self.ensures.rest, c.after_opening.ensures, c.begins_array-is_array.ensures) at
    read.1) closed)
