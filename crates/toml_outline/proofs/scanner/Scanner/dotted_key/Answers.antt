use Rattle.std.proofs.Common.{◌≡◌, ◌∙◌, ap, ◌<◌, ◌-◌, ◌+◌, true, false, ◌==◌, arith}
use Rattle.std.proofs.lemmas.Bool.Decides.{nat_tests}
use Rattle.std.proofs.lemmas.Grind.{common_steps}
use Rattle.toml_parser.specs.Lexical.{first, skip_ws}
use Rattle.toml_outline.specs.declared.outline.Span.{Span}
use Rattle.toml_outline.specs.Keys.{part}
use Rattle.toml_outline.proofs.Keeping.{keeps_keys_then}
use Rattle.toml_outline.proofs.Steps.{on_error}
use Rattle.toml_outline.proofs.Turns.{parts_bad, parts_done, parts_many, parts_more}
use Rattle.toml_outline.proofs.scanner.Scanner.dotted_key.Goals as goal

pub returns-in_err-part-clause-read : goal.returns-in_err-part-clause-read
returns-in_err-part-clause-read c =
    on_error c.from_residual.result _ _ c.in_err-part.field-0.0 _ c.from_residual.ensures.1 (λ y p. p) (λ refused.
    c.loop.invariant.read ∙ parts_bad c.args.self.now.outline.text.now (80 - c.loop.counter) c.loop.parts.items
    c.loop.self.rest.now (c.in_err-part.ensures.rest refused))

pub returns-then-first-ne46-clause-read : goal.returns-then-first-ne46-clause-read
returns-then-first-ne46-clause-read c =
    let text = c.args.self.now.outline.text.now in
    let end = c.key_part.new.self.rest.now in
    let some : 0 < 80 - c.loop.counter = omega arith in
    let is_part : c.in_ok-part.part ≡ part text c.loop.self.rest.now end =
    rw c.loop.invariant.kept.kept.text at c.in_ok-part.ensures.rest.1 in
    let last : (first (skip_ws end) == 46) ≡ false =
    rw (← c.skip_ws-self.ensures.rest) (grind (arith, nat_tests, common_steps)) in (
      end,
      rw (c.in_ok-push.ensures.items, c.skip_ws-self.ensures.rest, is_part)
          (c.loop.invariant.read ∙ parts_done text (80 - c.loop.counter) c.loop.parts.items
          c.loop.self.rest.now end some
          c.in_ok-part.ensures.rest.0 last),
      ap (λ (s : Span). s.end) is_part,
    )

pub loop-preserved : goal.loop-preserved
loop-preserved c =
    let text = c.args.self.now.outline.text.now in
    let end = c.key_part.new.self.rest.now in
    let some : 0 < 80 - c.loop.counter = omega arith in
    let less : 80 - c.loop.counter - 1 ≡ 80 - (c.loop.counter + 1) = omega arith in
    let is_part : c.in_ok-part.part ≡ part text c.loop.self.rest.now end =
    rw c.loop.invariant.kept.kept.text at c.in_ok-part.ensures.rest.1 in
    let dotted : (first (skip_ws end) == 46) ≡ true =
    rw (← c.skip_ws-self.ensures.rest) (grind (arith, nat_tests, common_steps)) in
    let kept = keeps_keys_then c.args.self.now c.loop.self c.key_part.new.self c.loop.invariant.kept
    c.in_ok-part.ensures.kept in
    record {
      kept = record {
        kept = record { text = kept.kept.text; header = kept.kept.header; problems = kept.kept.problems };
        keys = kept.keys;
      };
      read = rw (
        c.in_ok-push.ensures.items,
        is_part,
        c.skip_ws-self-in-loop.ensures.rest,
        c.skip.ensures.rest,
        c.skip_ws-self.ensures.rest,
        ← less,
      )
          (c.loop.invariant.read ∙ parts_more text (80 - c.loop.counter) c.loop.parts.items
          c.loop.self.rest.now end some
          c.in_ok-part.ensures.rest.0 dotted);
    }

pub returns-clause-read : goal.returns-clause-read
returns-clause-read c refused =
    let none : 80 - c.loop.counter ≡ 0 = omega arith in
    c.loop.invariant.read ∙ rw none (parts_many c.args.self.now.outline.text.now c.loop.parts.items
    c.loop.self.rest.now)
