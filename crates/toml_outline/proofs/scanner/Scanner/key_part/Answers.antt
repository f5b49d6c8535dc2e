use Rattle.std.proofs.Common.{◌≡◌, ◌∙◌, refl, ap, rules, arith}
use Rattle.std.proofs.lemmas.Grind.{common_steps}
use Rattle.toml_outline.specs.declared.scanner.Scanner.{Scanner}
use Rattle.toml_outline.specs.Keys.{skip_part}
use Rattle.toml_outline.proofs.scanner.Scanner.key_part.Goals.{then-starts_string+then-not-has_lines+in_ok-string}
use Rattle.toml_outline.proofs.scanner.Scanner.key_part.Goals.{else-starts_string+then-is_bare}
use Rattle.toml_outline.proofs.scanner.Scanner.key_part.Goals as goal

pub returns-in_err-string-clause-rest : goal.returns-in_err-string-clause-rest
unfolding skip_part
returns-in_err-string-clause-rest c = search rules

pub returns-else-is_bare-clause-rest : goal.returns-else-is_bare-clause-rest
unfolding skip_part
returns-else-is_bare-clause-rest c = search rules

pub returns-clause-rest : goal.returns-clause-rest
unfolding skip_part
returns-clause-rest c =
    elim c.if-starts_string.branch [
      | then-starts_string+then-not-has_lines+in_ok-string w ↦
          let moved : c.note.new.self.rest.now ≡ w.string.new.self.rest.now =
          c.note.ensures.rest ∙ ap (λ (x : Scanner). x.rest.now) w.self-is in
          let same : c.note.new.self.outline.text.now ≡ c.args.self.now.outline.text.now =
          c.note.ensures.kept.kept.text ∙ ap (λ (x : Scanner). x.outline.text.now) w.self-is
          ∙ w.in_ok-string.ensures.kept.kept.text in (
            rw moved (first_of (search rules, grind (arith, common_steps))),
            rw (c.new.ensures, c.offset-start.ensures, c.offset.ensures, same) refl,
          )
      | else-starts_string+then-is_bare w ↦
          let moved : c.note.new.self.rest.now ≡ w.skip_bare-self.result.now =
          c.note.ensures.rest ∙ ap (λ (x : Scanner). x.rest.now) w.self-is in
          let same : c.note.new.self.outline.text.now ≡ c.args.self.now.outline.text.now =
          c.note.ensures.kept.kept.text ∙ ap (λ (x : Scanner). x.outline.text.now) w.self-is in (
            rw (moved, w.skip_bare-self.ensures) (first_of (search rules, grind (arith, common_steps))),
            rw (c.new.ensures, c.offset-start.ensures, c.offset.ensures, same) refl,
          )
    ]
