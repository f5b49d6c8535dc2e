use Rattle.std.proofs.Common.{◌≡◌, ◌∙◌, refl, sym, ap, List, [], length, map, inl, inr, arith}
use Rattle.std.proofs.lemmas.Grind.{common_steps}
use Rattle.std.proofs.lemmas.List.{nil_from_length}
use Rattle.std.specs.Prelude.{IsSome}
use Rattle.toml.specs.Parse.{parse_document}
use Rattle.toml_outline.specs.declared.outline.Outline.{Outline}
use Rattle.toml_outline.specs.declared.outline.Problem.{Problem}
use Rattle.toml_outline.specs.Scanned.{keys_of, place_of}
use Rattle.toml_outline.proofs.Outlines.{has_keys}
use Rattle.toml_outline.proofs.reader.Reader.finish.Goals as goal
use Rattle.toml_outline.proofs.reader.Reader.finish.Goals.{in-Ok}
use Rattle.toml_outline.proofs.reader.Reader.finish.Goals.{
  in-Err+in-Some+then-is_empty+in_ok-from_str-in-Err+in_ok-push-in-Err,
}
use Rattle.toml_outline.proofs.reader.Reader.finish.Goals.{in-Err+in-Some+else-is_empty}

pub returns-clause-keys : goal.returns-clause-keys
returns-clause-keys c has =
    let reader = c.args.self in
    let text = reader.text.now in
    let made = c.into_outline-outline.ensures in
    let same = ap (λ (o : Outline). o.text.now) made in
    let keys = ap (λ (o : Outline). keys_of o) made in
    elim c.match-table_from_str.branch [
      | in-Ok w ↦
          let some : IsSome (parse_document text) = rw w.in-Ok.ensures.ok refl in
          rw w.outline-is (has_keys text reader _ has same keys (inl some))
      | in-Err+in-Some+then-is_empty+in_ok-from_str-in-Err+in_ok-push-in-Err w ↦
          let problems = c.into_outline-outline.result.problems in
          let none : problems.items ≡ [] =
          nil_from_length problems.items (first_of (
            omega (arith, problems.ok.0),
            grind (arith, common_steps, problems.ok.0),
          )) in
          let places = ap (λ (o : Outline). map place_of o.problems.items) (sym made)
          ∙ ap (λ (l : List Problem). map place_of l) none in
          let one : length w.push.new.self.items ≡ 1 = rw (w.in_ok-push-in-Err.ensures.items, none) refl in
          rw w.outline-is (has_keys text reader _ has same keys (inr (inr (places, one))))
      | in-Err+in-Some+else-is_empty w ↦
          rw w.outline-is (has_keys text reader _ has same keys (inr (inl
          (ap (λ (o : Outline). map place_of o.problems.items) (sym made)))))
    ]
