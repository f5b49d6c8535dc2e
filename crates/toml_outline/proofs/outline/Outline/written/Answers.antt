use Rattle.std.proofs.Common.{◌≡◌, ◌∙◌, refl, sym, true, false, nat_le, arith}
use Rattle.std.proofs.lemmas.Bool.Decides.{nat_tests}
use Rattle.toml_outline.specs.Names.{is_boundary, written}
use Rattle.toml_outline.proofs.outline.Outline.written.Goals as goal
use Rattle.toml_outline.proofs.outline.Outline.written.Goals.{
  else-part-via-then-part+then-is_boundary+else-is_boundary-2,
}
use Rattle.toml_outline.proofs.outline.Outline.written.Goals.{else-part-via-then-part+else-is_boundary}
use Rattle.toml_outline.proofs.outline.Outline.written.Goals.{else-part-via-else-part}

pub returns-then-is_boundary-2 : goal.returns-then-is_boundary-2
unfolding written
returns-then-is_boundary-2 c =
    let text = c.args.self.now.text.now in
    let part = c.args.part in
    let ordered : nat_le part.start part.end ≡ true = grind (arith, nat_tests) in
    let first : is_boundary text part.start ≡ true = sym c.is_boundary.ensures ∙ c.if-is_boundary.true in
    let last : is_boundary text part.end ≡ true =
    sym c.is_boundary-then-is_boundary.ensures ∙ c.if-is_boundary-2.true in
    rw (ordered, first, last) c.range.ensures.value

pub returns-else-part : goal.returns-else-part
unfolding written
returns-else-part c =
    let text = c.args.self.now.text.now in
    let part = c.args.part in
    elim c.else-part.branch [
      | else-part-via-then-part+then-is_boundary+else-is_boundary-2 w ↦
          let ordered : nat_le part.start part.end ≡ true = grind (arith, nat_tests) in
          let first : is_boundary text part.start ≡ true = sym w.is_boundary.ensures ∙ w.if-is_boundary.true in
          let last : is_boundary text part.end ≡ false =
          sym w.is_boundary-then-is_boundary.ensures ∙ w.if-is_boundary-2.false in
          rw (ordered, first, last) refl
      | else-part-via-then-part+else-is_boundary w ↦
          let ordered : nat_le part.start part.end ≡ true = grind (arith, nat_tests) in
          let first : is_boundary text part.start ≡ false = sym w.is_boundary.ensures ∙ w.if-is_boundary.false in
          rw (ordered, first) refl
      | else-part-via-else-part w ↦
          let ordered : nat_le part.start part.end ≡ false = grind (arith, nat_tests) in
          rw ordered refl
    ]
