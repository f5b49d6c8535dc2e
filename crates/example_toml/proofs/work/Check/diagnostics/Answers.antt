use Rattle.std.proofs.Common.{◌≡◌, subst, ℕ, false, true, List, [], rules}
use Rattle.std.specs.Arc.{arc_value}
use Rattle.toml_outline.specs.Reading.{IsOutlineOf}
use Rattle.example_toml.proofs.Marks.{Adds, with_newer, without_newer}
use Rattle.example_toml.specs.Problems.{error, warning}
use Rattle.example_toml.proofs.work.Check.diagnostics.Goals as goal
use Rattle.example_toml.proofs.work.Check.diagnostics.Goals.{then-not-self+in_ok-add-2, else-not-self}

pub returns : goal.returns
returns g c =
    let options = c.args.self.now.options in
    let text = arc_value c.args.self.now.source.text in
    let outline = c.in_ok-outline.outline in
    let held : c.as_str.result.now ≡ text.bytes = search rules in
    let is : IsOutlineOf text.bytes outline =
    subst (λ (t : List ℕ). IsOutlineOf t outline) held c.in_ok-outline.ensures in
    let some : Adds error options.encoding text [] c.add.new.marks.items outline.problems.items =
    rw (c.new-marks.ensures.items, c.as_slice-problems.ensures.value) at c.in_ok-add.ensures in
    elim c.if-not-self.branch [
      | then-not-self+in_ok-add-2 w ↦
          let disallowed : options.allows_newer ≡ false = search rules in
          let more : Adds warning options.encoding text c.add.new.marks.items w.add-then-not-self.new.marks.items
          outline.newer.items = rw c.as_slice-newer.ensures.value at w.in_ok-add-2.ensures in
          rw w.marks-is (with_newer options text outline c.add.new.marks.items w.add-then-not-self.new.marks.items is
          some more disallowed)
      | else-not-self w ↦
          let allowed : options.allows_newer ≡ true = search rules in
          rw w.marks-is (without_newer options text outline c.add.new.marks.items is some allowed)
    ]
