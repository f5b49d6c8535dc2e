use Rattle.std.proofs.Common.{◌≡◌, ◌∙◌, sym, ap, ◌<◌, ◌+◌, take, List, [], ◌∷◌, ◌++◌, length, arith}
use Rattle.std.proofs.lemmas.Grind.{take_at_read}
use Rattle.std.specs.Arc.{arc_value}
use Rattle.toml_outline.specs.declared.outline.Problem.{Problem}
use Rattle.example_toml.proofs.Marks.{adds_none, adds_one}
use Rattle.example_toml.proofs.work.Check.add.Goals as goal

pub loop-problem-init : goal.loop-problem-init
loop-problem-init c = adds_none c.args.severity c.args.self.now.options.encoding (arc_value c.args.self.now.source.text)
    c.args.marks.now.items

pub loop-problem-preserved : goal.loop-problem-preserved
loop-problem-preserved c =
    let i = c.loop-problem.problem-index in
    let problems = c.args.problems.now in
    let x = c.problem-item.result in
    let below : i < length problems = omega arith in
    let taken : take (i + 1) problems ≡ take i problems ++ x ∷ [] =
    (take_at_read problems i x below).1 ∙ ap (λ (y : Problem). take i problems ++ y ∷ [])
    (sym c.problem-item.is) in
    rw (c.in_ok-push.ensures.items, taken) (adds_one c.args.severity c.args.self.now.options.encoding
    (arc_value c.args.self.now.source.text) c.args.marks.now.items c.loop-problem.marks.items
    (take i problems) x c.in_ok-mark.field-0 c.loop-problem.invariant c.in_ok-mark.ensures)
