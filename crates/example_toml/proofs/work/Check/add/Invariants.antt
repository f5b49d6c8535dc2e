use Rattle.std.proofs.Common.{take}
use Rattle.std.specs.Arc.{arc_value}
use Rattle.example_toml.proofs.Marks.{Adds}
use Rattle.example_toml.proofs.work.Check.add.Given as goal

-- each problem so far has a diagnostic of this severity
abbrev pub invariant-loop-problem : goal.invariant-loop-problem
invariant-loop-problem l = Adds l.fn.severity l.fn.self.options.encoding (arc_value l.fn.self.source.text)
    l.fn.marks.items l.marks.items (take l.problem-index l.problems)
