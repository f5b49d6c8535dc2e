use Rattle.std.proofs.Common.{◌≡◌, ◌-◌, suc, length}
use Rattle.toml_outline.specs.Reading.{HasRead}
use Rattle.example_toml.proofs.work.read.Given as goal

-- the lines so far are read
abbrev pub invariant-loop : goal.invariant-loop
invariant-loop g l = record {
  text : l.reader.text ≡ l.initial.reader.text;
  read : HasRead l.fn.text (suc (length l.fn.text) - l.counter) l.reader;
}
