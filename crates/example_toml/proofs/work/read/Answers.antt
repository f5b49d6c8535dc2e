use Rattle.std.proofs.Common.{◌≡◌, ◌-◌, ◌+◌, ◌<◌, ℕ, suc, length, Ok, ◌∙◌, arith}
use Rattle.toml_outline.specs.Reading.{HasRead}
use Rattle.toml_outline.proofs.Outlines.{is_outline, reads_last, reads_more}
use Rattle.example_toml.proofs.work.read.Goals as goal
use Rattle.example_toml.proofs.work.read.Goals.{else-loop-test}
use Rattle.example_toml.proofs.work.read.Goals.{then-loop-test+in_ok-check+in_ok-read_line+then-not-branch}

pub loop-preserved : goal.loop-preserved
loop-preserved g c =
    let text = c.args.text.now in
    let left : ℕ = suc (length text) - c.loop.counter in
    let some : 0 < left = omega arith in
    let less : left - 1 ≡ suc (length text) - (c.loop.counter + 1) = omega arith in
    record {
      text = c.in_ok-read_line.ensures.text ∙ c.loop.invariant.text;
      read = rw (← less) (reads_more c.loop.reader c.read_line.new.self c.in_ok-read_line.field-0 text left
          c.in_ok-read_line.ensures.read c.if-not-branch.false some c.loop.invariant.read);
    }

pub returns : goal.returns
returns g c =
    let text = c.args.text.now in
    let left : ℕ = suc (length text) - c.loop.counter in
    let has : HasRead text 0 c.loop-test.reader =
    elim c.loop-test.branch [
      | else-loop-test w ↦
          let none : left ≡ 0 = omega arith in
          rw w.reader-is (rw none at c.loop.invariant.read)
      | then-loop-test+in_ok-check+in_ok-read_line+then-not-branch w ↦
          let some : 0 < left = omega arith in
          rw w.reader-is (reads_last c.loop.reader w.read_line.new.self w.in_ok-read_line.field-0 text left
          w.in_ok-read_line.ensures.read w.if-not-branch.true some c.loop.invariant.read)
    ] in
    is_outline text c.loop-test.reader (Ok c.in_ok-finish.field-0) has c.in_ok-finish.ensures.document
    c.in_ok-finish.ensures.keys
