use Rattle.toml_outline.specs.Scanned.{keys_of}
use Rattle.toml_outline.proofs.NextLines.{fault_of, line_has_fault, line_is_read}
use Rattle.toml_outline.proofs.scanner.Scanner.next_line.Goals as goal

pub returns-in-Ok : goal.returns-in-Ok
returns-in-Ok c = line_is_read c.args.self.now c.expression-read.new.self c.extend_parents.new.self c.in-Ok.is_there
    c.in-Ok.ensures.text c.in-Ok.ensures.problems c.in-Ok.ensures.line c.extend_parents.ensures

pub returns-in_ok-note_problem-in-Err : goal.returns-in_ok-note_problem-in-Err
returns-in_ok-note_problem-in-Err c =
    let read = c.expression-read.new.self in
    line_has_fault c.args.self.now read c.extend_parents.new.self c.note_problem.new.self
    c.expression-read.ensures.text c.expression-read.ensures.problems
    (fault_of c.expression-read.result c.in-Err.error _ (keys_of c.args.self.now.outline) read
    c.expression-read.ensures.line c.in-Err.is c.in_ok-note_problem-in-Err.ensures.error)
    c.extend_parents.ensures c.in_ok-note_problem-in-Err.ensures.noted
