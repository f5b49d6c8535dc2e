use Rattle.std.proofs.Common.{refl}
use Rattle.toml_outline.proofs.scanner.Scanner.note_problem.Goals as goal

pub returns-in_ok-push-in-At-clause-noted : goal.returns-in_ok-push-in-At-clause-noted
returns-in_ok-push-in-At-clause-noted c = record {
  problem = _;
  problems = c.in_ok-push-in-At.ensures.items;
  rest = rw c.new-span.ensures c.after_line-self.ensures;
  header = refl;
  text = refl;
  keys = refl;
}
