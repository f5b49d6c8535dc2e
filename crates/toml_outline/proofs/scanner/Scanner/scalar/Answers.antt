use Rattle.std.proofs.Common.{rules}
use Rattle.toml_outline.specs.Values.{scalar}
use Rattle.toml_outline.proofs.scanner.Scanner.scalar.Goals as goal

pub returns-in_err-string-clause-read : goal.returns-in_err-string-clause-read
unfolding scalar
returns-in_err-string-clause-read c = search rules

pub returns-then-starts_string-clause-read : goal.returns-then-starts_string-clause-read
unfolding scalar
returns-then-starts_string-clause-read c = search rules

pub returns-in_err-scalar-clause-read : goal.returns-in_err-scalar-clause-read
unfolding scalar
returns-in_err-scalar-clause-read c = search rules

pub returns-in_ok-note_newer-clause-read : goal.returns-in_ok-note_newer-clause-read
unfolding scalar
returns-in_ok-note_newer-clause-read c = search rules

pub returns-else-matches-clause-read : goal.returns-else-matches-clause-read
unfolding scalar
returns-else-matches-clause-read c = search rules
