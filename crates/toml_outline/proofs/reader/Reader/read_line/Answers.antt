use Rattle.std.proofs.Common.{refl}
use Rattle.toml_outline.proofs.Outlines.{reads_on}
use Rattle.toml_outline.proofs.reader.Reader.read_line.Goals as goal

pub returns-clause-read : goal.returns-clause-read
returns-clause-read c = reads_on c.next_line.result c.args.self.now _ refl c.next_line.ensures
