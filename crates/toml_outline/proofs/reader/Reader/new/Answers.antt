use Rattle.std.proofs.Common.{refl}
use Rattle.toml_outline.proofs.Outlines.{has_begun}
use Rattle.toml_outline.proofs.reader.Reader.new.Goals as goal

pub returns-clause-read : goal.returns-clause-read
returns-clause-read c = has_begun c.args.text.now _ refl c.new.ensures.text c.new.ensures.rest c.new.ensures.header
    c.new.ensures.keys c.new.ensures.problems
