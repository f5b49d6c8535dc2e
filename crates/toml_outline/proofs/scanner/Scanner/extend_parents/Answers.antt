use Rattle.toml_outline.proofs.Keeping.{keeps_rest, keeps_rest_then}
use Rattle.toml_outline.proofs.scanner.Scanner.extend_parents.Goals as goal

pub loop-init : goal.loop-init
loop-init c = keeps_rest c.args.self.now

pub loop-preserved : goal.loop-preserved
loop-preserved c = keeps_rest_then _ _ _ c.loop.invariant c.extend.ensures
