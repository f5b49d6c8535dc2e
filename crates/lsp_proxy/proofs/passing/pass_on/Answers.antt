use Rattle.std.proofs.Common.{rules}
use Rattle.lsp_proxy.specs.declared.passing.Ended.TheVariants.{All}
use Rattle.lsp_proxy.proofs.Carried.{carries_on, ends_on}
use Rattle.lsp_proxy.proofs.passing.pass_on.Goals as goal

pub returns-in-Ok-false : goal.returns-in-Ok-false
returns-in-Ok-false g c = ends_on All (g.R.Read.remaining c.args.reader.now)
    (g.R.Read.remaining c.loop.reader) (g.R.Read.remaining c.pass_piece.new.reader)
    (g.W.Write.contents c.args.writer.now) (g.W.Write.contents c.loop.writer)
    (g.W.Write.contents c.pass_piece.new.writer) c.loop.invariant
    (search rules)

pub returns-in-Err : goal.returns-in-Err
returns-in-Err g c = ends_on c.in-Err.ended (g.R.Read.remaining c.args.reader.now)
    (g.R.Read.remaining c.loop.reader) (g.R.Read.remaining c.pass_piece.new.reader)
    (g.W.Write.contents c.args.writer.now) (g.W.Write.contents c.loop.writer)
    (g.W.Write.contents c.pass_piece.new.writer) c.loop.invariant
    (search rules)

pub loop-preserved : goal.loop-preserved
loop-preserved g c = carries_on (g.R.Read.remaining c.args.reader.now)
    (g.R.Read.remaining c.loop.reader) (g.R.Read.remaining c.pass_piece.new.reader)
    (g.W.Write.contents c.args.writer.now) (g.W.Write.contents c.loop.writer)
    (g.W.Write.contents c.pass_piece.new.writer) c.loop.invariant
    (search rules)
