use Rattle.lsp_threads.proofs.Taken.{pumped_known}
use Rattle.lsp_threads.proofs.pumping.pump_with.Goals as goal

pub returns : goal.returns
returns g c =
    let did = c.pump_traced.ensures in
    pumped_known c.args.limits (g.R.Read.remaining c.args.reader) c.pump_traced.result.taken.parts
    c.pump_traced.result.given (g.W.Write.contents c.args.writer.now)
    (g.W.Write.contents c.pump_traced.new.writer) c.pump_traced.result.answer did.told did.taken did.given
