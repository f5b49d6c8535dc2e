use Rattle.std.proofs.Common.{◌∙◌, ap, drop, drop-drop}
use Rattle.lsp_server.proofs.unread_weights.UnreadWeights.settled.Goals as goal

pub loop-preserved : goal.loop-preserved
loop-preserved c = c.oldest_taken.ensures ∙ ap (drop 1) c.loop.invariant ∙ drop-drop 1 c.loop.counter c.args.self.now
