use Rattle.std.proofs.Common.{map, take}
use Rattle.serde_json.specs.View.{items_of, view}
use Rattle.lsp_acts.specs.Publishing.{AreWritten}
use Rattle.lsp_acts.proofs.act_diagnostics.written.Given as goal

abbrev pub invariant-loop-value : goal.invariant-loop-value
invariant-loop-value g l = AreWritten g.T.Described.writes (take l.value-index l.values)
    (items_of (map view l.trees.items))
