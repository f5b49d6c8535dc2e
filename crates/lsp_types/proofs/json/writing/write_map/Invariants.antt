use Rattle.lsp_types.proofs.MapWrites.{HasEntries}
use Rattle.lsp_types.proofs.json.writing.write_map.Given as goal

abbrev pub invariant-loop-key : goal.invariant-loop-key
invariant-loop-key g l =
    HasEntries g.S.JsonSink.holds g.T.ToJson.stands l.values.entries l.key-iterator l.fn.out l.out
