use Rattle.lsp_types.proofs.WriteLemmas.{HasFirst}
use Rattle.lsp_types.proofs.json.writing.write_items.Given as goal

abbrev pub invariant-loop-value : goal.invariant-loop-value
invariant-loop-value g l =
    HasFirst g.S.JsonSink.holds g.T.ToJson.stands l.values l.value-index l.initial.out l.out
