use Rattle.lsp_types.proofs.WriteLemmas.{first_all, first_more}
use Rattle.lsp_types.proofs.json.writing.write_items.Goals as goal

pub loop-value-init : goal.loop-value-init
loop-value-init g c = λ outer held. held

pub loop-value-preserved : goal.loop-value-preserved
loop-value-preserved g c = first_more g.S.JsonSink.holds g.T.ToJson.stands _ _ _ _ _ _ c.loop-value-test.true
    c.value-item.is c.loop-value.invariant c.in_ok-write_json.ensures

pub returns : goal.returns
returns g c = first_all g.S.JsonSink.holds g.T.ToJson.stands _ _ c.args.out.now _ _ c.end_array.new.self _
    c.in_ok-begin_array.ensures c.end_array.ensures c.loop-value.invariant c.loop-value-test.false
