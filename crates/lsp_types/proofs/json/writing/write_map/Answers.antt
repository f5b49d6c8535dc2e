use Rattle.std.proofs.Common.{subst, ◌∙◌}
use Rattle.lsp_json_write.specs.Taken.{Steps, with_key}
use Rattle.lsp_types.proofs.MapWrites.{entries_all, entries_more, entries_none}
use Rattle.lsp_types.proofs.json.writing.write_map.Goals as goal

pub loop-key-init : goal.loop-key-init
loop-key-init g c = entries_none g.S.JsonSink.holds g.T.ToJson.stands _ _ c.args.out.now c.begin_object.new.self
    c.in_ok-begin_object.ensures (c.into_iter-key-iterator.ensures.into_iter_gives ∙ c.iter-key-items.ensures.rest)

pub loop-key-preserved : goal.loop-key-preserved
loop-key-preserved g c = entries_more g.S.JsonSink.holds g.T.ToJson.stands _ _ _ c.in-Some.key.now c.in-Some.value.now
    c.args.out.now c.loop-key.out c.key.new.self c.write_json.new.out c.iter-key-items.ensures.ordered
    c.loop-key.invariant c.in-Some.ensures.steps
    (subst (λ key. Steps g.S.JsonSink.holds (with_key key) c.loop-key.out c.key.new.self) c.as_str.ensures.value
    c.in_ok-key.ensures) c.in_ok-write_json.ensures

pub returns : goal.returns
returns g c = entries_all g.S.JsonSink.holds g.T.ToJson.stands _ _ c.args.out.now _ c.end_object.new.self _
    c.end_object.ensures c.loop-key.invariant c.in-None.ensures.steps.0
