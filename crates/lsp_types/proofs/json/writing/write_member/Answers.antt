use Rattle.lsp_types.proofs.WriteLemmas.{member_if}
use Rattle.lsp_types.proofs.json.writing.write_member.Goals as goal

pub returns : goal.returns
returns g c = member_if g.S.JsonSink.holds _ _ c.args.out.now c.key.new.self c.write_json.new.out _ c.in_ok-key.ensures
    c.write_json.ensures
