use Rattle.lsp_types.proofs.WriteLemmas.{member_if}
use Rattle.lsp_types.proofs.json.writing.write_text.Goals as goal

pub returns : goal.returns
returns g c = member_if g.S.JsonSink.holds _ _ c.args.out.now c.key.new.self c.str.new.self _ c.in_ok-key.ensures
    c.str.ensures
