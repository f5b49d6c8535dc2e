use Rattle.std.proofs.Common.{refl}
use Rattle.lsp_types.proofs.WriteLemmas.{◌then◌, whole}
use Rattle.lsp_types_features.proofs.colors.ColorPresentationParamsToJson.write_json.Goals as goal

pub returns : goal.returns
returns g c = whole g.S.JsonSink.holds c.args.out.now c.begin_object.new.self _ c.end_object.new.self _ refl
    c.in_ok-begin_object.ensures c.end_object.ensures (λ outer has. has then c.in_ok-write_member.ensures then
    c.in_ok-write_some.ensures then c.in_ok-write_member-2.ensures then c.in_ok-write_member-3.ensures then
    c.in_ok-write_some-2.ensures)
