use Rattle.std.proofs.Common.{OnOk, refl, subst}
use Rattle.lsp_json_write.specs.Taken.{Steps, with_value}
use Rattle.lsp_types.specs.Written.{content_change}
use Rattle.lsp_types.proofs.WriteLemmas.{◌then◌, whole}
use Rattle.lsp_types.proofs.json.values.ContentChangeToJson.write_json.Goals as goal

pub returns : goal.returns
returns g c = subst (λ it. OnOk c.end_object.result (Steps g.S.JsonSink.holds (with_value (content_change it))
    c.args.out.now c.end_object.new.self)) c.self.view_is
    (whole g.S.JsonSink.holds c.args.out.now c.begin_object.new.self _ c.end_object.new.self _ refl
    c.in_ok-begin_object.ensures c.end_object.ensures
    (λ outer has. has then c.in_ok-write_some.ensures then c.in_ok-write_member.ensures))
