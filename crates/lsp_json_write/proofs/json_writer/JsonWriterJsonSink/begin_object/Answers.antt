use Rattle.std.proofs.Common.{refl, subst, arith, ◌∙◌}
use Rattle.json.specs.Json as json
use Rattle.lsp_json_write.specs.Text.{IsTextOf}
use Rattle.lsp_json_write.proofs.json_writer.JsonWriterJsonSink.begin_object.Goals as goal

pub returns : goal.returns
returns c =
    let done = c.in_ok-begin_object.ensures in λ taken h. (
      (
        c.args.self.now.out.tokens,
        subst (IsTextOf taken c.args.self.now.out.tokens) c.in_ok-self.ensures h.0,
        (json.no_members, done.ok, refl, omega arith, refl),
        omega arith,
      ),
      done.room.0 ∙ h.1,
    )
