use Rattle.serde_json.specs.View.{view}
use Rattle.std.proofs.Common.{◌∙◌, codes, string_bytes, sym}
use Rattle.std.proofs.lemmas.Slice.Eq.{bytes_eq-Decides}
use Rattle.example_toml.proofs.Acts.{applies_none, sent_by}
use Rattle.example_toml.proofs.server.TomlServer.note.Goals as goal

pub returns-then-eq-clause-applies : goal.returns-then-eq-clause-applies
returns-then-eq-clause-applies c =
    applies_none c.reconfigure.result c.args.self.now.texts.documents c.reconfigure.new.self.texts.documents
    (string_bytes c.args.notification.now.method) (view c.args.notification.now.params)
    (sym c.as_str.ensures.value
    ∙ (bytes_eq-Decides c.as_str.result.now (codes "workspace/didChangeConfiguration")).0
    (sym c.eq.ensures ∙ c.if-eq.true)) c.reconfigure.ensures.same

pub returns-clause-acts : goal.returns-clause-acts
returns-clause-acts c = sent_by c.apply.result c.apply.new.self.documents c.apply.ensures.acts
