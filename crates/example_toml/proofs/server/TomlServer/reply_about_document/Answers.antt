use Rattle.serde_json.specs.View.{view}
use Rattle.std.proofs.Common.{map, rules, string_bytes, Global, Vec}
use Rattle.lsp_acts.specs.declared.server.Act.{Act}
use Rattle.example_toml.proofs.Replies.{if_ok, none_named, uri_read}
use Rattle.example_toml.specs.Reactions.{act_seen}
use Rattle.example_toml.specs.Replies.{RepliesNull, document_methods}
use Rattle.example_toml.proofs.server.TomlServer.reply_about_document.Goals as goal

-- a method of the table
pub returns-in-Ok-clause-unknown : goal.returns-in-Ok-clause-unknown
returns-in-Ok-clause-unknown c = search (rules, uri_read)

-- another method
pub returns-in_ok-method_not_found-in-Err-clause-unknown : goal.returns-in_ok-method_not_found-in-Err-clause-unknown
returns-in_ok-method_not_found-in-Err-clause-unknown c =
    let method = string_bytes c.args.request.method in
    if_ok (λ (acts : Vec (Act (Unit {0})) Global). RepliesNull c.args.self.now.texts.documents c.args.request.id method
    (view c.args.request.params) (map act_seen acts.items)) c.one.result
    (λ acts. none_named document_methods method (search rules))
