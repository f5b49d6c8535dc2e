use Rattle.std.proofs.Common.{◌≡◌, ◌++◌, Some, string_bytes, codes, refl, rules}
use Rattle.serde_json.specs.Data.{string}
use Rattle.serde_json.specs.Written.{compact_text}
use Rattle.serde_json.specs.View.{view}
use Rattle.lsp_message.specs.Meaning.{unless_null}
use Rattle.lsp_message.specs.Tree.{id_tree}
use Rattle.lsp_message.specs.Composing.{Adds}
use Rattle.lsp_message.specs.Text.{named, IsLaterMember}
use Rattle.lsp_message.proofs.Joined.{joined_four}
use Rattle.lsp_message.proofs.msg.text.push_request.Goals as goal

pub returns-clause-text : goal.returns-clause-text
returns-clause-text c =
    let old = string_bytes c.args.out.now in
    let request = c.args.request.now in
    let more : Adds (IsLaterMember (codes "params") (unless_null (Some (view request.params))))
    (string_bytes c.push_text.new.out) (string_bytes c.push_params.new.out) = search rules in
    let id = named c.args.before.now (codes "id") (compact_text (id_tree request.id)) in
    let method = named (codes ",") (codes "method") (compact_text (string (string_bytes request.method))) in
    let first : string_bytes c.push_id.new.out ≡ old ++ id = search rules in
    let second : string_bytes c.push_text.new.out ≡ string_bytes c.push_id.new.out ++ method = search rules in (
      id ++ method ++ more.0 ++ codes "}",
      (more.0, more.1, refl),
      joined_four old id method more.0 (codes "}") _ _ _ _
          first second more.2 (search rules),
    )
