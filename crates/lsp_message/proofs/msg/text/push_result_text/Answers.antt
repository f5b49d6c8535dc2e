use Rattle.std.proofs.Common.{◌≡◌, ◌++◌, string_bytes, codes, refl}
use Rattle.serde_json.specs.Written.{compact_text}
use Rattle.lsp_message.specs.Text.{named}
use Rattle.lsp_message.specs.Tree.{id_tree}
use Rattle.lsp_message.proofs.Joined.{joined_three}
use Rattle.lsp_message.proofs.msg.text.push_result_text.Goals as goal

pub returns-clause-text : goal.returns-clause-text
returns-clause-text c = λ tree is.
    let old = string_bytes c.args.out.now in
    let text = string_bytes c.args.text in
    let id = named c.args.before.now (codes "id") (compact_text (id_tree c.args.id.now)) in
    let result = named (codes ",") (codes "result") text in
    let second : string_bytes c.push_named.new.out ≡ string_bytes c.push_id.new.out
    ++ result = c.in_ok-push_named.ensures in (
      id ++ result ++ codes "}",
      (text, is, refl),
      joined_three old id result (codes "}") _ _ _ c.in_ok-push_id.ensures.text second c.in_ok-push_str.ensures.bytes,
    )

pub returns-clause-range : goal.returns-clause-range
returns-clause-range c = c.in_ok-push_id.ensures.range
