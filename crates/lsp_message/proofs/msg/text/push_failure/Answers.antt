use Rattle.std.proofs.Common.{◌≡◌, ◌++◌, string_bytes, codes, refl, append_assoc}
use Rattle.serde_json.specs.Written.{compact_text}
use Rattle.lsp_message.specs.Composing.{Adds}
use Rattle.lsp_message.specs.Text.{named, IsErrorText}
use Rattle.lsp_message.specs.Tree.{id_tree}
use Rattle.lsp_message.specs.View.{error_view}
use Rattle.lsp_message.proofs.Joined.{joined_three}
use Rattle.lsp_message.proofs.msg.text.push_failure.Goals as goal

pub returns-clause-text : goal.returns-clause-text
returns-clause-text c =
    let old = string_bytes c.args.out.now in
    let id = named c.args.before.now (codes "id") (compact_text (id_tree c.args.id.now)) in
    let error : Adds (IsErrorText (error_view c.args.error.now)) (string_bytes c.push_str.new.self)
    (string_bytes c.push_error.new.out) = c.in_ok-push_error.ensures.text in
    let member = named (codes ",") (codes "error") error.0 in
    let second : string_bytes c.push_error.new.out ≡ string_bytes c.push_id.new.out ++ member = simp (
      error.2,
      c.in_ok-push_str.ensures.bytes,
      append_assoc,
    ) in (
      id ++ member ++ codes "}",
      (error.0, error.1, refl),
      joined_three old id member (codes "}") _ _ _ c.in_ok-push_id.ensures.text second c.in_ok-push_str-2.ensures.bytes,
    )

pub returns-clause-range : goal.returns-clause-range
returns-clause-range c = (c.in_ok-push_id.ensures.range, c.in_ok-push_error.ensures.range)
