use Rattle.std.proofs.Common.{◌≡◌, ◌++◌, Some, string_bytes, codes, refl}
use Rattle.serde_json.specs.Data.{string}
use Rattle.serde_json.specs.Written.{compact_text}
use Rattle.serde_json.specs.View.{view}
use Rattle.lsp_message.specs.Meaning.{unless_null}
use Rattle.lsp_message.specs.Composing.{Adds}
use Rattle.lsp_message.specs.Text.{named, IsLaterMember}
use Rattle.lsp_message.proofs.Joined.{joined_three}
use Rattle.lsp_message.proofs.msg.text.push_notification.Goals as goal

pub returns : goal.returns
returns c =
    let old = string_bytes c.args.out.now in
    let notification = c.args.notification.now in
    let more : Adds (IsLaterMember (codes "params") (unless_null (Some (view notification.params))))
    (string_bytes c.push_text.new.out) (string_bytes c.push_params.new.out) = c.in_ok-push_params.ensures in
    let method = named c.args.before.now (codes "method") (compact_text (string (string_bytes notification.method))) in
    let first : string_bytes c.push_text.new.out ≡ old ++ method = rw (← c.as_str.ensures.value)
    c.in_ok-push_text.ensures in (
      method ++ more.0 ++ codes "}",
      (more.0, more.1, refl),
      joined_three old method more.0 (codes "}") _ _ _ first
          more.2 c.in_ok-push_str.ensures.bytes,
    )
