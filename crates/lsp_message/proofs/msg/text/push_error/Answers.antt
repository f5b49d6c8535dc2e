use Rattle.std.proofs.Common.{◌≡◌, ◌++◌, option_map, string_bytes, codes, refl, rules}
use Rattle.serde_json.specs.Data.{number, string}
use Rattle.serde_json.specs.Find.{of_integer}
use Rattle.serde_json.specs.Written.{compact_text}
use Rattle.serde_json.specs.View.{view}
use Rattle.lsp_message.specs.Composing.{Adds}
use Rattle.lsp_message.specs.Text.{named, IsLaterMember}
use Rattle.lsp_message.proofs.Joined.{joined_four}
use Rattle.lsp_message.proofs.msg.text.push_error.Goals as goal

pub returns-clause-text : goal.returns-clause-text
returns-clause-text c =
    let old = string_bytes c.args.out.now in
    let error = c.args.error.now in
    let details : Adds (IsLaterMember (codes "data") (option_map view error.«data»)) (string_bytes c.push_text.new.out)
    (string_bytes c.push_later_member.new.out) = search rules in
    let code = named (codes "{") (codes "code") (compact_text (number (of_integer error.code))) in
    let message = named (codes ",") (codes "message") (compact_text (string (string_bytes error.message))) in
    let first : string_bytes c.push_number.new.out ≡ old ++ code = search rules in
    let third : string_bytes c.push_text.new.out ≡ string_bytes c.push_number.new.out ++ message = search rules in (
      code ++ message ++ details.0 ++ codes "}",
      (details.0, details.1, refl),
      joined_four old code message details.0 (codes "}") _ _ _ _ first third details.2 (search rules),
    )
