use Rattle.std.proofs.Common.{◌≡◌, [], ◌∷◌, ◌++◌, string_bytes, ap, ◌∙◌, append_assoc, rules}
use Rattle.lsp_message.proofs.Plain.{last-plain}
use Rattle.lsp_message.proofs.msg.text.push_quoted.Goals as goal

pub returns-then-is_plain : goal.returns-then-is_plain
returns-then-is_plain c =
    let old = string_bytes c.args.out.now in
    let text = c.args.text.now in
    let one : string_bytes c.push_str.new.self ≡ old ++ 34 ∷ [] = search rules in
    let two : string_bytes c.push_str-then-is_plain.new.self ≡ string_bytes c.push_str.new.self ++ text = search rules
    in
    last-plain c.push_str-then-is_plain-2.result old text _ _ (search rules) (two ∙ ap (λ s. s ++ text) one
    ∙ append_assoc old (34 ∷ []) text) c.push_str-then-is_plain-2.ensures.bytes
