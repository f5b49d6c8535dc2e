use Rattle.std.proofs.Common.{◌≡◌, ◌+◌, ◌-◌, Some, None, length, take, drop, sym, ap, ◌∙◌, arith, take_all, length-drop}
use Rattle.lsp_message.specs.HeaderPart.{field}
use Rattle.lsp_message.proofs.Separators.{header_text-parted}
use Rattle.lsp_message.proofs.frame.header.header_text.Goals as goal

pub returns-in-Some : goal.returns-in-Some
returns-in-Some c =
    let text = c.args.text.now in
    let at = c.in-Some.at in
    let parted = header_text-parted text (Some at) (sym c.is_empty.ensures ∙ c.if-is_empty.false) c.in-Some.ensures in
    let value : take (length text - (at + 2)) (drop (at + 2) text) ≡ drop (at + 2) text = take_all _ _ (omega (
      arith,
      length-drop (at + 2) text,
    )) in
    c.field.ensures ∙ ap (field (take at text)) value ∙ sym parted

pub returns-in-None : goal.returns-in-None
returns-in-None c = sym (header_text-parted c.args.text.now None (sym c.is_empty.ensures ∙ c.if-is_empty.false)
    c.in-None.ensures)
