use Rattle.std.proofs.Common.{◌≡◌, refl, sym, ◌∙◌, not, false, true}
use Rattle.std.specs.Str.{is_utf8}
use Rattle.lsp_message.proofs.Texts.{is_utf8-tested}
use Rattle.lsp_message.proofs.frame.header.header_line.Goals as goal

pub returns-then-is_err : goal.returns-then-is_err
returns-then-is_err c =
    let text = is_utf8-tested c.args.line.now _ _ _ c.from_utf8.ensures.cases in
    let none : not (is_utf8 c.args.line.now) ≡ true = sym text ∙ sym c.is_err.ensures.value ∙ c.if-is_err.true in
    rw none refl

pub returns-then-not-ends_with : goal.returns-then-not-ends_with
returns-then-not-ends_with c =
    let text = is_utf8-tested c.args.line.now _ _ _ c.from_utf8.ensures.cases in
    let some : not (is_utf8 c.args.line.now) ≡ false = sym text ∙ sym c.is_err.ensures.value ∙ c.if-is_err.false in
    rw (some, sym c.ends_with.ensures.value ∙ c.if-not-ends_with.true) refl

pub returns : goal.returns
returns c =
    let text = is_utf8-tested c.args.line.now _ _ _ c.from_utf8.ensures.cases in
    let some : not (is_utf8 c.args.line.now) ≡ false = sym text ∙ sym c.is_err.ensures.value ∙ c.if-is_err.false in
    rw (some, sym c.ends_with.ensures.value ∙ c.if-not-ends_with.false) c.header_text.ensures
