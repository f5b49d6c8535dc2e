use Rattle.std.proofs.Common.{sym, ap, subst, ◌∙◌, arith, true≢false, eqb-true, eq-eqb, vec_len}
use Rattle.std.specs.List.{concat}
use Rattle.lsp_message.specs.FrameInput.{IsEndOf}
use Rattle.std.specs.Result.{result_err}
use Rattle.lsp_message.specs.HeaderPart.{header_line}
use Rattle.lsp_message.proofs.FramePlaces.{end_at}
use Rattle.lsp_message.proofs.FrameInputs.{end_at_start, end_in_tail}
use Rattle.lsp_message.proofs.frame.input.FrameInput.at_end.Goals as goal

pub returns-in-Header : goal.returns-in-Header
returns-in-Header c =
    let self = c.args.self.now in
    end_at_start self.limits (concat self.seen.parts) self.line.items c.in-Header.field-0 c.in-Header.field-1
    (self.header c.in-Header.field-0 c.in-Header.field-1 c.in-Header.is)
    (omega (arith, eqb-true (vec_len self.line) 0 (sym c.is_empty.ensures ∙ c.if-is_empty.true)))

pub returns-in-Header-2 : goal.returns-in-Header-2
returns-in-Header-2 c =
    let self = c.args.self.now in
    let same = c.err.ensures.value ∙ ap result_err (c.header_line.ensures ∙ ap header_line c.as_slice.ensures.value) in
    let empty = sym c.is_empty.ensures ∙ c.if-is_empty.false in
    subst (IsEndOf self.limits (concat self.seen.parts)) (sym same)
    (end_in_tail self.limits (concat self.seen.parts) self.line.items c.in-Header-2.field-0 c.in-Header-2.field-1
    (self.header c.in-Header-2.field-0 c.in-Header-2.field-1 c.in-Header-2.is)
    (λ none. true≢false (sym (eq-eqb (vec_len self.line) 0 (omega (arith, none))) ∙ empty)))

pub returns-in-Fault : goal.returns-in-Fault
returns-in-Fault c =
    let self = c.args.self.now in
    end_at self.limits (concat self.seen.parts) c.in-Fault.fault (self.fault c.in-Fault.fault c.in-Fault.is)
