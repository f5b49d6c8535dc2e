use Rattle.std.proofs.Common.{◌≡◌, ◌++◌, ◌∙◌, sym, ap, subst, take, ℕ, List, Option, Result, Err}
use Rattle.std.specs.List.{concat}
use Rattle.lsp_message.specs.FrameInput.{ReadsContent, RanOut}
use Rattle.lsp_message.specs.declared.frame.ReadFault.{ReadFault}
use Rattle.lsp_message.specs.declared.frame.ReadFault.TheVariants.{Memory}
use Rattle.lsp_message.specs.declared.frame.input.Frame.{Frame}
use Rattle.lsp_message.specs.declared.frame.limits.Limits.{Limits}
use Rattle.lsp_session.proofs.FrameReads.{fault_begins}
use Rattle.lsp_session.specs.ByteSession.{BeginsWithFault}
use Rattle.lsp_session.proofs.loops.byte_session.ByteSession.receive_part.Goals as goal

pub fail-requires-clause-begins : goal.fail-requires-clause-begins
fail-requires-clause-begins g c =
    let old = c.args.self.now.input in
    let new = c.receive-count.new.self in
    let count = c.receive-count.result.0 in
    let fault = c.in-Err.fault in
    let text = concat old.seen.parts ++ take count c.args.bytes.now in
    let left = concat new.seen.parts in
    let read = subst (λ (r : Result (Option Frame) ReadFault). ReadsContent old.limits text r left) c.in-Err.is
    c.receive-count.ensures.read in
    let ran : fault ≡ Memory → RanOut old.limits text count = λ same.
    subst (λ (l : List ℕ). RanOut old.limits l count) read.0 (c.receive-count.ensures.memory (c.in-Err.is
    ∙ ap Err same)) in
    let all : text ≡ concat c.new.result.parts ++ left = sym read.0
    ∙ sym (ap (λ p. concat p ++ left) c.new.ensures.parts) in
    subst (λ (l : Limits). BeginsWithFault l (concat c.new.result.parts ++ left) fault)
    (sym c.receive-count.ensures.limits) (subst (λ (l : List ℕ). BeginsWithFault old.limits l fault) all
    (fault_begins old.limits text count fault read.1 ran))
