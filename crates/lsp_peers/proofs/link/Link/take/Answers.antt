use Rattle.std.proofs.Common.{◌≡◌, ◌∙◌, ap, sym, refl, take}
use Rattle.std.specs.Prelude.{Option, Result, Ok, Err, Some, None, option_map}
use Rattle.lsp_message.specs.Message as plain
use Rattle.lsp_message.specs.View.{message_view}
use Rattle.lsp_message.specs.declared.frame.ReadFault.{ReadFault}
use Rattle.lsp_peers.proofs.LinkLemmas.{frame_read, no_other_fault, taken_carries}
use Rattle.lsp_peers.proofs.link.Link.take.Goals as goal

pub returns-in-More-clause-ok : goal.returns-in-More-clause-ok
returns-in-More-clause-ok c = λ post carries readable. let none = c.in-More.ensures.shows post carries in
    rw none (refl, carries)

pub returns-in-Ok-Some-clause-ok : goal.returns-in-Ok-Some-clause-ok
returns-in-Ok-Some-clause-ok c = λ post carries readable.
    let whole = c.in-Whole.ensures.shows post carries in
    let read = frame_read _ post c.in-Whole.count whole readable _ (ap (take c.in-Whole.count) c.arrived.ensures) in
    let message : Ok (Some (message_view c.in-Ok-Some.message)) ≡ Ok (Some whole.0.message) = ap
    (λ o. Ok (option_map message_view o)) (sym c.in-Ok-Some.field-0-is) ∙ sym c.in-Ok-Some.ensures.exact.0 ∙ read in
    let same : Some (message_view c.in-Ok-Some.message) ≡ Some whole.0.message = cc in
    let kept = taken_carries _ _ post c.in-Whole.count whole c.remove.ensures.arrived c.remove.ensures.on_way in
    (rw whole.1 same, kept.1)

pub returns-in-Ok-None-clause-memory : goal.returns-in-Ok-None-clause-memory
returns-in-Ok-None-clause-memory c = λ post carries readable.
    let whole = c.in-Whole.ensures.shows post carries in
    let read = frame_read _ post c.in-Whole.count whole readable _ (ap (take c.in-Whole.count) c.arrived.ensures) in
    absurd (let e : ◌≡◌ {A = Result (Option plain.Message) ReadFault} (Ok None) (Ok (Some whole.0.message)) = ap
    (λ o. Ok (option_map message_view o)) (sym c.in-Ok-None.field-0-is) ∙ sym c.in-Ok-None.ensures.exact.0 ∙ read in cc)

pub returns-in-Err-clause-memory : goal.returns-in-Err-clause-memory
returns-in-Err-clause-memory c = λ post carries readable.
    let whole = c.in-Whole.ensures.shows post carries in
    ap Err (c.fault_of_read.ensures ∙ no_other_fault c.in-Err.fault _ _ whole.0.message c.in-Err.ensures.exact
    (frame_read _ post c.in-Whole.count whole readable _ (ap (take c.in-Whole.count) c.arrived.ensures)))
