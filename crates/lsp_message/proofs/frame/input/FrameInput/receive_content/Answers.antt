use Rattle.std.proofs.Common.{◌≡◌, refl, sym, ap, subst, ◌∙◌, ◌++◌, arith, List, [], ℕ, take, length, length-append}
use Rattle.std.proofs.Common.{length-take-le, None}
use Rattle.lsp_message.specs.declared.frame.input.Place.TheVariants.{Header}
use Rattle.std.specs.List.{concat}
use Rattle.lsp_message.specs.FrameInput.{IsFrameRead}
use Rattle.lsp_message.specs.FramePlace.{AtContent}
use Rattle.lsp_message.specs.declared.frame.byte_trace.ByteTrace.{ByteTrace}
use Rattle.lsp_message.proofs.FrameInputs.{Holds, awaits_line, awaits_part, content_missing, content_whole, part_grows}
use Rattle.lsp_message.proofs.FrameInputs.{in_header, in_part, in_refused, in_fault, none_seen, seen_more, start_header}
use Rattle.lsp_message.proofs.frame.input.FrameInput.receive_content.Goals as goal

pub invariant_of-self : goal.invariant_of-self
invariant_of-self c =
    let self = c.args.self.now in
    let grows = subst (λ (l : List ℕ). AtContent self.limits l c.args.size self.line.items
    c.extend_from_slice.new.self.items) (sym (seen_more self.seen.parts c.add.new.self.parts _ c.add.ensures.parts))
    (part_grows self.limits (concat self.seen.parts) self.line.items self.content.items
    c.extend_from_slice.new.self.items c.args.piece.now c.args.size c.min-count.result
    (self.part c.args.size c.requires.here) (rw c.unwrap.ensures at c.extend_from_slice.ensures.items)
    (omega (arith, c.min-count.ensures)) (omega (arith, c.if-count-missing.true, c.len.ensures))) in
    let text = concat c.add.new.self.parts in
    let tail = self.line.items in
    let part = c.extend_from_slice.new.self.items in
    let holds : Holds self.limits text self.place tail part = subst (λ p. Holds self.limits text p tail part)
    (sym c.requires.here) grows in
    record {
      header = in_header self.limits text self.place tail part holds;
      part = in_part self.limits text self.place tail part holds;
      reserved = λ size is. omega (arith, self.reserved size is, c.extend_from_slice.ensures.capacity);
      refused = in_refused self.limits text self.place tail part holds;
      fault = in_fault self.limits text self.place tail part holds;
    }

pub returns-then-count-missing-clause-read : goal.returns-then-count-missing-clause-read
returns-then-count-missing-clause-read c = seen_more c.args.self.now.seen.parts c.add.new.self.parts _
    c.add.ensures.parts

pub returns-then-count-missing-clause-awaits : goal.returns-then-count-missing-clause-awaits
returns-then-count-missing-clause-awaits c =
    let self = c.args.self.now in
    let grows = subst (λ (l : List ℕ). AtContent self.limits l c.args.size self.line.items
    c.extend_from_slice.new.self.items) (sym (seen_more self.seen.parts c.add.new.self.parts _ c.add.ensures.parts))
    (part_grows self.limits (concat self.seen.parts) self.line.items self.content.items
    c.extend_from_slice.new.self.items c.args.piece.now c.args.size c.min-count.result
    (self.part c.args.size c.requires.here) (rw c.unwrap.ensures at c.extend_from_slice.ensures.items)
    (omega (arith, c.min-count.ensures)) (omega (arith, c.if-count-missing.true, c.len.ensures))) in
    awaits_part self.limits (concat c.add.new.self.parts) self.line.items c.extend_from_slice.new.self.items c.args.size
    grows

pub invariant_of-self-2 : goal.invariant_of-self-2
invariant_of-self-2 c =
    let self = c.args.self.now in
    let text = concat c.replace-bytes.new.dest.parts in
    let tail = self.line.items in
    let part = c.replace-content.new.dest.items in
    let at = self.part c.args.size c.requires.here in
    let holds : Holds self.limits text (Header self.limits.header None) tail part = start_header self.limits text tail
    (none_seen _ _ c.replace-bytes.ensures.after c.new-2.ensures.parts) at.no_line in
    record {
      header = in_header self.limits text (Header self.limits.header None) tail part holds;
      part = in_part self.limits text (Header self.limits.header None) tail part holds;
      reserved = λ size is. absurd (cc (is));
      refused = in_refused self.limits text (Header self.limits.header None) tail part holds;
      fault = in_fault self.limits text (Header self.limits.header None) tail part holds;
    }

pub returns-clause-read : goal.returns-clause-read
returns-clause-read c =
    let self = c.args.self.now in
    let at = self.part c.args.size c.requires.here in
    let x = take c.min-count.result c.args.piece.now in
    let new = rw c.unwrap.ensures at c.extend_from_slice.ensures.items in
    let size = length-take-le c.min-count.result c.args.piece.now (omega (arith, c.min-count.ensures)) in
    let all : length (self.content.items ++ x) ≡ c.args.size = omega (
      arith,
      length-append self.content.items x,
      size,
      c.len.ensures,
      c.min-count.ensures,
      c.if-count-missing.false,
      content_missing self.limits (concat self.seen.parts) self.line.items self.content.items c.args.size at,
    ) in (
      subst (λ (l : List ℕ). IsFrameRead self.limits l (concat self.seen.parts ++ x)) (sym new
          ∙ sym (ap (λ v. v.items) c.replace-content.ensures.value))
          (content_whole self.limits (concat self.seen.parts) self.line.items self.content.items c.args.size at x all),
      none_seen _ _ c.replace-bytes.ensures.after c.new-2.ensures.parts,
      seen_more c.replace-bytes.result.parts c.add-2.new.self.parts _ c.add-2.ensures.parts ∙ ap (λ (t : ByteTrace).
          concat t.parts ++ x) c.replace-bytes.ensures.value,
    )

pub returns-clause-awaits : goal.returns-clause-awaits
returns-clause-awaits c =
    let limits = c.args.self.now.limits in
    awaits_line limits _ [] limits.header None (start_header limits _ [] (none_seen _ _ c.replace-bytes.ensures.after
    c.new-2.ensures.parts) refl)
