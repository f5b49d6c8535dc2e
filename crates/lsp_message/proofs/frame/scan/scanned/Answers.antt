use Rattle.std.proofs.Common.{◌≡◌, ◌+◌, ◌-◌, ◌≤◌, Ok, Some, ℕ, List, length, take, drop, sym, ap, subst, ◌∙◌, arith}
use Rattle.std.proofs.Common.{take_all, length-drop}
use Rattle.lsp_message.specs.declared.frame.Front.TheVariants.{Fault}
use Rattle.lsp_message.specs.declared.frame.input.Next.TheVariants.{Header, Content}
use Rattle.lsp_message.specs.FramePlace.{next_of}
use Rattle.lsp_message.specs.Front.{at_header_end}
use Rattle.lsp_message.specs.HeaderPart.{header_line}
use Rattle.lsp_message.proofs.FrontNext.{FrontNext, front_next}
use Rattle.lsp_message.proofs.FrontSteps.{front_after, at_no_feed}
use Rattle.lsp_message.proofs.frame.scan.scanned.Goals as goal

-- what follows the line is the rest of the slice
rest_of : (n : ℕ) (xs : List ℕ) → take (length xs - n) (drop n xs) ≡ drop n xs
rest_of n xs = take_all _ _ (omega (arith, length-drop n xs))

shorter : (all n : ℕ) (xs : List ℕ) → length xs ≤ all → length (take (length xs - n) (drop n xs)) ≤ all
shorter all n xs within = omega (arith, ap length (rest_of n xs), length-drop n xs)

pub loop-at-preserved : goal.loop-at-preserved
loop-at-preserved c =
    let same : c.after_line.result ≡ Ok (Header c.in-Ok-Header.given) = cc (
      c.in-Ok-Header.is,
      c.in-Ok-Header.field-0-is,
    ) in
    let all = length c.args.bytes.now in
    let next = c.after_line.ensures ∙ ap (λ l. next_of l c.loop-at.length (header_line (take (c.in-Some.at + 1)
    c.loop-at.rest.now))) c.none.ensures in
    let rest = drop (c.in-Some.at + 1) c.loop-at.rest.now in
    let front = subst (FrontNext all c.loop-at.length c.loop-at.rest.now rest) same
    (front_next all c.loop-at.length c.loop-at.rest.now c.in-Some.at c.in-Some.ensures c.loop-at.invariant.known
    c.after_line.result next) in
    record {
      front = c.loop-at.invariant.front ∙ front.0 ∙ ap (front_after all c.in-Ok-Header.given)
          (sym (rest_of (c.in-Some.at + 1) c.loop-at.rest.now));
      known = front.1;
      within = shorter _ _ c.loop-at.rest.now c.loop-at.invariant.within;
    }

pub returns-in-Ok-Content : goal.returns-in-Ok-Content
returns-in-Ok-Content c =
    let same : c.after_line.result ≡ Ok (Content c.in-Ok-Content.size) = cc (
      c.in-Ok-Content.is,
      c.in-Ok-Content.field-0-is,
    ) in
    let all = length c.args.bytes.now in
    let next = c.after_line.ensures ∙ ap (λ l. next_of l c.loop-at.length (header_line (take (c.in-Some.at + 1)
    c.loop-at.rest.now))) c.none.ensures in
    let rest = drop (c.in-Some.at + 1) c.loop-at.rest.now in
    let front = subst (FrontNext all c.loop-at.length c.loop-at.rest.now rest) same
    (front_next all c.loop-at.length c.loop-at.rest.now c.in-Some.at c.in-Some.ensures c.loop-at.invariant.known
    c.after_line.result next) in
    c.after_header.ensures ∙ ap (λ l. at_header_end all (Ok (Some c.in-Ok-Content.size)) (length l)) (rest_of _
    c.loop-at.rest.now) ∙ sym (c.loop-at.invariant.front ∙ front)

pub returns-in-Err : goal.returns-in-Err
returns-in-Err c =
    let all = length c.args.bytes.now in
    let next = c.after_line.ensures ∙ ap (λ l. next_of l c.loop-at.length (header_line (take (c.in-Some.at + 1)
    c.loop-at.rest.now))) c.none.ensures in
    let rest = drop (c.in-Some.at + 1) c.loop-at.rest.now in
    let front = subst (FrontNext all c.loop-at.length c.loop-at.rest.now rest) c.in-Err.is
    (front_next all c.loop-at.length c.loop-at.rest.now c.in-Some.at c.in-Some.ensures c.loop-at.invariant.known
    c.after_line.result next) in
    ap Fault c.number.ensures ∙ sym (c.loop-at.invariant.front ∙ front)

pub returns : goal.returns
returns c = sym (c.loop-at.invariant.front ∙ at_no_feed _ _ c.loop-at.rest.now c.in_default.ensures)
