use Rattle.std.proofs.Common.{◌≡◌, ◌≢◌, sym, ap, subst, ◌∙◌, ◌++◌, ◌<◌, [], ◌∷◌, ℕ, length, take, arith, Err}
use Rattle.std.proofs.Common.{eqb-true, eq-eqb, length-take-le, true≢false}
use Rattle.std.specs.List.{concat}
use Rattle.std.specs.Io.KnownBytes.{Consumes}
use Rattle.std.proofs.BufReadLemmas.{Consumes_shown}
use Rattle.lsp_message.specs.Failures.{ReaderFails}
use Rattle.lsp_message.specs.FrameInput.{ReadsContent}
use Rattle.lsp_message.specs.FrameLooks.{IsAtEndOf}
use Rattle.lsp_message.specs.declared.frame.ReadFault.TheVariants.{Memory}
use Rattle.lsp_message.proofs.Failures.{fails_never, fails_once, fails_own, counts_parts, some_in}
use Rattle.lsp_message.proofs.FrameLooks.{answered_fails, answered_memory, end_fails, failed_in}
use Rattle.lsp_message.proofs.FrameLooks.{looks_end, looks_failed, looks_part, memory_at_end, memory_taken}
use Rattle.lsp_message.proofs.Shown.{kept_shown, shown_left}
use Rattle.lsp_message.proofs.Told.{Takes-kept, Takes-none, Takes-one, concat-one}
use Rattle.lsp_message.proofs.Told.{told_end}
use Rattle.lsp_message.proofs.frame.content.look.Goals as goal

not_empty : (n : ℕ) → n ≢ 0 → 0 < n
not_empty n some = omega (arith, some)

pub returns-in-Err-clause-told : goal.returns-in-Err-clause-told
returns-in-Err-clause-told g c = (
  [],
  Takes-kept _ _ _ _ c.unless_interrupted.ensures.taken c.fill_buf.follows.holds-at-none.0,
  looks_failed c.args.input.now.limits (concat c.args.input.now.seen.parts) _ c.unless_interrupted.result
      c.failed.result c.requires.awaits c.failed.ensures.value c.unless_interrupted.ensures.again,
)

pub returns-in-Err-clause-failed : goal.returns-in-Err-clause-failed
returns-in-Err-clause-failed g c = subst (λ f. ReaderFails f c.args.taken.now c.unless_interrupted.new.taken)
    (sym (failed_in c.unless_interrupted.result c.failed.result c.failed.ensures.value))
    (fails_once tt _ c.unless_interrupted.result c.args.taken.now c.unless_interrupted.new.taken
    c.unless_interrupted.ensures.taken c.unless_interrupted.ensures.failed c.unless_interrupted.ensures.again)

pub returns-then-is_empty-clause-told : goal.returns-then-is_empty-clause-told
returns-then-is_empty-clause-told g c =
    let kept = kept_shown _ _ _ _ _ c.in-Ok.is c.fill_buf.follows.holds-at-none in
    let told = told_end _ _ _ _ _ c.add.ensures.parts kept.0 c.in-Ok.ensures.end (eqb-true _ _ (sym c.is_empty.ensures
    ∙ c.if-is_empty.true)) in (
      told.0,
      told.1,
      looks_end c.args.input.now.limits (concat c.args.input.now.seen.parts) [] c.answer_at_end.result told.0 told.2.0
          told.2.1 c.answer_at_end.ensures,
    )

pub returns-then-is_empty-clause-memory : goal.returns-then-is_empty-clause-memory
returns-then-is_empty-clause-memory g c = λ is.
    let limits = c.args.input.now.limits in
    let old = concat c.args.input.now.seen.parts in
    let kept = kept_shown _ _ _ _ _ c.in-Ok.is c.fill_buf.follows.holds-at-none in
    let out : c.answer_at_end.result ≡ Err Memory = cc (is) in
    memory_at_end limits old _ _ kept.0 (subst (IsAtEndOf limits old) out c.answer_at_end.ensures)

pub returns-then-is_empty-clause-failed : goal.returns-then-is_empty-clause-failed
returns-then-is_empty-clause-failed g c = end_fails c.args.input.now.limits (concat c.args.input.now.seen.parts)
    c.args.taken.now c.add.new.self (fails_never _ c.args.taken.now c.add.new.self c.add.ensures.parts
    c.add.ensures.failed) c.answer_at_end.result c.answer_at_end.ensures

pub returns-clause-told : goal.returns-clause-told
returns-clause-told g c =
    let count = c.receive-count.result.0 in
    let shown = c.in-Ok.shown.now in
    let part = take count shown in
    let within = c.receive-count.ensures.within in
    let kept = kept_shown _ _ _ _ _ c.in-Ok.is c.fill_buf.follows.holds-at-none in
    let taken = Consumes_shown _ _ _ _ _ count within c.in-Ok.ensures.front c.in-Ok.ensures.end kept.0 kept.1
    c.consume.ensures.bytes in (
      part ∷ [],
      Takes-one _ _ _ _ _ c.add-2.ensures.parts taken.0 (λ none. absurd (c.if-count-eq0.false
          (sym (length-take-le count shown within) ∙ none))),
      looks_part c.args.input.now.limits (concat c.args.input.now.seen.parts)
          (concat c.receive-count.new.self.seen.parts) part (part ∷ []) c.receive-count.result.1 c.answered-2.result
          c.answered-2.ensures.value (concat-one part) c.receive-count.ensures.read,
    )

pub returns-clause-failed : goal.returns-clause-failed
returns-clause-failed g c = answered_fails c.args.input.now.limits (concat c.args.input.now.seen.parts
    ++ take c.receive-count.result.0 c.in-Ok.shown.now) c.args.taken.now c.add-2.new.self (fails_never _
    c.args.taken.now c.add-2.new.self c.add-2.ensures.parts c.add-2.ensures.failed) _ c.receive-count.result.1
    c.answered-2.result c.answered-2.ensures.value c.receive-count.ensures.read

pub returns-clause-goes_on : goal.returns-clause-goes_on
returns-clause-goes_on g c = λ is.
    let count = c.receive-count.result.0 in
    let shown = c.in-Ok.shown.now in
    counts_parts _ c.args.taken.now c.add-2.new.self c.add-2.ensures.parts
    (omega (arith, ap length c.add-2.ensures.failed)) (some_in _ (λ none. c.if-count-eq0.false
    (sym (length-take-le count shown c.receive-count.ensures.within) ∙ none)))

pub returns-clause-memory : goal.returns-clause-memory
returns-clause-memory g c = λ is.
    let limits = c.args.input.now.limits in
    let old = concat c.args.input.now.seen.parts in
    let new = concat c.receive-count.new.self.seen.parts in
    let count = c.receive-count.result.0 in
    let part = take count c.in-Ok.shown.now in
    let kept = kept_shown _ _ _ _ _ c.in-Ok.is c.fill_buf.follows.holds-at-none in
    let taken = Consumes_shown _ _ _ _ _ count c.receive-count.ensures.within c.in-Ok.ensures.front
    c.in-Ok.ensures.end kept.0 kept.1 c.consume.ensures.bytes in
    let out = answered_memory c.receive-count.result.1 c.answered-2.result c.answered-2.ensures.value is in
    let reads = subst (λ r. ReadsContent limits (old ++ part) r new) out c.receive-count.ensures.read in
    memory_taken limits old new part count _ _ reads.0 (c.receive-count.ensures.memory out) taken.0
    (λ zero. absurd (c.if-count-eq0.false zero))

pub returns-then-count-eq0-clause-told : goal.returns-then-count-eq0-clause-told
returns-then-count-eq0-clause-told g c =
    let shown = c.in-Ok.shown.now in
    let kept = kept_shown _ _ _ _ _ c.in-Ok.is c.fill_buf.follows.holds-at-none in (
      [],
      Takes-none _ _ _ kept.0,
      looks_part c.args.input.now.limits (concat c.args.input.now.seen.parts)
          (concat c.receive-count.new.self.seen.parts) (take c.receive-count.result.0 shown) []
          c.receive-count.result.1 c.answered.result c.answered.ensures.value (sym (ap (λ n. take n shown)
          c.if-count-eq0.true)) c.receive-count.ensures.read,
    )

pub returns-then-count-eq0-clause-memory : goal.returns-then-count-eq0-clause-memory
returns-then-count-eq0-clause-memory g c = λ is.
    let limits = c.args.input.now.limits in
    let old = concat c.args.input.now.seen.parts in
    let new = concat c.receive-count.new.self.seen.parts in
    let count = c.receive-count.result.0 in
    let shown = c.in-Ok.shown.now in
    let kept = kept_shown _ _ _ _ _ c.in-Ok.is c.fill_buf.follows.holds-at-none in
    let none = ap (λ n. take n shown) c.if-count-eq0.true in
    let out = answered_memory c.receive-count.result.1 c.answered.result c.answered.ensures.value is in
    let reads = subst (λ r. ReadsContent limits (old ++ take count shown) r new) out c.receive-count.ensures.read in
    let some : 0 < length shown = omega (
      arith,
      not_empty (length shown) (λ zero. true≢false (sym (eq-eqb _ _ zero)
          ∙ sym c.is_empty.ensures ∙ c.if-is_empty.false)),
    ) in
    memory_taken limits old new (take count shown) count _ _ reads.0 (c.receive-count.ensures.memory out)
    (subst (Consumes _ _) (sym none) (Takes-none [] _ _ kept.0).consumed)
    (λ zero. shown_left _ _ shown kept.0 c.in-Ok.ensures.front some)

pub returns-then-count-eq0-clause-failed : goal.returns-then-count-eq0-clause-failed
returns-then-count-eq0-clause-failed g c = answered_fails c.args.input.now.limits (concat c.args.input.now.seen.parts
    ++ take c.receive-count.result.0 c.in-Ok.shown.now) c.args.taken.now c.args.taken.now (fails_own c.args.taken.now)
    _ c.receive-count.result.1 c.answered.result c.answered.ensures.value c.receive-count.ensures.read
