use Rattle.std.proofs.Common.{◌∙◌, sym}
use Rattle.lsp_threads.proofs.Failing.{writing_on}
use Rattle.lsp_threads.proofs.Taken.{some_bytes, text_flushed, text_noted}
use Rattle.lsp_threads.proofs.Writes.{write_noted}
use Rattle.lsp_threads.proofs.frame_batch.write_after.Goals as goal

pub returns-clause-none : goal.returns-clause-none
returns-clause-none g c = λ none.
    rw c.err.ensures.value (text_noted c.args.text.now c.args.given.now c.write_frames_traced.new.given _ _
    (some_bytes c.args.text.now (sym c.is_empty.ensures ∙ c.if-is_empty.false))
    c.write_frames_traced.result c.write_frames_traced.ensures.fault c.write_frames_traced.ensures.told)

pub returns-clause-flushed : goal.returns-clause-flushed
returns-clause-flushed g c = λ so_far.
    rw c.err.ensures.value (text_flushed c.args.text.now c.args.given.now.parts
    c.write_frames_traced.new.given.parts _ _ c.write_frames_traced.result c.write_frames_traced.ensures.fault
    c.write_frames_traced.ensures.told)

pub returns-clause-failed : goal.returns-clause-failed
returns-clause-failed g c = λ so_far. rw c.err.ensures.value (writing_on c.args.before c.args.given.now
    c.write_frames_traced.new.given _ (sym c.is_some.ensures ∙ c.if-is_some.false)
    c.write_frames_traced.ensures.failed so_far)

pub returns-clause-order : goal.returns-clause-order
returns-clause-order g c = write_noted c.args.before c.args.text.now _ c.args.given.now.parts
    c.write_frames_traced.new.given.parts _ _ _ _ c.write_frames_traced.result (sym c.is_some.ensures
    ∙ c.if-is_some.false) (some_bytes c.args.text.now (sym c.is_empty.ensures ∙ c.if-is_empty.false))
    c.write_frames_traced.ensures.fault c.write_frames_traced.ensures.told c.begin.ensures
