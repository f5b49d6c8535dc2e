use Rattle.std.proofs.Common.{◌∷◌, [], ◌++◌, ◌∙◌, ap, inl, inr, sym, subst, string_bytes}
use Rattle.lsp_relay.specs.Relay.{IsOpen}
use Rattle.lsp_relay.proofs.Parcels.{open_push}
use Rattle.lsp_threads.specs.Framing.{parcel_bytes, AreEnded}
use Rattle.lsp_threads.specs.Passing.{noted}
use Rattle.lsp_threads.proofs.Taken.{gives_then}
use Rattle.lsp_threads.proofs.Frames.{parcel_bytes-push, parcel_bytes-end, ended_after, left_written, more_unwritten}
use Rattle.lsp_threads.proofs.Frames.{none_left}
use Rattle.lsp_threads.proofs.Writes.{ends_later, marks-end, text_keeps, text_last, writes-as, wrote_on}
use Rattle.lsp_threads.specs.Writes.{EndsAtMark, marks_of}
use Rattle.lsp_threads.proofs.frame_batch.write_texts.Goals as goal

-- a text more was taken
pub loop-preserved-in-Some-Message : goal.loop-preserved-in-Some-Message
loop-preserved-in-Some-Message g c =
    let text = c.in-Some-Message.next in
    let taken = c.in-Some-Message.ensures.some ∙ ap (λ p. c.loop.rx.taken ++ p ∷ []) c.in-Some-Message.field-0-is in
    record {
      relay = c.next_parcel.ensures.relay ∙ c.loop.invariant.relay;
      still_open = subst IsOpen (sym taken) (open_push c.loop.rx.taken text c.loop.invariant.still_open);
      unwritten = rw (ap parcel_bytes taken ∙ parcel_bytes-push c.loop.rx.taken text)
          (more_unwritten (parcel_bytes c.loop.rx.taken) (string_bytes text.text) (string_bytes c.loop.pending) _
          (noted c.args.given.now) _ _ c.loop.fault _ c.loop.invariant.unwritten c.gather-left.ensures.gathered);
      given = gives_then _ _ _ _ _ _ c.loop.invariant.given c.gather-left.ensures.given;
      flushed = λ first. c.gather-left.ensures.flushed (c.loop.invariant.flushed first);
      failed = λ first. c.gather-left.ensures.failed (c.loop.invariant.failed first);
      order = λ none fresh. writes-as (EndsAtMark (marks_of c.loop.rx.taken)) (EndsAtMark (marks_of
          c.next_parcel.new.rx.taken)) (ends_later _ _ (text_keeps c.loop.rx.taken _ text taken)) _ _
          (wrote_on c.loop.rx.taken (string_bytes c.loop.pending) c.loop.last.parts c.loop.fault c.loop.order _
          c.args.given.now c.loop.given c.gather-left.new.given none c.loop.invariant.unwritten
          c.loop.invariant.last (c.loop.invariant.flushed (inl none)) (c.loop.invariant.order none fresh)
          c.gather-left.ensures.order);
      last = inr (text_last c.loop.rx.taken c.next_parcel.new.rx.taken text taken);
    }

-- nothing more was there, so what had been gathered was written
pub loop-preserved : goal.loop-preserved
loop-preserved g c =
    let bytes = parcel_bytes c.loop.rx.taken in
    let taken = c.in-None-next_parcel.ensures.none in
    let fault = c.write_after-fault in
    record {
      relay = c.next_parcel.ensures.relay ∙ c.loop.invariant.relay;
      still_open = subst IsOpen (sym taken) c.loop.invariant.still_open;
      unwritten = rw (ap parcel_bytes taken, c.new-pending-in-None-next_parcel.ensures.bytes)
          (none_left bytes fault.result (noted c.args.given.now) (noted fault.new.given)
          (left_written noted c.args.given.now c.loop.given fault.new.given bytes (string_bytes c.loop.pending)
          c.loop.fault fault.result
          c.loop.invariant.unwritten (rw c.deref-in-None-next_parcel.ensures at fault.ensures.none)
          fault.ensures.some));
      given = gives_then _ _ _ _ _ _ c.loop.invariant.given fault.ensures.given;
      flushed = λ first. fault.ensures.flushed (c.loop.invariant.flushed first);
      failed = λ first. fault.ensures.failed (c.loop.invariant.failed first);
      order = λ none fresh. rw taken (wrote_on c.loop.rx.taken (string_bytes c.loop.pending) c.loop.last.parts
          c.loop.fault c.loop.order _ c.args.given.now c.loop.given fault.new.given none c.loop.invariant.unwritten
          c.loop.invariant.last (c.loop.invariant.flushed (inl none)) (c.loop.invariant.order none fresh)
          (rw c.deref-in-None-next_parcel.ensures at fault.ensures.order));
      last = inl c.new-pending-in-None-next_parcel.ensures.bytes;
    }

pub returns-in-Some-End-clause-written : goal.returns-in-Some-End-clause-written
returns-in-Some-End-clause-written g c =
    let bytes = parcel_bytes c.loop.rx.taken in
    let taken = c.in-Some-End.ensures.some ∙ ap (λ p. c.loop.rx.taken ++ p ∷ []) c.in-Some-End.field-0-is in (
      subst AreEnded (sym taken) (ended_after c.loop.rx.taken c.loop.invariant.still_open),
      rw (ap parcel_bytes taken ∙ parcel_bytes-end c.loop.rx.taken)
          (left_written noted c.args.given.now c.loop.given c.write_after.new.given bytes (string_bytes c.loop.pending)
          c.loop.fault c.write_after.result
          c.loop.invariant.unwritten (rw c.deref.ensures at c.write_after.ensures.none) c.write_after.ensures.some),
    )

pub returns-in-Some-End-clause-given : goal.returns-in-Some-End-clause-given
returns-in-Some-End-clause-given g c = gives_then _ _ _ _ _ _ c.loop.invariant.given c.write_after.ensures.given

pub returns-in-Some-End-clause-flushed : goal.returns-in-Some-End-clause-flushed
returns-in-Some-End-clause-flushed g c = λ first. c.write_after.ensures.flushed (c.loop.invariant.flushed first)

pub returns-in-Some-End-clause-failed : goal.returns-in-Some-End-clause-failed
returns-in-Some-End-clause-failed g c = λ first. c.write_after.ensures.failed (c.loop.invariant.failed first)

pub returns-in-Some-End-clause-order : goal.returns-in-Some-End-clause-order
returns-in-Some-End-clause-order g c = λ none fresh.
    let taken = c.in-Some-End.ensures.some ∙ ap (λ p. c.loop.rx.taken ++ p ∷ []) c.in-Some-End.field-0-is in
    rw (ap marks_of taken ∙ marks-end [] c.loop.rx.taken) (wrote_on c.loop.rx.taken (string_bytes c.loop.pending)
    c.loop.last.parts c.loop.fault c.loop.order _ c.args.given.now c.loop.given c.write_after.new.given none
    c.loop.invariant.unwritten c.loop.invariant.last (c.loop.invariant.flushed (inl none)) (c.loop.invariant.order none
    fresh) (rw c.deref.ensures at c.write_after.ensures.order))
