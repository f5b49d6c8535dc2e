use Rattle.std.proofs.Common.{◌≡◌, false, true, refl, sym, ap, ◌∙◌, Some, None}
use Rattle.lsp_message.specs.Messages.{is_exit}
use Rattle.lsp_message.specs.View.{message_view}
use Rattle.lsp_threads.specs.Framing.{Framing}
use Rattle.lsp_threads.proofs.Failing.{reading_on}
use Rattle.lsp_threads.proofs.Frames.{frame_added, told_frames_end, told_frames_exit, told_frames_fault}
use Rattle.lsp_threads.proofs.Frames.{told_frames_full, told_frames_more}
use Rattle.lsp_threads.proofs.Taken.{taken_more, takes_kept, takes_more}
use Rattle.lsp_threads.proofs.pump_frames.read_frames.Goals as goal

pub returns-in-Ok-None-clause-handed : goal.returns-in-Ok-None-clause-handed
returns-in-Ok-None-clause-handed g c =
    told_frames_end c.args.limits c.loop.taken.parts c.read_traced.new.taken.parts _ _ _ c.loop.outbox.framing
    c.loop.invariant.handed (rw (c.in-Ok-None.is, c.in-Ok-None.field-0-is) at c.read_traced.ensures.told)

pub returns-in-Err-clause-handed : goal.returns-in-Err-clause-handed
returns-in-Err-clause-handed g c =
    told_frames_fault c.args.limits c.loop.taken.parts c.read_traced.new.taken.parts _ _ _ c.loop.outbox.framing
    c.loop.invariant.handed c.in-Err.fault (rw c.in-Err.is at c.read_traced.ensures.told)

pub returns-in-Err-framed-clause-handed : goal.returns-in-Err-framed-clause-handed
returns-in-Err-framed-clause-handed g c =
    let told = rw (c.in-Ok-Some.is, c.in-Ok-Some.field-0-is) at c.read_traced.ensures.told in
    told_frames_full c.args.limits c.loop.taken.parts c.read_traced.new.taken.parts _ _ _ c.loop.outbox.framing
    c.loop.invariant.handed c.in-Ok-Some.message told _ refl

pub returns-then-is_last-clause-handed : goal.returns-then-is_last-clause-handed
returns-then-is_last-clause-handed g c =
    let told = rw (c.in-Ok-Some.is, c.in-Ok-Some.field-0-is) at c.read_traced.ensures.told in
    let last : is_exit (message_view c.in-Ok-Some.message) ≡ true = sym c.is_exit-is_last.ensures ∙ c.if-is_last.true in
    told_frames_exit c.args.limits c.loop.taken.parts c.read_traced.new.taken.parts _ _ _ c.loop.outbox.framing
    c.loop.invariant.handed c.in-Ok-Some.message told _ (frame_added _ _ _ _ c.in-Ok.ensures c.add.ensures.adds) last

pub loop-preserved : goal.loop-preserved
loop-preserved g c =
    let told = rw (c.in-Ok-Some.is, c.in-Ok-Some.field-0-is) at c.read_traced.ensures.told in
    let goes : is_exit (message_view c.in-Ok-Some.message) ≡ false = sym c.is_exit-is_last.ensures
    ∙ c.if-is_last.false in
    let more = told_frames_more c.args.limits c.loop.taken.parts c.read_traced.new.taken.parts _ _ _
    c.loop.outbox.framing c.loop.invariant.handed c.in-Ok-Some.message told _
    (frame_added _ _ _ _ c.in-Ok.ensures c.add.ensures.adds) goes in
    record {
      handed = rw c.hand_over_from.ensures.framing more;
      taken = takes_kept _ _ _ _ (takes_more _ _ _ _ _ c.loop.invariant.taken c.read_traced.ensures.told)
          c.shows_frame.ensures;
      failed = reading_on None c.loop.taken c.read_traced.new.taken c.loop.invariant.failed (rw c.in-Ok-Some.is at
          c.read_traced.ensures.failed);
      relay = ap (λ (f : Framing). f.relay) c.hand_over_from.ensures.framing
          ∙ ap (λ (f : Framing). f.relay) c.add.ensures.adds ∙ c.loop.invariant.relay;
    }

pub returns-in-Ok-None-clause-taken : goal.returns-in-Ok-None-clause-taken
returns-in-Ok-None-clause-taken g c = taken_more _ _ _ _ _ c.loop.invariant.taken c.read_traced.ensures.told

pub returns-in-Err-clause-taken : goal.returns-in-Err-clause-taken
returns-in-Err-clause-taken g c = taken_more _ _ _ _ _ c.loop.invariant.taken c.read_traced.ensures.told

pub returns-in-Err-framed-clause-taken : goal.returns-in-Err-framed-clause-taken
returns-in-Err-framed-clause-taken g c = taken_more _ _ _ _ _ c.loop.invariant.taken c.read_traced.ensures.told

pub returns-then-is_last-clause-taken : goal.returns-then-is_last-clause-taken
returns-then-is_last-clause-taken g c = taken_more _ _ _ _ _ c.loop.invariant.taken c.read_traced.ensures.told

pub returns-in-Ok-None-clause-failed : goal.returns-in-Ok-None-clause-failed
returns-in-Ok-None-clause-failed g c = reading_on None c.loop.taken c.read_traced.new.taken
    c.loop.invariant.failed (rw c.in-Ok-None.is at c.read_traced.ensures.failed)

pub returns-in-Err-clause-failed : goal.returns-in-Err-clause-failed
returns-in-Err-clause-failed g c = reading_on (Some c.in-Err.fault) c.loop.taken c.read_traced.new.taken
    c.loop.invariant.failed (rw c.in-Err.is at c.read_traced.ensures.failed)

pub returns-in-Err-framed-clause-failed : goal.returns-in-Err-framed-clause-failed
returns-in-Err-framed-clause-failed g c = reading_on None c.loop.taken c.read_traced.new.taken
    c.loop.invariant.failed (rw c.in-Ok-Some.is at c.read_traced.ensures.failed)

pub returns-then-is_last-clause-failed : goal.returns-then-is_last-clause-failed
returns-then-is_last-clause-failed g c = reading_on None c.loop.taken c.read_traced.new.taken
    c.loop.invariant.failed (rw c.in-Ok-Some.is at c.read_traced.ensures.failed)
