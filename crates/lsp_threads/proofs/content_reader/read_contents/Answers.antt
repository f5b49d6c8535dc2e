use Rattle.std.proofs.Common.{◌∙◌, ap, sym, Option, Some, None}
use Rattle.lsp_relay.specs.Relay.{Source}
use Rattle.lsp_message.specs.declared.frame.ReadFault.TheVariants.{Memory as NoMemory}
use Rattle.lsp_session.specs.declared.loops.ReadEnd.TheVariants.{Fault}
use Rattle.lsp_threads.specs.Contents.{Gathering}
use Rattle.lsp_threads.proofs.ContentReads.{begins_any, told_end, told_fault, told_more, told_stop}
use Rattle.lsp_threads.proofs.Failing.{reading_on}
use Rattle.lsp_threads.proofs.Taken.{taken_more, takes_kept, takes_more}
use Rattle.lsp_threads.proofs.content_reader.read_contents.Goals as goal
use Rattle.lsp_threads.proofs.content_reader.read_contents.Goals.{then-goes_on, else-goes_on}

pub returns-in-Ok-None-clause-read : goal.returns-in-Ok-None-clause-read
returns-in-Ok-None-clause-read g c =
    λ still. told_end c.args.limits c.loop.outbox.contents c.loop.taken.parts c.read_content_traced.new.taken.parts _ _
    c.loop.invariant.are (rw (c.in-Ok-None.is, c.in-Ok-None.field-0-is) at c.read_content_traced.ensures.told)

pub returns-in-Err-clause-read : goal.returns-in-Err-clause-read
returns-in-Err-clause-read g c =
    λ still. told_fault c.args.limits c.loop.outbox.contents c.loop.taken.parts c.read_content_traced.new.taken.parts _
    _ c.loop.invariant.are c.in-Err.fault (rw c.in-Err.is at c.read_content_traced.ensures.told)

pub returns-in-Err-add-clause-read : goal.returns-in-Err-add-clause-read
returns-in-Err-add-clause-read g c =
    let told = rw (c.in-Ok-Some.is, c.in-Ok-Some.field-0-is) at c.read_content_traced.ensures.told in
    λ still. rw (c.in-Err-add.ensures.err.2 still).1 (told_stop c.args.limits c.loop.outbox.contents c.loop.taken.parts
    c.read_content_traced.new.taken.parts _ _ c.loop.invariant.are c.in-Ok-Some.content told (Fault NoMemory)
    (λ at. tt))

pub loop-preserved : goal.loop-preserved
loop-preserved g c =
    let told = rw (c.in-Ok-Some.is, c.in-Ok-Some.field-0-is) at c.read_content_traced.ensures.told in
    let more = told_more c.args.limits c.loop.outbox.contents c.loop.taken.parts c.read_content_traced.new.taken.parts
    _ _ c.loop.invariant.are c.in-Ok-Some.content told in
    let taken = takes_more _ _ _ _ _ c.loop.invariant.taken c.read_content_traced.ensures.told in
    let failed = reading_on None c.loop.taken c.read_content_traced.new.taken c.loop.invariant.failed
    (rw c.in-Ok-Some.is at c.read_content_traced.ensures.failed) in
    elim c.if-goes_on.branch [
      | then-goes_on w ↦
          let last = w.go_on.ensures.2 (ap (λ (f : Gathering). f.closed) (sym w.outbox-is)
          ∙ sym c.if-is_closed-2.ensures) in
          rw (w.reader-is, w.outbox-is) (record {
            are = rw (last.1 ∙ (c.in-Ok.ensures.ok.2 last.0).1) more;
            taken = takes_kept _ _ _ _ taken w.shows_frame.ensures;
            failed = failed;
            relay = w.go_on.ensures.0 ∙ c.in-Ok.ensures.ok.0 ∙ c.loop.invariant.relay;
            wakeable = w.go_on.ensures.1 ∙ c.in-Ok.ensures.ok.1 ∙ c.loop.invariant.wakeable;
          })
      | else-goes_on w ↦
          let last = w.wait_to_go_on.ensures.2 (ap (λ (f : Gathering). f.closed) (sym w.outbox-is)
          ∙ sym c.if-is_closed-2.ensures) in
          rw (w.reader-is, w.outbox-is) (record {
            are = rw (last.1 ∙ (c.in-Ok.ensures.ok.2 last.0).1) more;
            taken = taken;
            failed = failed;
            relay = w.wait_to_go_on.ensures.0 ∙ c.in-Ok.ensures.ok.0 ∙ c.loop.invariant.relay;
            wakeable = w.wait_to_go_on.ensures.1 ∙ c.in-Ok.ensures.ok.1 ∙ c.loop.invariant.wakeable;
          })
    ]

pub add-requires : goal.add-requires
add-requires g c =
    let told = rw (c.in-Ok-Some.is, c.in-Ok-Some.field-0-is) at c.read_content_traced.ensures.told in
    let more = told_more c.args.limits c.loop.outbox.contents c.loop.taken.parts c.read_content_traced.new.taken.parts
    _ _ c.loop.invariant.are c.in-Ok-Some.content told in
    λ still. begins_any c.args.limits _ _ _ c.read_content_traced.new.taken.parts (ap (λ (r : _ × Option Source). r.1)
    c.loop.invariant.relay ∙ c.requires.source) more
    (taken_more _ _ _ _ _ c.loop.invariant.taken c.read_content_traced.ensures.told)

pub returns-in-Ok-None-clause-taken : goal.returns-in-Ok-None-clause-taken
returns-in-Ok-None-clause-taken g c = taken_more _ _ _ _ _ c.loop.invariant.taken c.read_content_traced.ensures.told

pub returns-in-Err-clause-taken : goal.returns-in-Err-clause-taken
returns-in-Err-clause-taken g c = taken_more _ _ _ _ _ c.loop.invariant.taken c.read_content_traced.ensures.told

pub returns-in-Err-add-clause-taken : goal.returns-in-Err-add-clause-taken
returns-in-Err-add-clause-taken g c = taken_more _ _ _ _ _ c.loop.invariant.taken c.read_content_traced.ensures.told

pub returns-then-is_closed-clause-taken : goal.returns-then-is_closed-clause-taken
returns-then-is_closed-clause-taken g c = taken_more _ _ _ _ _ c.loop.invariant.taken
    c.read_content_traced.ensures.told

pub returns-then-is_closed-2-clause-taken : goal.returns-then-is_closed-2-clause-taken
returns-then-is_closed-2-clause-taken g c = taken_more _ _ _ _ _ c.loop.invariant.taken
    c.read_content_traced.ensures.told

pub returns-in-Ok-None-clause-failed : goal.returns-in-Ok-None-clause-failed
returns-in-Ok-None-clause-failed g c = reading_on None c.loop.taken c.read_content_traced.new.taken
    c.loop.invariant.failed (rw c.in-Ok-None.is at c.read_content_traced.ensures.failed)

pub returns-in-Err-clause-failed : goal.returns-in-Err-clause-failed
returns-in-Err-clause-failed g c = reading_on (Some c.in-Err.fault) c.loop.taken c.read_content_traced.new.taken
    c.loop.invariant.failed (rw c.in-Err.is at c.read_content_traced.ensures.failed)

pub returns-in-Err-add-clause-failed : goal.returns-in-Err-add-clause-failed
returns-in-Err-add-clause-failed g c = reading_on None c.loop.taken c.read_content_traced.new.taken
    c.loop.invariant.failed (rw c.in-Ok-Some.is at c.read_content_traced.ensures.failed)

pub returns-then-is_closed-clause-failed : goal.returns-then-is_closed-clause-failed
returns-then-is_closed-clause-failed g c = reading_on None c.loop.taken c.read_content_traced.new.taken
    c.loop.invariant.failed (rw c.in-Ok-Some.is at c.read_content_traced.ensures.failed)

pub returns-then-is_closed-2-clause-failed : goal.returns-then-is_closed-2-clause-failed
returns-then-is_closed-2-clause-failed g c = reading_on None c.loop.taken c.read_content_traced.new.taken
    c.loop.invariant.failed (rw c.in-Ok-Some.is at c.read_content_traced.ensures.failed)
