use Rattle.std.proofs.Common.{◌≡◌, ◌++◌, ◌∙◌, ap, List, subst, sym, Some}
use Rattle.std.specs.List.{concat}
use Rattle.lsp_session.specs.SessionOutcome.{StopsBy}
use Rattle.lsp_session.specs.SessionLaws.{Both}
use Rattle.lsp_session.specs.SessionFault.{session_answer}
use Rattle.lsp_relay.specs.Relay.{has_end}
use Rattle.lsp_session.proofs.Brought.{brought_by}
use Rattle.lsp_session.proofs.Got.{got_by}
use Rattle.lsp_session.specs.SessionRun.{Runs}
use Rattle.lsp_session.specs.Session.{Exchange, SessionAnswer, SessionPart, starting, Stop}
use Rattle.lsp_threads.proofs.Frames.{same_parcels}
use Rattle.lsp_threads.proofs.GivenInOrder.{given_in_order}
use Rattle.lsp_threads.specs.Contents.{ContentsGive, Lent, source_of, Taking}
use Rattle.lsp_threads.specs.Order.{GivesInOrder, MarksAnswer}
use Rattle.lsp_threads.specs.Replies.{Gathered, RepliesSend, reply_fault}
use Rattle.lsp_threads.specs.ThreadEnds.{EndsInOrder, seen_of}
use Rattle.lsp_threads.specs.Threads.{ReportsReader, session_end}
use Rattle.lsp_threads.specs.Writes.{KeepsMarks, marks_of}
use Rattle.lsp_threads.proofs.ContentStream.{gives_relay}
use Rattle.lsp_threads.proofs.Failing.{all_keep, session_reports_reader, session_reports_writer, stopped_early}
use Rattle.lsp_threads.proofs.Flushing.{session_flushed}
use Rattle.lsp_threads.proofs.Replies.{all_replied}
use Rattle.lsp_threads.proofs.Sessions.{threads_tell}
use Rattle.lsp_threads.proofs.serving.serve_between.Goals as goal

pub leave_reading-read-requires : goal.leave_reading-read-requires
leave_reading-read-requires g c =
    let run = c.serve_ends-served.ensures in
    let heard = brought_by (ContentsGive g.L.BadContentPolicy.passes) starting run.runs.exchanges run.runs.stop _ _ _
    run.runs.came in
    let kept = c.parts-2-1.given.1 (sym c.new-ends.ensures.same_parts ∙ sym run.lent.0) in
    let same = ap (λ (t : Taking). t.relay) kept ∙ gives_relay g.L.BadContentPolicy.passes heard.events _ _
    heard.received
    ∙ ap (λ (t : Taking). t.relay) (c.new-ends.ensures.untaken ∙ c.new-parts.ensures) in
    record {
      known = (
        ap (λ (l : Lent). l.0) same ∙ sym c.requires.reading.1,
        ap (λ (l : Lent). l.1) same
            ∙ c.requires.source.0,
        ap (λ (l : Lent). l.2) same ∙ c.requires.source.1,
      );
    }

pub settle_all-requires : goal.settle_all-requires
settle_all-requires g c =
    let run = c.serve_ends-served.ensures in
    let runs = run.runs in
    let sent = c.outbox-2-1.given.1 (sym c.new-ends.ensures.same_outbox ∙ sym run.lent.2) in
    let replied = all_replied _ _ runs.exchanges runs.stop (got_by RepliesSend runs.exchanges runs.stop _ _ _
    runs.went) in
    c.join-replies_rx.ensures.0 ∙ c.requires.writing.1
    ∙ sym (c.finish-replies.ensures.relay ∙ ap (λ (b : Gathered). b.replies.relay) sent ∙ replied.same_relay
    ∙ ap (λ (b : Gathered). b.replies.relay) (c.new-ends.ensures.unsent ∙ c.new-outbox.ensures))

pub returns-clause-taken : goal.returns-clause-taken
returns-clause-taken g c = c.leave_reading-read.ensures.leaves.6

pub returns-clause-given : goal.returns-clause-given
returns-clause-given g c = c.join-replies_rx.ensures.2

pub returns-clause-flushed : goal.returns-clause-flushed
returns-clause-flushed g c = rw (c.session_answer-answer.ensures, c.reply_fault-fault.ensures)
    (session_flushed c.join-replies_rx.result.3.parts c.serve_ends-served.result.stop c.serve_ends-served.result.answer
    c.session_end.result c.join-replies_rx.result.2 c.finish-replies.result.1 c.join-replies_rx.ensures.3)

pub returns-clause-told : goal.returns-clause-told
returns-clause-told g c = λ rest ends.
    let passes = g.L.BadContentPolicy.passes in
    let old = c.args.application.now in
    let new = c.serve_ends-served.new.application in
    let served = c.serve_ends-served.result in
    let run = c.serve_ends-served.ensures in
    let kept = c.parts-2-1.given.1 (sym c.new-ends.ensures.same_parts ∙ sym run.lent.0) in
    let told = c.policy-1.given.1 (sym c.new-ends.ensures.same_policy ∙ sym run.lent.1) in
    let sent = c.outbox-2-1.given.1 (sym c.new-ends.ensures.same_outbox ∙ sym run.lent.2) in
    let left = c.leave_reading-read.ensures in
    let first = c.new-ends.ensures.untaken ∙ c.new-parts.ensures in
    let drained = c.is_drained-drained.ensures ∙ ap (λ (t : Taking). has_end t.taken) kept in
    let ended = c.session_end.ensures ∙ (λ i. session_end (c.end-ended.ensures i) (drained i)
    c.leave_reading-read.result.0) in
    let failed = c.finish-replies.ensures.failed ∙ ap (λ (b : Gathered). b.replies.failed) sent in
    let fault = c.reply_fault-fault.ensures ∙ (λ i. reply_fault c.join-replies_rx.result.2 (failed i)) in
    let answer = c.session_answer-answer.ensures ∙ (λ i. session_answer served.stop served.answer (ended i)
    (fault i)) in
    let limits = c.args.workers.reading.promise.limits in
    let wakeable = c.args.workers.reading.promise.tx.value.wakeable in
    let policy = c.new-ends.result.policy.now in
    let given = c.join-replies_rx.result.3.parts in
    let known = g.R.Read.remaining c.args.workers.reading.promise.reader.value in
    let order : SessionPart = GivesInOrder wakeable passes limits known policy c.join-replies_rx.result.4
    given in
    let planned = ap (λ (t : Taking). t.relay.1) first ∙ c.requires.source.0 in
    let woken : (seen_of c.new-ends.result).0.relay.2 ≡ wakeable = ap (λ (t : Taking). t.relay.2) first
    ∙ c.requires.source.1 in
    let all = same_parcels c.join-replies_rx.result.0.taken c.finish-replies.result.0.sent
    c.join-replies_rx.ensures.1.0 c.finish-replies.ensures.ended c.settle_all.ensures.settled in
    let in_order : (xs : List Exchange) (stop : Stop) (answer : SessionAnswer)
    → EndsInOrder passes c.new-ends.result c.serve_ends-served.new.ends xs stop answer → order xs stop answer =
    λ xs stop answer ends. given_in_order wakeable passes limits known policy xs stop answer
    c.serve_ends-served.new.ends.outbox.now.marks
    (subst (λ w. MarksAnswer w passes limits known policy c.serve_ends-served.new.ends.outbox.now.marks xs stop answer)
    woken (ends (source_of known limits) planned))
    c.join-replies_rx.result.0.taken c.finish-replies.result.0.sent
    (subst (λ (b : Gathered). KeepsMarks b.marks (marks_of c.finish-replies.result.0.sent)) sent
    c.finish-replies.ensures.marks) all c.join-replies_rx.result.4 given c.join-replies_rx.ensures.5 in
    let taken = c.leave_reading-read.result.1 in
    let reports : SessionPart = ReportsReader (session_answer served.stop served.answer (session_end
    (seen_of c.serve_ends-served.new.ends).0.end (has_end (seen_of c.serve_ends-served.new.ends).0.taken)
    c.leave_reading-read.result.0) (reply_fault c.join-replies_rx.result.2
    c.serve_ends-served.new.ends.outbox.now.replies.failed)) taken in
    let heard = brought_by (ContentsGive passes) starting run.runs.exchanges run.runs.stop _ _ _ run.runs.came in
    let reported : reports run.runs.exchanges run.runs.stop served.answer =
    session_reports_reader taken run.runs.exchanges run.runs.stop served.answer served.stop served.answer
    (seen_of c.serve_ends-served.new.ends).0.end (has_end (seen_of c.serve_ends-served.new.ends).0.taken)
    c.leave_reading-read.result.0 _
    (all_keep passes heard.events _ _ heard.received (rw c.new-ends.ensures.unended tt))
    (rw kept at left.failed)
    (stopped_early passes _ _ run.runs.exchanges served.stop run.runs.stop heard run.runs.part.0.1.0
    c.leave_reading-read.result.0) in
    let session : SessionPart = Both (Both (g.A.Application.session old new) (StopsBy served.stop))
    (EndsInOrder passes c.new-ends.result c.serve_ends-served.new.ends) in
    let runs : Runs (ContentsGive passes) RepliesSend (Both session reports)
    (seen_of c.new-ends.result, c.new-ends.result.outbox.now.replies) served.answer
    (seen_of c.serve_ends-served.new.ends, c.serve_ends-served.new.ends.outbox.now.replies) = record {
      exchanges = run.runs.exchanges;
      stop = run.runs.stop;
      came = run.runs.came;
      went = run.runs.went;
      part = (run.runs.part, reported);
    } in
    rw (answer, told, sym c.new-ends.ensures.untold) (threads_tell passes c.args.workers.reading.promise.limits
    (Both session reports)
    (Both (Both (g.A.Application.session old new) reports) order) served.stop
    (λ xs stop answer both. (
      ((both.0.0.0, both.1), in_order xs stop answer both.0.1),
      both.0.0.1.0,
      both.0.0.1.1,
    ))
    _ _ (seen_of c.new-ends.result) (seen_of c.serve_ends-served.new.ends) c.new-ends.result.outbox.now.replies
    c.serve_ends-served.new.ends.outbox.now.replies served.answer runs
    (ap (λ (t : Taking). t.taken) first ∙ c.requires.reading.0) (ap (λ (t : Taking). t.waiting) first)
    c.new-ends.ensures.unended
    (ap (λ (b : Gathered). b.replies.bytes) (c.new-ends.ensures.unsent ∙ c.new-outbox.ensures))
    left.leaves.1 left.leaves.0 (rw kept at left.leaves.2) left.leaves.3 (rw kept at left.leaves.4)
    c.args.workers.reading.promise.tx.value
    c.leave_reading-read.result.0
    c.join-replies_rx.result.0.taken c.finish-replies.result.0.sent
    (c.finish-replies.ensures.bytes ∙ ap (λ (b : Gathered). b.replies.bytes) sent)
    c.finish-replies.ensures.ended
    c.join-replies_rx.result.2 c.join-replies_rx.ensures.1 c.settle_all.ensures.settled
    (Some (concat c.leave_reading-read.result.1.parts ++ rest)) (left.leaves.5 rest ends))

pub returns-clause-writer : goal.returns-clause-writer
returns-clause-writer g c = rw (c.session_answer-answer.ensures, c.reply_fault-fault.ensures)
    (session_reports_writer c.join-replies_rx.result.3 c.serve_ends-served.result.stop
    c.serve_ends-served.result.answer c.session_end.result c.join-replies_rx.result.2 c.finish-replies.result.1
    c.join-replies_rx.ensures.4)

pub serve_ends-served-requires : goal.serve_ends-served-requires
serve_ends-served-requires g c =
    let first = c.new-ends.ensures.untaken ∙ c.new-parts.ensures in
    let unsent = c.new-ends.ensures.unsent ∙ c.new-outbox.ensures in (
      ap (λ (t : Taking). t.taken) first ∙ c.requires.reading.0,
      ap (λ (t : Taking). t.waiting) first,
      c.new-ends.ensures.unended,
      ap (λ (b : Gathered). b.replies.bytes) unsent,
      ap (λ (b : Gathered). b.marks) unsent,
    )
