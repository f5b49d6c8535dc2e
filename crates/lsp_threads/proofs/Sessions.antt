-- A session over relays, as its contract says it: it is one over bytes, but what is left of them is not known.
use Rattle.std.proofs.Common.{arith, ◌≡◌, ◌≤◌, refl, ◌∙◌, ap, subst, inl, inr, ℕ, Bool, true, false, List, [], ◌∷◌}
use Rattle.std.proofs.Common.{◌++◌, Some, None, Option, IfSome}
use Rattle.std.specs.Bool.{MatchBool}
use Rattle.std.specs.List.{FoldsTo}
use Rattle.std.specs.Prelude.{Result, Ok, Err, OnErr}
use mathlib.Core.List.{IsPrefix}
use Rattle.lsp_message.specs.Message.{Message as Sent}
use Rattle.lsp_message.specs.declared.frame.ReadFault.{ReadFault}
use Rattle.lsp_message.specs.declared.frame.WriteFault.{WriteFault}
use Rattle.lsp_relay.specs.Relay.{ended, has_end, Sending}
use Rattle.lsp_relay.specs.declared.ends.Parcel.{Parcel}
use Rattle.lsp_session.specs.PassingBytes.{SkipsNoContent}
use Rattle.lsp_session.specs.Session.{starting, came_of, Exchange, messages_of, SessionAnswer, SessionPart, sends_of}
use Rattle.lsp_session.specs.Session.{Stop}
use Rattle.lsp_session.specs.SessionOutcome.{StopsAtExit, StopsFor}
use Rattle.lsp_session.specs.SessionFault.{session_answer}
use Rattle.lsp_session.proofs.Brought.{Brought, brought_by}
use Rattle.lsp_session.proofs.Got.{got_by}
use Rattle.lsp_session.specs.SessionRun.{Runs}
use Rattle.lsp_session.specs.declared.loops.ReadEnd.{ReadEnd}
use Rattle.lsp_session.specs.declared.loops.handler.SessionEnd.{SessionEnd}
use Rattle.lsp_session.specs.declared.loops.handler_service.HandlerService.{HandlerService}
use Rattle.lsp_session.specs.declared.loops.session_outcome.StopReason.{StopReason}
use Rattle.lsp_session.specs.declared.loops.stream_session.SessionFault.{SessionFault}
use Rattle.lsp_threads.proofs.ContentStream.{as_stream}
use Rattle.lsp_threads.proofs.Replies.{all_replied, replies_written, session_gives}
use Rattle.lsp_threads.specs.Contents.{Contents, ContentsGive, HandsWhole, Receiving}
use Rattle.lsp_threads.specs.Framing.{parcel_bytes, AreEnded, WritesParcels}
use Rattle.lsp_message.specs.declared.frame.limits.Limits.{Limits}
use Rattle.lsp_threads.specs.Replies.{Replying, RepliesSend, reply_fault, WritesReplies}
use Rattle.lsp_threads.specs.Threads.{ReadsFrameOrWakes, ReadsOrWakes, session_end, ThreadsGiveOver, ThreadsTellOver}
use Rattle.lsp_threads.specs.declared.frame_text.FrameText.{FrameText}

-- over what is seen of the inbox and of the outbox
module _ {L : Type 0} (passes : L → ReadFault → L → Type 0) (limit : Limits) (P Q : SessionPart) (reason : StopReason)
    (knows : (xs : List Exchange) (stop : Stop) (answer : SessionAnswer)
    → P xs stop answer
    → Q xs stop answer × StopsFor reason xs stop answer × StopsAtExit stop
    (messages_of xs))
    (a b : Option (List ℕ)) (inbox inbox' : Receiving × L) (outbox outbox' : Replying) (answer : SessionAnswer)
    (runs : Runs (ContentsGive passes) RepliesSend P (inbox, outbox) answer (inbox', outbox')) where
  abbrev heard : Brought (ContentsGive passes) inbox runs.exchanges runs.stop inbox'
  heard = brought_by (ContentsGive passes) starting runs.exchanges runs.stop answer inbox inbox' runs.came

  -- what the threads of a session come to in bytes
  module _ (none : inbox.0.taken ≡ []) (all_given : inbox.0.waiting ≡ [])
      (unended : inbox.0.end ≡ None) (unsent : outbox.bytes ≡ [])
      (taken : List (Parcel Contents)) (back : Sending Contents)
      (drained : MatchBool (has_end inbox'.0.taken) (taken ≡ inbox'.0.taken) ((more : List Contents)
      × (taken ≡ inbox'.0.taken ++ ended more)))
      (settled : IsPrefix taken back.sent) (silent : back.wakeable ≡ false → inbox'.0.wakes ≡ 0)
      (tx : Sending Contents) (read : ReadEnd)
      (replies_taken replies : List (Parcel FrameText)) (all : parcel_bytes replies ≡ outbox'.bytes)
      (finished : AreEnded replies) (fault : Option WriteFault)
      (written : WritesParcels replies_taken fault a b) (replies_settled : IsPrefix replies_taken replies) where
    -- the output was written
    output_written : WritesReplies runs.stop (sends_of runs.exchanges) (reply_fault fault outbox'.failed) a b
    output_written =
        replies_written runs.stop _ a b outbox outbox' unsent (all_replied outbox outbox' runs.exchanges runs.stop
        (got_by RepliesSend runs.exchanges runs.stop answer outbox outbox' runs.went)) replies_taken replies all
        finished replies_settled fault written

    -- a wake that was taken was given by others
    woke : (wakeable : Bool) → (wakeable ≡ false → inbox'.0.wakes ≡ 0) → 1 ≤ inbox'.0.wakes
        → wakeable ≡ true
    woke true silent' some = refl
    woke false silent' some = absurd (omega (arith, silent' refl, some))

    pub threads_tell : (known : Option (List ℕ)) → IfSome known (λ text. HandsWhole limit text tx read back)
        → IfSome known (λ text. ThreadsTellOver tx.wakeable passes limit Q text inbox.1 inbox'.1 a b
        (session_answer reason answer (session_end inbox'.0.end (has_end inbox'.0.taken) read)
        (reply_fault fault outbox'.failed)))
    threads_tell None handed = tt
    threads_tell (Some text) handed =
        let s = as_stream limit passes (tx.wakeable ≡ true) inbox inbox' none all_given unended
        heard.events heard.received
        (woke tx.wakeable (λ e. silent (handed.2 ∙ e))) taken tx back drained settled read text handed in
        subst (λ policy. ThreadsTellOver tx.wakeable passes limit Q text inbox.1 policy a b
        (session_answer reason answer (session_end inbox'.0.end (has_end inbox'.0.taken) read)
        (reply_fault fault outbox'.failed))) s.1.2
        (subst (λ end. ThreadsTellOver tx.wakeable passes limit Q text inbox.1 s.0.1 a b (session_answer reason
        answer end (reply_fault fault outbox'.failed))) s.1.1
        (session_gives (ContentsGive passes) RepliesSend tx.wakeable passes limit P Q reason knows a b (inbox, outbox)
        (inbox', outbox') answer runs
        text inbox.1 s.0 s.1.0 (reply_fault fault outbox'.failed) output_written))

-- of a session that asks a policy
module _ (wakeable : Bool) {L : Type 0} (passes : L → ReadFault → L → Type 0) (limit : Limits) (first last : L) where
  -- A policy that passes over nothing: each frame is a message, and each wake is given by others.
  module _ (never : SkipsNoContent passes) where
    reads_or_wakes : (came : List (Option Sent)) (from to : List ℕ × L) → FoldsTo (ReadsFrameOrWakes wakeable passes
        limit) from came to
        → FoldsTo (ReadsOrWakes wakeable limit) from.0 came to.0
    reads_or_wakes [] from to run = ap (λ (at : List ℕ × L). at.0) run
    reads_or_wakes (Some m ∷ came) from to run = (run.0.0, run.1.0, reads_or_wakes came run.0 to run.2)
    reads_or_wakes (None ∷ came) from to run = elim run.1 [
      | inl others ↦ (run.0.0, (others.0, ap (λ (at : List ℕ × L). at.0) others.1), reads_or_wakes came run.0 to run.2)
      | inr passes ↦ absurd (never from.1 passes.0 run.0.1 passes.3)
    ]

    pub none_passed : (P : SessionPart) (text : List ℕ) (old new : Option (List ℕ)) (result : Result SessionEnd
        SessionFault)
        → ThreadsTellOver wakeable passes limit P text first last old new result → ThreadsGiveOver wakeable limit P text
        old new result
    none_passed P text old new result tells = record {
      exchanges = tells.exchanges;
      at = tells.at.0;
      read = reads_or_wakes (came_of tells.exchanges) (text, first) tells.at tells.read;
      stop = tells.stop;
      answer = tells.answer;
      part = tells.part;
      ends = tells.ends.0;
      wrote = tells.wrote;
    }

-- a handler that was lent to a session which did not start is as it was
pub unstarted_handler : {H T F : Type 0} (old new : HandlerService H) (first last : H)
    → (new.handler.ghost_name ≡ old.handler.ghost_name → last ≡ new.handler.now)
    → old.handler.now ≡ first → (X : Type 0) (result : Result T F) → OnErr result ((new ≡ old) × X)
    → OnErr result (last ≡ first)
unstarted_handler old new first last same unchanged X (Ok done) kept = tt
unstarted_handler old new first last same unchanged X (Err fault) kept =
    same (ap (λ (s : HandlerService _). s.handler.ghost_name) kept.0)
    ∙ ap (λ (s : HandlerService _). s.handler.now) kept.0 ∙ unchanged
