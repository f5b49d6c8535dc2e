-- The caller's ends as one value: its waits, and a session over it, which is one over what is seen of each end.
use Rattle.std.proofs.Common.{◌≡◌, ◌∙◌, ap, refl, subst, ℕ}
use Rattle.lsp_message.specs.declared.frame.ReadFault.{ReadFault}
use Rattle.lsp_session.proofs.TransportRuns.{transport_runs}
use Rattle.lsp_session.proofs.Waiting.{waits_none}
use Rattle.lsp_session.specs.Boxes.{Receives, WaitsFor}
use Rattle.lsp_session.specs.Event.{Event}
use Rattle.lsp_session.specs.Prompt.{Talks}
use Rattle.lsp_session.specs.Session.{SessionAnswer, SessionPart, starting}
use Rattle.lsp_session.specs.SessionRun.{Runs}
use Rattle.lsp_threads.specs.Contents.{ContentsGive, ContentsListen, Receiving}
use Rattle.lsp_threads.specs.Replies.{Gathered, RepliesSend}
use Rattle.lsp_threads.specs.ThreadEnds.{EndsGive, EndsListen, EndsSend, GivesNext, IsReadyToWait, KeepsLent}
use Rattle.lsp_threads.specs.ThreadEnds.{LeavesOutbox, seen_of}
use Rattle.lsp_threads.specs.Writes.{IsAmong, KeepsMarks}
use Rattle.lsp_threads.specs.declared.thread_ends.ThreadEnds.{ThreadEnds}

module _ {R L : Type 0} where
  lent_on : (old mid new : ThreadEnds R L) → KeepsLent old mid → KeepsLent mid new → KeepsLent old new
  lent_on old mid new first second = (second.0 ∙ first.0, second.1 ∙ first.1, second.2 ∙ first.2)

  pub left_on : (old mid new : ThreadEnds R L) → LeavesOutbox old mid → LeavesOutbox mid new → LeavesOutbox old new
  left_on old mid new first second = (second.0 ∙ first.0, lent_on old mid new first.1 second.1)

  module _ (old mid new : ThreadEnds R L) (event : Event) (untaken : seen_of mid ≡ seen_of old)
      (unsent : mid.outbox.now.replies ≡ old.outbox.now.replies)
      (marked : KeepsMarks old.outbox.now.marks mid.outbox.now.marks) (ready : IsReadyToWait mid)
      (lent : KeepsLent old mid)
      (passes : L → ReadFault → L → Type 0) (gives : GivesNext passes mid event new) where
    -- a receive, once all was handed over that had to be
    pub ends_give : EndsGive passes old event new
    ends_give = (
      subst (λ (s : Receiving × L). ContentsGive passes s event (seen_of new)) untaken gives.0,
      ap (λ (b : Gathered). b.replies) gives.1.0 ∙ unsent,
      λ none. ap (λ (b : Gathered). b.held) gives.1.0 ∙ ready (ap (λ (s : Receiving × L). s.0.waiting) untaken ∙ none),
      λ mark is. marked mark (subst (λ (b : Gathered). IsAmong mark b.marks) gives.1.0 is),
      lent_on old mid new lent gives.1.1,
    )

    pub ends_wait : WaitsFor (EndsGive passes) old event new
    ends_wait = waits_none (EndsGive passes) old new event ends_give

    pub ends_listen : (ends : L → ReadFault → Type 0) → EndsListen ends mid event new → EndsListen ends old event new
    ends_listen ends listens = subst (λ (s : Receiving × L). ContentsListen ends s event (seen_of new)) untaken listens

  pub ruleset ready_waits = (ends_give, ends_wait, ends_listen)

  -- a session over both ends
  pub ends_run : (passes : L → ReadFault → L → Type 0) (listens : Receives (ThreadEnds R L))
      (P : SessionPart) (old new : ThreadEnds R L) (answer : SessionAnswer)
      → Talks (EndsGive passes) listens EndsSend starting P old answer new
      → Runs (ContentsGive passes) RepliesSend P (seen_of old, old.outbox.now.replies) answer
      (seen_of new, new.outbox.now.replies) × KeepsLent old new
  ends_run passes listens P old new answer talks =
      let run = transport_runs (ContentsGive passes) RepliesSend (EndsGive passes) listens EndsSend
      (λ (b : ThreadEnds R L). (seen_of b, b.outbox.now.replies))
      (λ (b : ThreadEnds R L). (b.parts.ghost_name, b.policy.ghost_name, b.outbox.ghost_name))
      (λ a event b gives. (gives.0, gives.1, rw (gives.4.0, gives.4.1, gives.4.2) refl))
      (λ a m outcome b takes. (takes.0, takes.1, rw (takes.3.0, takes.3.1, takes.3.2) refl)) P old answer new
      talks in
      let names = run.1 in (
        run.0,
        (
          ap (λ (n : ℕ × ℕ × ℕ). n.0) names,
          ap (λ (n : ℕ × ℕ × ℕ). n.1) names,
          ap (λ (n : ℕ × ℕ × ℕ). n.2) names,
        ),
      )
