-- A session over a transport that keeps an account, in bytes.
use Rattle.lsp_message.specs.declared.frame.ReadFault.{ReadFault}
use Rattle.lsp_message.specs.declared.frame.limits.Limits.{Limits}
use Rattle.lsp_session.proofs.Accounts.{talks_in_order}
use Rattle.lsp_session.proofs.TransportRuns.{transport_runs}
use Rattle.lsp_session.proofs.Passing.{session_gives}
use Rattle.lsp_session.proofs.Knowing.{Knows}
use Rattle.lsp_session.specs.Account.{Act, InOrder}
use Rattle.lsp_session.specs.KeptAccount.{KeepsAccount}
use Rattle.lsp_session.specs.ActBytes.{Note, acts_in}
use Rattle.lsp_session.specs.Boxes.{Receives}
use Rattle.lsp_session.specs.FrameBoxes.{FrameOutboxSends}
use Rattle.lsp_session.specs.PassingBoxes.{TolerantInboxGives}
use Rattle.lsp_session.specs.PassingBytes.{GivesAndTells}
use Rattle.lsp_session.specs.Prompt.{Talks}
use Rattle.lsp_session.specs.Session.{starting, SessionAnswer, SessionPart}
use Rattle.lsp_session.specs.SessionFault.{session_answer}
use Rattle.lsp_session.specs.SessionLaws.{Both}
use Rattle.lsp_session.specs.SessionRun.{Runs}
use Rattle.lsp_session.specs.StreamTransports.{account_of, inbox_of, outbox_of, IsUnused, KeepsEnds}
use Rattle.lsp_session.specs.StreamTransports.{StreamTransportGives, StreamTransportSends, GivesInOrder}
use Rattle.lsp_session.proofs.Noting.{acts_grown}
use Rattle.lsp_session.specs.declared.loops.frame_outbox.FrameOutbox.{FrameOutbox}
use Rattle.lsp_session.specs.declared.loops.session_outcome.StopReason.{StopReason}
use Rattle.lsp_session.specs.declared.loops.stream_transport.StreamTransport.{StreamTransport}
use Rattle.lsp_session.specs.declared.loops.tolerant_inbox.TolerantInbox.{TolerantInbox}
use Rattle.std.proofs.Common.{◌≡◌, refl, sym, ◌∙◌, ap, subst, ℕ, List, ◌++◌, Option, IfSome}

module _ {R W L : Type 0} (remaining : R → Option (List ℕ)) (passes : L → ReadFault → L → Type 0) (contents : W
    → Option (List ℕ)) where
  -- the transport adds each act to its transcript when it is done
  pub keeps_account : KeepsAccount {L = StreamTransport R W L} (StreamTransportGives remaining passes)
      (StreamTransportSends contents) (λ t. account_of t)
  keeps_account = record {
    receiving = λ old event new gives. acts_grown _ _ _ gives.3.1;
    offering = λ old m outcome new sends. acts_grown _ _ _ sends.3.1;
  }

  -- what it was lent
  abbrev ends : StreamTransport R W L → TolerantInbox R L × FrameOutbox W
  ends t = (inbox_of t, outbox_of t)

  abbrev names : StreamTransport R W L → ℕ × ℕ × ℕ × ℕ
  names t = (t.reader.ghost_name, t.writer.ghost_name, t.policy.ghost_name, t.transcript.ghost_name)

  module _ (listens : Receives (StreamTransport R W L)) (P Q : SessionPart) (reason : StopReason)
      (knows : Knows P Q reason) (old new : StreamTransport R W L) (unused : IsUnused old) (answer : SessionAnswer)
      (talks : Talks (StreamTransportGives remaining passes) listens (StreamTransportSends contents) starting P old
      answer new) where
    -- of the acts of the session, which are all of the transcript
    abbrev Turns : List Act → SessionPart
    Turns acts = Both P (InOrder acts)

    in_order : Talks (StreamTransportGives remaining passes) listens (StreamTransportSends contents) starting
        (Turns (account_of new)) old answer new
    in_order =
        let t = talks_in_order (StreamTransportGives remaining passes) listens (StreamTransportSends contents)
        (λ (t : StreamTransport R W L). account_of t) keeps_account P old new answer talks in
        let all : account_of new ≡ t.0 = t.1 ∙ ap (λ (notes : List Note). acts_in notes ++ t.0) unused.2 in
        subst (λ (acts : List Act). Talks (StreamTransportGives remaining passes) listens
        (StreamTransportSends contents) starting (Turns acts) old answer new) (sym all) t.2

    ran : Runs (TolerantInboxGives remaining passes) (FrameOutboxSends contents) (Turns (account_of new)) (ends old)
        answer (ends new) × (names new ≡ names old)
    ran = transport_runs (TolerantInboxGives remaining passes) (FrameOutboxSends contents) (StreamTransportGives
        remaining passes) listens (StreamTransportSends contents) ends names
        (λ a event b gives. (
          gives.0,
          gives.1,
          rw (
            gives.0.1.0,
            gives.0.1.1,
            ap (λ (o : FrameOutbox W). o.writer.ghost_name) gives.1,
            gives.2,
          ) refl,
        ))
        (λ a m outcome b takes. (
          takes.0,
          takes.1,
          rw (
            takes.0.1,
            ap (λ (i : TolerantInbox R L). i.reader.ghost_name)
                takes.1,
            ap (λ (i : TolerantInbox R L). i.policy.ghost_name) takes.1,
            takes.2,
          ) refl,
        ))
        (Turns (account_of new)) old answer new in_order

    -- a session over a transport, in bytes
    pub gives_in_order : GivesInOrder remaining passes contents Q old (session_answer reason answer new.end new.fault)
        new
    gives_in_order = session_gives passes old.limits remaining contents (Turns (account_of new))
        (Both Q (InOrder (account_of new))) reason
        (λ xs stop answer both.
        let known = knows xs stop answer both.0 in ((known.0, both.1), known.1.0, known.1.1))
        (inbox_of old) (inbox_of new) (outbox_of old) (outbox_of new) unused.0 refl unused.1 answer ran.0
        old.reader.now new.reader.now old.writer.now new.writer.now old.policy.now new.policy.now
        refl refl refl (λ same. refl) (λ same. refl) (λ same. refl)

    -- the same of the reader, the writer and the policy that were lent
    pub lent_gives : (limit : Limits) → old.limits ≡ limit → (first last : R) (first' last' : W) (policy policy' : L)
        → old.reader.now ≡ first → old.writer.now ≡ first'
        → old.policy.now ≡ policy
        → (new.reader.ghost_name ≡ old.reader.ghost_name → last ≡ new.reader.now)
        → (new.policy.ghost_name ≡ old.policy.ghost_name → policy' ≡ new.policy.now)
        → (new.writer.ghost_name ≡ old.writer.ghost_name → last' ≡ new.writer.now)
        → IfSome (remaining first) (λ text. GivesAndTells passes limit Q text (remaining last)
        policy policy' (contents first') (contents last')
        (session_answer reason answer new.end new.fault))
    lent_gives limit limited = session_gives passes limit remaining contents (Turns (account_of new)) Q reason
        (λ xs stop answer both.
        let known = knows xs stop answer both.0 in (known.0, known.1.0, known.1.1))
        (inbox_of old) (inbox_of new) (outbox_of old) (outbox_of new) unused.0 limited unused.1 answer ran.0

    pub keeps_ends : KeepsEnds old new
    keeps_ends = (
      ap (λ (n : ℕ × ℕ × ℕ × ℕ). n.0) ran.1,
      ap (λ (n : ℕ × ℕ × ℕ × ℕ). n.1) ran.1,
      ap (λ (n : ℕ × ℕ × ℕ × ℕ). n.2) ran.1,
      ap (λ (n : ℕ × ℕ × ℕ × ℕ). n.3) ran.1,
    )
