-- An inbox and an outbox that were lent as one value: its waits, and a session over it.
use Rattle.lsp_session.proofs.TransportRuns.{transport_runs}
use Rattle.lsp_session.specs.BothEnds.{SameBoxes, BothReceive, BothSend}
use Rattle.lsp_session.specs.Boxes.{Sends, Receives, WaitsFor}
use Rattle.lsp_session.specs.Event.{Event}
use Rattle.lsp_session.specs.Prompt.{Talks}
use Rattle.lsp_session.specs.Session.{SessionAnswer, SessionPart, starting}
use Rattle.lsp_session.specs.SessionRun.{Runs}
use Rattle.lsp_session.specs.declared.loops.both_ends.BothEnds.{BothEnds}
use Rattle.std.proofs.Common.{◌≡◌, refl, ap, ℕ, List, [], ◌∷◌, ◌++◌}
use Rattle.std.specs.List.{FoldsTo}

module _ {I O : Type 0} (receives : Receives I) where
  received_by : (passed : List Event) (event : Event) (old new : BothEnds I O) → FoldsTo receives old.inbox.now (passed
      ++ event ∷ []) new.inbox.now
      → new.outbox.now ≡ old.outbox.now → SameBoxes old new → FoldsTo (BothReceive receives) old (passed ++ event
      ∷ []) new
  received_by [] event old new run same boxes = let last : run.0 ≡ new.inbox.now = run.2 in (
    new,
    (
      rw last at run.1,
      same,
      boxes,
    ),
    refl,
  )
  received_by (e ∷ es) event old new run same boxes =
      let mid : BothEnds I O = record old { inbox = record old.inbox { now = run.0 } } in
      (mid, (run.1, refl, (refl, refl)), received_by es event mid new run.2 same boxes)

  -- the inbox waited
  pub waits_both : (event : Event) (old new : BothEnds I O) → WaitsFor receives old.inbox.now event new.inbox.now
      → new.outbox.now ≡ old.outbox.now → SameBoxes old new
      → WaitsFor (BothReceive receives) old event new
  waits_both event old new waits same boxes = record {
    passed = waits.passed;
    only_timeouts = waits.only_timeouts;
    received = received_by waits.passed event old new waits.received same boxes;
  }

  -- a session over both is one over each
  pub both_run : (listens : Receives I) (sends : Sends O) (P : SessionPart) (old new : BothEnds I O)
      (answer : SessionAnswer) (i' : I) (o' : O)
      → (new.inbox.ghost_name ≡ old.inbox.ghost_name → i' ≡ new.inbox.now) → (new.outbox.ghost_name
      ≡ old.outbox.ghost_name → o' ≡ new.outbox.now)
      → Talks (BothReceive receives) (BothReceive listens) (BothSend sends) starting P old answer new
      → Runs receives sends
      P (old.inbox.now, old.outbox.now) answer (i', o')
  both_run listens sends P old new answer i' o' inbox outbox talks =
      let run = transport_runs receives sends (BothReceive receives) (BothReceive listens) (BothSend sends)
      (λ (b : BothEnds I O). (b.inbox.now, b.outbox.now)) (λ (b : BothEnds I O). (
        b.inbox.ghost_name,
        b.outbox.ghost_name,
      ))
      (λ a event b gives. (gives.0, gives.1, rw (gives.2.0, gives.2.1) refl))
      (λ a m outcome b takes. (takes.0, takes.1, rw (takes.2.0, takes.2.1) refl)) P old answer new talks in
      let inbox_is : i' ≡ new.inbox.now = inbox (ap (λ (names : ℕ × ℕ). names.0) run.1) in
      let outbox_is : o' ≡ new.outbox.now = outbox (ap (λ (names : ℕ × ℕ). names.1) run.1) in
      rw (inbox_is, outbox_is) run.0
