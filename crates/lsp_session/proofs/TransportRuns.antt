-- A session over one value whose two ends are boxes: the history of each box follows.
use Rattle.lsp_message.specs.Message.{Message}
use Rattle.lsp_session.proofs.Histories.{history_as}
use Rattle.lsp_session.specs.Boxes.{Sends, Receives}
use Rattle.lsp_session.specs.Event.{Event}
use Rattle.lsp_session.specs.Prompt.{Talks}
use Rattle.lsp_session.specs.Session.{SessionAnswer, SessionPart, starting}
use Rattle.lsp_session.specs.SessionRun.{sends_nothing, gives_nothing, Runs}
use Rattle.lsp_session.specs.declared.lifecycle.SendFault.{SendFault}
use Rattle.std.proofs.Common.{◌≡◌, refl, ◌∙◌, subst}
use Rattle.std.specs.Prelude.{Result}

-- A transport, each of whose receives is one of its inbox, and each of whose sends is one of its outbox. Something of
-- it stays as it is.
module _ {I O L N : Type 0} (receives : Receives I) (sends : Sends O) (gives listens : Receives L) (takes : Sends L)
    (ends : L → I × O) (kept : L → N)
    (of_gives : (old : L) (event : Event) (new : L) → gives old event new
    → receives (ends old).0 event (ends new).0 × ((ends new).1 ≡ (ends old).1) × (kept new ≡ kept old))
    (of_takes : (old : L) (m : Message) (outcome : Result (Unit {0}) SendFault) (new : L) → takes old m outcome new
    → sends (ends old).1 m outcome (ends new).1 × ((ends new).0 ≡ (ends old).0) × (kept new ≡ kept old)) where
  -- a session over the transport is one over its boxes
  pub transport_runs : (P : SessionPart) (old : L) (answer : SessionAnswer) (new : L)
      → Talks gives listens takes starting P old answer new
      → Runs receives sends P (ends old) answer (ends new) × (kept new ≡ kept old)
  transport_runs P old answer new talks =
      let came = history_as gives listens takes receives sends_nothing
      (λ (l : L) (i : I). ((ends l).0 ≡ i) × (kept l ≡ kept old))
      (λ a event b g i same.
      let one = of_gives a event b g in (
        (ends b).0,
        subst (λ (j : I). receives j event (ends b).0) same.0 one.0,
        (refl, one.2 ∙ same.1),
      ))
      (λ a m outcome b t i same. let one = of_takes a m outcome b t in (i, refl, (one.1 ∙ same.0, one.2 ∙ same.1)))
      starting talks.exchanges talks.stop answer old new talks.history (ends old).0 (refl, refl) in
      let went = history_as gives listens takes gives_nothing sends
      (λ (l : L) (o : O). ((ends l).1 ≡ o) × (kept l ≡ kept old))
      (λ a event b g o same. let one = of_gives a event b g in (o, refl, (one.1 ∙ same.0, one.2 ∙ same.1)))
      (λ a m outcome b t o same.
      let one = of_takes a m outcome b t in (
        (ends b).1,
        subst (λ (j : O). sends j m outcome (ends b).1) same.0 one.0,
        (refl, one.2 ∙ same.1),
      ))
      starting talks.exchanges talks.stop answer old new talks.history (ends old).1 (refl, refl) in (
        record {
          exchanges = talks.exchanges;
          stop = talks.stop;
          came = rw came.2.0 came.1;
          went = rw went.2.0 went.1;
          part = talks.part;
        },
        came.2.1,
      )
