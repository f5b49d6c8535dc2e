-- The facts of a history over its steps and outcomes alone, and what a Take adds to the messages taken.
use Rattle.std.proofs.Common.{◌≡◌, ℕ, ◌<◌, List, [], ◌∷◌, ◌++◌, length, refl, sym, ap, ◌∙◌, subst, arith}
use Rattle.std.proofs.Common.{append_assoc}
use Rattle.std.proofs.lemmas.List.{append_cancel_left, map-append}
use Rattle.std.proofs.lemmas.List.Folds.{flat_map-map}
use Rattle.std.specs.Prelude.{Option, None, Some, false, IsSome, ◌==◌, Bool, true, if◌then◌else◌, map as each}
use Rattle.lsp_message.specs.Id.{Id}
use Rattle.lsp_message.specs.Message.{Message, request, notification, response}
use Rattle.lsp_message.specs.View.{message_view}
use Rattle.lsp_queue.specs.Queue.{all_ids}
use Rattle.lsp_peers.specs.History.{Entry, payloads, labels, returned, passed_count, frames_taken, frames_left}
use Rattle.lsp_peers.specs.History.{next_sent, outcome_of_taking, outcome_of, entries_of, IsHistory, count_in, closed}
use Rattle.lsp_peers.specs.History.{held, where_held, only_of}
use Rattle.lsp_peers.specs.Ids.{nth_id, item_at, has}
use Rattle.lsp_peers.specs.SentFrame.{SentFrame, frames, messages}
use Rattle.lsp_peers.specs.Sides.{side_of, other}
use Rattle.lsp_peers.specs.declared.step.Outcome.TheVariants.{Arrived, Returned, Registered, Spent, Notified}
use Rattle.lsp_peers.specs.declared.step.Outcome.TheVariants.{Answered, Cancelled, GaveUp}
use Rattle.lsp_peers.specs.declared.step.Outcome.{Outcome}
use Rattle.lsp_peers.specs.declared.step.Side.{Side}
use Rattle.lsp_peers.specs.declared.step.Step.{Step}
use Rattle.lsp_peers.specs.declared.step.Step.TheVariants.{Take, Register, Answer, Refuse, Cancel, GiveUp}
use Rattle.lsp_peers.specs.declared.step.Side.TheVariants.{A, B}
use Rattle.lsp_peers.specs.declared.world.World.{World}
use Rattle.lsp_peers.specs.Exchange.{WorldAfter, seen_at}
use Rattle.lsp_peers.specs.HistoryLaw.{IsFact, bare, AllFacts, FactsOf, TakenAs}
use Rattle.lsp_peers.proofs.Entries.{taking, next_first, beginning_of, last_of, of_own, of_other, payload_of}
use Rattle.lsp_peers.proofs.Entries.{label_of_arrival, closed_id, returned_id, taken_same, taken_took}
use Rattle.lsp_peers.proofs.Orderly.{Orderly, orderly_of, orderly_other, reply_first, request_first, comes_of}

-- ---- what a Take's outcome says, in every history

-- what follows of an entry, by its step
came : (before : List Entry) (e : Entry) (step : Step) (outcome : Outcome) → IsHistory (before ++ e ∷ []) → e.step
    ≡ step → e.outcome ≡ outcome → outcome ≡ outcome_of (entries_of (side_of step) before)
    (entries_of (other (side_of step)) before) step
came before e step outcome history is comes =
    sym comes ∙ (last_of [] before e history).outcome_is ∙ ap (λ (s : Step). outcome_of (entries_of (side_of s) before)
    (entries_of (other (side_of s)) before) s) is

-- what a side gives back, and what arrives there
abbrev GivesBack : List Entry → Id → Option ℕ → Type 0
GivesBack own id payload = IsSome payload × (payload ≡ item_at (payloads own) id) × (has id (returned own) ≡ false)

abbrev Arrives : List Entry → List Entry → Id → Type 0
Arrives own others id = (id ≡ nth_id (length (labels own))) × (length (labels own) < length (payloads others))

module _ (own others : List Entry) (mine : Orderly own others) (theirs : Orderly others own) where
  back_message : (f : SentFrame) (rest : List SentFrame) (m : Message) (id : Id) (payload : Option ℕ)
      → frames_left own others ≡ f ∷ rest → f.message ≡ m → Returned id payload ≡ outcome_of_taking own others m
      → GivesBack own id payload
  back_message f rest (request key method params) id payload first is came = cc
  back_message f rest (response key answer) id payload first is came =
      let law = reply_first own others f rest first mine key answer is in
      let same : id ≡ key = cc in
      let given : payload ≡ item_at (payloads own) key = cc in (
        subst IsSome (sym given) law.1,
        given ∙ ap (item_at (payloads own)) (sym same),
        ap (λ (i : Id). has i (returned own)) same ∙ law.0,
      )
  back_message f rest (notification method params) id payload first is came = cc

  gives_back : (o : Option SentFrame) (id : Id) (payload : Option ℕ) → next_sent own others ≡ o → Returned id payload
      ≡ taking own others o → GivesBack own id payload
  gives_back None id payload is came = cc
  gives_back (Some f) id payload is came =
      let first = next_first (length (frames (frames_taken own others))) (passed_count own) (frames_left own others) f
      is in
      back_message f first.0 f.message id payload first.1 refl came

  comes_message : (f : SentFrame) (rest : List SentFrame) (m : Message) (id : Id) → frames_left own others ≡ f ∷ rest
      → f.message ≡ m → Arrived id ≡ outcome_of_taking own others m → Arrives own others id
  comes_message f rest (request key method params) id first is came =
      let law = request_first own others f rest first theirs key method params is in
      let same : id ≡ key = cc in
      (same ∙ law.0, law.1)
  comes_message f rest (response key answer) id first is came = cc
  comes_message f rest (notification method params) id first is came = cc

  comes : (o : Option SentFrame) (id : Id) → next_sent own others ≡ o → Arrived id ≡ taking own others o → Arrives own
      others id
  comes None id is came = cc
  comes (Some f) id is came =
      let first = next_first (length (frames (frames_taken own others))) (passed_count own) (frames_left own others) f
      is in
      comes_message f first.0 f.message id first.1 refl came

pub back_law : (before : List Entry) (e : Entry) → IsHistory (before ++ e ∷ []) → (side : Side) (label : ℕ) (id : Id)
    (payload : Option ℕ) → e.step ≡ Take side label → e.outcome ≡ Returned id payload
    → GivesBack (entries_of side before) id payload
back_law before e history side label id payload is back =
    let lawful = beginning_of before (e ∷ []) history in
    gives_back _ _ (orderly_of before lawful side) (orderly_other before lawful side) (next_sent (entries_of side
    before)
    (entries_of (other side) before)) id payload refl (came before e (Take side label) (Returned id payload) history is
    back)

pub arrival_law : (before : List Entry) (e : Entry) → IsHistory (before ++ e ∷ []) → (side : Side) (label : ℕ) (id : Id)
    → e.step ≡ Take side label → e.outcome ≡ Arrived id → Arrives (entries_of side before) (entries_of (other side)
    before) id
arrival_law before e history side label id is back =
    let lawful = beginning_of before (e ∷ []) history in
    comes _ _ (orderly_of before lawful side) (orderly_other before lawful side) (next_sent (entries_of side before)
    (entries_of (other side) before)) id refl (came before e (Take side label) (Arrived id) history is back)

-- ---- the facts of a history over its steps and outcomes alone, and what a Take adds to the messages taken

-- ---- what an entry says without what it wrote

abbrev bared : Entry → Entry
bared e = bare e.step e.outcome

only_bared : (side named : Side) (e : Entry) → only_of side named (bared e) ≡ each bared (only_of side named e)
only_bared A A e = refl
only_bared B B e = refl
only_bared A B e = refl
only_bared B A e = refl

entries_bared : (side : Side) (history : List Entry) → entries_of side (each bared history)
    ≡ each bared (entries_of side history)
entries_bared side [] = refl
entries_bared side (e ∷ history) =
    (λ i. only_bared side (side_of e.step) e i ++ entries_bared side history i)
    ∙ sym (map-append bared (only_of side (side_of e.step) e) (entries_of side history))

payloads_bared : (entries : List Entry) → payloads (each bared entries) ≡ payloads entries
payloads_bared entries = flat_map-map payload_of bared entries

labels_bared : (entries : List Entry) → labels (each bared entries) ≡ labels entries
labels_bared entries = flat_map-map label_of_arrival bared entries

closed_bared : (entries : List Entry) → closed (each bared entries) ≡ closed entries
closed_bared entries = flat_map-map closed_id bared entries

returned_bared : (entries : List Entry) → returned (each bared entries) ≡ returned entries
returned_bared entries = flat_map-map returned_id bared entries

held_bared : (entries : List Entry) (id : Id) → held (each bared entries) id ≡ held entries id
held_bared entries id = λ i. if has id (closed_bared entries i) then None else item_at (labels_bared entries i) id

fact_bared : (own others : List Entry) (step : Step) (outcome : Outcome) → IsFact own others step outcome
    → IsFact (each bared own) (each bared others) step outcome
fact_bared own others (Register side method params payload) (Registered id) fact = fact
    ∙ ap (λ (l : List ℕ). nth_id (length l)) (sym (payloads_bared own))
fact_bared own others (Take side label) (Arrived id) fact = (
  fact.0 ∙ ap (λ (l : List ℕ). nth_id (length l)) (sym (labels_bared own)),
  omega (
    arith,
    fact.1,
    ap (λ (l : List ℕ). length l) (labels_bared own),
    ap (λ (l : List ℕ). length l) (payloads_bared
        others),
  ),
)
fact_bared own others (Take side label) (Returned id payload) fact = (
  fact.0,
  fact.1 ∙ ap (λ (l : List ℕ). item_at l id) (sym (payloads_bared own)),
  ap (has id) (returned_bared own) ∙ fact.2,
)
fact_bared own others (Answer side id value) outcome fact = fact ∙ ap (λ (o : Option ℕ). where_held o (λ label. Answered
    label)) (sym (held_bared own id))
fact_bared own others (Refuse side id code text) outcome fact = fact ∙ ap (λ (o : Option ℕ). where_held o
    (λ label. Answered label)) (sym (held_bared own id))
fact_bared own others (Cancel side id) outcome fact = fact ∙ ap (λ (o : Option ℕ). where_held o (λ label. Cancelled))
    (sym (held_bared own id))
fact_bared own others (GiveUp side id) outcome fact = fact ∙ ap (λ (o : Option ℕ). where_held o (λ label. GaveUp label))
    (sym (held_bared own id))
fact_bared own others step outcome fact = tt

-- ---- the facts

registered : (b : Bool) (id : Id) (n : ℕ) → Registered id ≡ (if b then Spent else Registered (nth_id n)) → id ≡ nth_id n
registered true id n is = cc
registered false id n is = cc

pub fact_of : (before : List Entry) (e : Entry) (step : Step) (outcome : Outcome) → IsHistory (before ++ e ∷ []) →
    e.step
    ≡ step → e.outcome ≡ outcome → IsFact (entries_of (side_of step) before) (entries_of (other (side_of step)) before)
    step outcome
fact_of before e (Register side method params payload) (Registered id) history is comes = registered
    (length (payloads (entries_of side before)) == all_ids) id _ (came before e _ _ history is comes)
fact_of before e (Take side label) (Arrived id) history is comes = arrival_law before e history side label id is comes
fact_of before e (Take side label) (Returned id payload) history is comes = back_law before e history side label id
    payload is comes
fact_of before e (Answer side id value) outcome history is comes = came before e _ _ history is comes
fact_of before e (Refuse side id code text) outcome history is comes = came before e _ _ history is comes
fact_of before e (Cancel side id) outcome history is comes = came before e _ _ history is comes
fact_of before e (GiveUp side id) outcome history is comes = came before e _ _ history is comes
fact_of before e step outcome history is comes = tt

facts_from : (before entries : List Entry) → IsHistory (before ++ entries) → AllFacts (each bared before)
    (each (λ (e : Entry). e.step) entries) (each (λ (e : Entry). e.outcome) entries)
facts_from before [] history = tt
facts_from before (e ∷ entries) history =
    let whole : IsHistory (before ++ e ∷ [] ++ entries) = subst IsHistory (sym (append_assoc before (e ∷ []) entries))
    history in
    let fact = fact_bared (entries_of (side_of e.step) before) (entries_of (other (side_of e.step)) before) e.step
    e.outcome (fact_of before e e.step e.outcome (beginning_of (before ++ e ∷ []) entries whole) refl refl) in
    let own = entries_bared (side_of e.step) before in
    let others = entries_bared (other (side_of e.step)) before in (
      subst (λ (l : List Entry). IsFact l (entries_of (other (side_of e.step)) (each bared before)) e.step e.outcome)
          (sym own) (subst (λ (l : List Entry). IsFact (each bared (entries_of (side_of e.step) before)) l e.step
          e.outcome) (sym others) fact),
      subst (λ (l : List Entry). AllFacts l (each (λ (x : Entry). x.step) entries) (each (λ (x : Entry). x.outcome)
          entries)) (map-append bared before (e ∷ [])) (facts_from (before ++ e ∷ []) entries whole),
    )

pub facts_of : (history : List Entry) → IsHistory history → FactsOf (each (λ entry. entry.step) history)
    (each (λ entry. entry.outcome) history)
facts_of history is = facts_from [] history is

-- ---- what a Take adds to the messages taken

module _ (own others : List Entry) where
  as_message : (m : Message) (ms : List Message) → TakenAs (outcome_of_taking own others m) ms (ms ++ m ∷ [])
  as_message (request id method params) ms = (method, params, refl)
  as_message (response id answer) ms = (answer, refl)
  as_message (notification method params) ms = (method, params, refl)

  took_as : (e : Entry) (side : Side) (label : ℕ) → e.step ≡ Take side label → (o : Option SentFrame)
      → next_sent own others ≡ o → e.outcome ≡ taking own others o → TakenAs e.outcome (messages (frames_taken own
      others)) (messages (frames_taken (own ++ e ∷ []) others))
  took_as e side label by None is comes =
      let none : count_in e.step e.outcome ≡ 0 = λ i. count_in (by i) (comes i) in
      subst (λ (o : Outcome). TakenAs o (messages (frames_taken own others))
      (messages (frames_taken (own ++ e ∷ []) others))) (sym comes) (ap messages (taken_same own others e none))
  took_as e side label by (Some f) is comes =
      let first = next_first _ _ (frames_left own others) f is in
      let one : count_in e.step e.outcome ≡ 1 = (λ i. count_in (by i) (comes i))
      ∙ (comes_of own others side label f.message).0 in
      let more : messages (frames_taken (own ++ e ∷ []) others) ≡ messages (frames_taken own others) ++ f.message ∷ [] =
      ap messages (taken_took own others e one f first.0 first.1) ∙ map-append (λ (l : SentFrame). l.message)
      (frames_taken own others) (f ∷ []) in
      subst (λ (o : Outcome). TakenAs o (messages (frames_taken own others))
      (messages (frames_taken (own ++ e ∷ []) others))) (sym comes) (subst (TakenAs (outcome_of_taking own others
      f.message) (messages (frames_taken own others))) (sym more) (as_message f.message (messages (frames_taken own
      others))))

pub taken_law : (before : List Entry) (e : Entry) → IsHistory (before ++ e ∷ []) → (side : Side) (label : ℕ) → e.step
    ≡ Take side label →
    TakenAs e.outcome (messages (frames_taken (entries_of side before) (entries_of (other side) before)))
    (messages (frames_taken (entries_of side (before ++ e ∷ [])) (entries_of (other side) (before ++ e ∷ []))))
taken_law before e history side label is =
    let by : side_of e.step ≡ side = ap side_of is in
    let own = sym (of_own side before e by) in
    let others = sym (of_other side before e by) in
    subst (λ (l : List SentFrame). TakenAs e.outcome (messages (frames_taken (entries_of side before)
    (entries_of (other side) before))) (messages l)) (λ i. frames_taken (own i) (others i))
    (took_as (entries_of side before) (entries_of (other side) before) e side label is _ refl (came before e
    (Take side label) e.outcome history is refl))

-- the same of the messages behind those that were handed out
behind : (outcome : Outcome) (handed old new : List Message) → TakenAs outcome (handed ++ old) (handed ++ new)
    → TakenAs outcome old new
behind (Arrived id) handed old new told = (
  told.0,
  told.1,
  append_cancel_left handed _ _ (told.2 ∙ append_assoc handed old (request id told.0 told.1 ∷ [])),
)
behind (Returned id payload) handed old new told = (
  told.0,
  append_cancel_left handed _ _ (told.1 ∙ append_assoc handed old (response id told.0 ∷ [])),
)
behind Notified handed old new told = (
  told.0,
  told.1,
  append_cancel_left handed _ _ (told.2 ∙ append_assoc handed old (notification told.0 told.1 ∷ [])),
)
behind outcome handed old new told = append_cancel_left handed _ _ told

pub last_taken : (world new : World) (handed : Side → List Message) (before : List Entry) (e : Entry) → WorldAfter world
    handed before → WorldAfter new handed (before ++ e ∷ []) → (side : Side) (label : ℕ) → e.step ≡ Take side label →
    TakenAs e.outcome (each message_view (seen_at side world).taken) (each message_view (seen_at side new).taken)
last_taken world new handed before e was now side label is =
    behind e.outcome (handed side) _ _ (subst (λ (l : List Message). TakenAs e.outcome l (handed side
    ++ each message_view (seen_at side new).taken)) (sym (was.sides side).took) (subst (TakenAs e.outcome (messages
    (frames_taken (entries_of side before) (entries_of (other side) before)))) (sym (now.sides side).took)
    (taken_law before e now.lawful side label is)))
