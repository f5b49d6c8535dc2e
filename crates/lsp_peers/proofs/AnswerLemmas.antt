-- A reply that is taken was written by the other side, in an entry that answers its request.
use Rattle.std.proofs.Common.{◌≡◌, List, [], ◌∷◌, ◌++◌, refl, sym, ap, ◌∙◌, subst, append_assoc, take-append-drop}
use Rattle.std.proofs.lemmas.List.{map-append}
use Rattle.std.specs.Prelude.{ℕ, Option, Result, map as each}
use Rattle.serde_json.specs.Data.{Data}
use Rattle.lsp_message.specs.Id.{Id}
use Rattle.lsp_message.specs.Message.{Message, ErrorObject, response}
use Rattle.lsp_message.specs.View.{message_view}
use Rattle.lsp_peers.specs.declared.step.Outcome.{Outcome}
use Rattle.lsp_peers.specs.declared.step.Outcome.TheVariants.{Registered, Told, Returned, Answered, Cancelled}
use Rattle.lsp_peers.specs.declared.step.Side.{Side}
use Rattle.lsp_peers.specs.declared.step.Side.TheVariants.{A, B}
use Rattle.lsp_peers.specs.declared.step.Step.{Step}
use Rattle.lsp_peers.specs.declared.step.Step.TheVariants.{Register, Tell, Take, Answer, Refuse, Cancel}
use Rattle.lsp_peers.specs.declared.world.World.{World}
use Rattle.lsp_peers.specs.Exchange.{WorldAfter, seen_at}
use Rattle.lsp_peers.specs.History.{Entry, written_in, taken_count, frames_written, frames_taken, frames_left, only_of}
use Rattle.lsp_peers.specs.History.{entries_of, AllFollow}
use Rattle.lsp_peers.specs.HistoryLaw.{TakenAs, AnsweredBy}
use Rattle.lsp_peers.specs.SentFrame.{SentFrame, messages}
use Rattle.lsp_peers.specs.Sides.{side_of, other}
use Rattle.lsp_peers.proofs.Entries.{of_other}
use Rattle.lsp_peers.proofs.FactLemmas.{last_taken}

-- an entry writes at most one message
at_most_one : (step : Step) (outcome : Outcome) (x y : Message) (rest : List Message) → written_in step outcome ≡ x ∷ y
    ∷ rest → ⊥
at_most_one (Register side method params payload) (Registered id) x y rest two = cc
at_most_one (Tell side method params) Told x y rest two = cc
at_most_one (Answer side id value) (Answered label) x y rest two = cc
at_most_one (Refuse side id code text) (Answered label) x y rest two = cc
at_most_one (Cancel side id) Cancelled x y rest two = cc
at_most_one step outcome x y rest two = cc

module _ (side : Side) (id : Id) (answer : Result Data ErrorObject) where
  abbrev message : Message
  message = response id answer

  -- one more entry stands before those
  wrote_later : (history : List Entry) (e : Entry) → AnsweredBy side id answer history → AnsweredBy side id answer (e
      ∷ history)
  wrote_later history e found = record {
    earlier = e ∷ found.earlier;
    entry = found.entry;
    later = found.later;
    history_is = ap (λ (l : List Entry). e ∷ l) found.history_is;
    by = found.by;
    wrote = found.wrote;
  }

  -- the messages that an entry wrote stand before those of the others
  wrote_in : (e : Entry) (history : List Entry) (ws : List Message) (xs ys : List Message) → side_of e.step ≡ side
      → written_in e.step e.outcome ≡ ws →
      ws ++ messages (frames_written (entries_of side history)) ≡ xs ++ message ∷ ys →
      ((us vs : List Message) → messages (frames_written (entries_of side history)) ≡ us ++ message ∷ vs
      → AnsweredBy side id answer history) → AnsweredBy side id answer (e ∷ history)
  wrote_in e history [] xs ys by is whole rest = wrote_later history e (rest xs ys whole)
  wrote_in e history (w ∷ []) [] ys by is whole rest =
      let same : w ≡ message = cc in
      record {
        earlier = [];
        entry = e;
        later = history;
        history_is = refl;
        by = by;
        wrote = is ∙ ap (λ (m : Message). m
            ∷ []) same;
      }
  wrote_in e history (w ∷ []) (x ∷ xs) ys by is whole rest =
      let tail : messages (frames_written (entries_of side history)) ≡ xs ++ message ∷ ys = cc in
      wrote_later history e (rest xs ys tail)
  wrote_in e history (w ∷ v ∷ ws) xs ys by is whole rest = absurd (at_most_one e.step e.outcome w v ws is)

  written_of : (e : Entry) (entries : List Entry) → messages e.wrote ≡ written_in e.step e.outcome
      → messages (frames_written (e ∷ entries)) ≡ written_in e.step e.outcome ++ messages (frames_written entries)
  written_of e entries is = map-append (λ (l : SentFrame). l.message) e.wrote (frames_written entries)
      ∙ ap (λ (l : List Message). l ++ messages (frames_written entries)) is

  wrote_step : (s t : Side) (e : Entry) (history : List Entry) (xs ys : List Message) → side ≡ s → side_of e.step ≡ t
      → messages e.wrote ≡ written_in e.step e.outcome →
      messages (frames_written (only_of s t e ++ entries_of side history)) ≡ xs ++ message ∷ ys →
      ((us vs : List Message) → messages (frames_written (entries_of side history)) ≡ us ++ message ∷ vs
      → AnsweredBy side id answer history) → AnsweredBy side id answer (e ∷ history)
  wrote_step A A e history xs ys ours theirs is whole rest = wrote_in e history _ xs ys (theirs ∙ sym ours) refl
      (sym (written_of e (entries_of side history) is) ∙ whole) rest
  wrote_step B B e history xs ys ours theirs is whole rest = wrote_in e history _ xs ys (theirs ∙ sym ours) refl
      (sym (written_of e (entries_of side history) is) ∙ whole) rest
  wrote_step A B e history xs ys ours theirs is whole rest = wrote_later history e (rest xs ys whole)
  wrote_step B A e history xs ys ours theirs is whole rest = wrote_later history e (rest xs ys whole)

  wrote_from : (before history : List Entry) → AllFollow before history → (xs ys : List Message)
      → messages (frames_written (entries_of side history)) ≡ xs ++ message ∷ ys → AnsweredBy side id answer history
  wrote_from before [] happen [] ys is = cc
  wrote_from before [] happen (x ∷ xs) ys is = cc
  wrote_from before (e ∷ history) happen xs ys is =
      wrote_step side (side_of e.step) e history xs ys refl refl happen.0.wrote_is is (λ us vs more. wrote_from (before
      ++ e ∷ []) history happen.1 us vs more)

pub answered_law : (world new : World) (handed : Side → List Message) (before : List Entry) (e : Entry)
    → WorldAfter world handed before → WorldAfter new handed (before ++ e ∷ []) → (side : Side) (label : ℕ) (id : Id)
    (payload : Option ℕ) →
    e.step ≡ Take side label → e.outcome ≡ Returned id payload → (answer : Result Data ErrorObject)
    × (each message_view (seen_at side new).taken ≡ each message_view (seen_at side world).taken ++ response id answer
    ∷ []) × AnsweredBy (other side) id answer before
answered_law world new handed before e was now side label id payload is comes =
    let told : TakenAs (Returned id payload) (each message_view (seen_at side world).taken) (each message_view
    (seen_at side new).taken) =
    subst (λ (o : Outcome). TakenAs o (each message_view (seen_at side world).taken) (each message_view
    (seen_at side new).taken)) comes (last_taken world new handed before e was now side label is) in
    let answer : Result Data ErrorObject = told.0 in
    let by : side_of e.step ≡ side = ap side_of is in
    let own : List Entry = entries_of side (before ++ e ∷ []) in
    let others : List Entry = entries_of (other side) (before ++ e ∷ []) in
    let first : List Message = handed side ++ each message_view (seen_at side world).taken in
    let took : first ++ response id answer ∷ [] ≡ messages (frames_taken own others) =
    append_assoc (handed side) (each message_view (seen_at side world).taken) (response id answer ∷ [])
    ∙ ap (λ (l : List Message). handed side ++ l) (sym told.1) ∙ (now.sides side).took in
    let all : messages (frames_written others) ≡ first ++ response id answer ∷ messages (frames_left own others) =
    ap messages (sym (take-append-drop (taken_count own) (frames_written others)))
    ∙ map-append (λ (l : SentFrame). l.message) (frames_taken own others) (frames_left own others)
    ∙ ap (λ (l : List Message). l ++ messages (frames_left own others)) (sym took) ∙ append_assoc first
    (response id answer ∷ []) (messages (frames_left own others)) in (
      answer,
      told.1,
      wrote_from (other side) id answer [] before was.lawful first (messages (frames_left own others))
          (ap (λ (l : List Entry). messages (frames_written l)) (sym (of_other side before e by)) ∙ all),
    )
