-- The thread that writes gives what the session sent, in order.
use Rattle.std.proofs.Common.{◌≡◌, sym, refl, ◌∙◌, ap, subst, inl, inr, ℕ, Bool, false, List, [], ◌∷◌, ◌++◌}
use Rattle.std.proofs.Common.{append_assoc, Option, Some, None}
use Rattle.std.specs.List.{concat, FoldsTo}
use mathlib.Core.List.{IsPrefix}
use Rattle.lsp_message.specs.Message.{Message}
use Rattle.lsp_message.specs.Told.{Parts}
use Rattle.lsp_message.specs.declared.frame.ReadFault.{ReadFault}
use Rattle.lsp_message.specs.declared.frame.limits.Limits.{Limits}
use Rattle.lsp_relay.specs.declared.ends.Parcel.{Parcel}
use Rattle.lsp_session.specs.PassingBytes.{SkipsNoContent}
use Rattle.lsp_session.specs.Session.{came_of, Exchange, SessionAnswer, Stop}
use Rattle.lsp_threads.proofs.Writes.{writes-as}
use Rattle.lsp_threads.specs.Order.{Answers, GivesInOrder, MarksAnswer, SkipsNone}
use Rattle.lsp_threads.specs.Threads.{ReadsFrameOrWakes}
use Rattle.lsp_threads.specs.Writes.{AllWrites, Begun, EndsAtMark, IsAmong, KeepsMarks, Mark, marks_of}
use Rattle.lsp_threads.specs.declared.frame_text.FrameText.{FrameText}

within : (a b c : List ℕ) → IsPrefix a b → IsPrefix b c → IsPrefix a c
within a b c first second = (
  first.0 ++ second.0,
  sym (append_assoc a first.0 second.0) ∙ ap (λ l. l ++ second.0) first.1 ∙ second.1,
)

module _ (wakeable : Bool) {L : Type 0} (passes : L → ReadFault → L → Type 0) (limit : Limits)
    (known : Option (List ℕ)) (first : L)
    (xs : List Exchange) (stop : Stop) (answer : SessionAnswer) (marks : List Mark)
    (said : MarksAnswer wakeable passes limit known first marks xs stop answer)
    (taken sent : List (Parcel FrameText)) (keeps : KeepsMarks marks (marks_of sent)) (same : sent ≡ taken) where
  up_to_mark : (now : Parts) (given : List ℕ) → EndsAtMark (marks_of taken) now given
      → Answers wakeable passes limit known first xs now given
  up_to_mark now given (bytes, among, begins) =
      let mark : Mark = record { taken = now; bytes = bytes } in
      let is = said mark (keeps mark (subst (λ l. IsAmong mark (marks_of l)) (sym same) among)) in (
        is.0,
        is.1,
        is.2,
        is.3,
        is.4,
        is.5,
        is.6,
        is.7,
        is.8,
        within given bytes is.7 begins is.9,
      )

  pub given_in_order : (writes : List Begun) (given : Parts) → AllWrites (EndsAtMark (marks_of taken)) writes given
      → GivesInOrder wakeable passes limit known first writes given xs stop answer
  given_in_order writes given all = writes-as (EndsAtMark (marks_of taken)) (Answers wakeable passes limit known first
      xs) up_to_mark writes given all

-- of a policy that skips nothing
module _ {L : Type 0} (passes : L → ReadFault → L → Type 0) (limit : Limits) (known : Option (List ℕ)) (first : L)
    (never : SkipsNoContent passes) where
  alone : (came : List (Option Message)) (from to : List ℕ × L) → FoldsTo (ReadsFrameOrWakes false passes limit) from
      came to → FoldsTo (ReadsFrameOrWakes false SkipsNone limit) (from.0, tt) came (to.0, tt)
  alone [] from to run = ap (λ (at : List ℕ × L). (at.0, tt)) run
  alone (Some m ∷ came) from to run = ((run.0.0, tt), (run.1.0, refl), alone came run.0 to run.2)
  alone (None ∷ came) from to run = elim run.1 [
    | inl others ↦ (
      (run.0.0, tt),
      inl (others.0, ap (λ (at : List ℕ × L). (at.0, tt)) others.1),
      alone came run.0 to run.2,
    )
    | inr passed ↦ absurd (never from.1 passed.0 run.0.1 passed.3)
  ]

  answers_alone : (xs : List Exchange) (taken : Parts) (bytes : List ℕ) → Answers false passes limit known first xs
      taken bytes → Answers false SkipsNone limit known tt xs taken bytes
  answers_alone xs taken bytes is = (
    is.0,
    is.1,
    is.2,
    (is.3.0, (is.3.1.0, tt), alone (came_of is.0) (concat taken, first) is.3.1 is.3.2),
    is.4,
    is.5,
    is.6,
    is.7,
    is.8,
    is.9,
  )

  -- so it gives in the order of one that skips nothing
  pub in_order_alone : (writes : List Begun) (given : Parts) (xs : List Exchange) (stop : Stop) (answer : SessionAnswer)
      → GivesInOrder false passes limit known first writes given xs stop answer
      → GivesInOrder false SkipsNone limit known tt writes given xs stop answer
  in_order_alone writes given xs stop answer is = writes-as (Answers false passes limit known first xs)
      (Answers false SkipsNone limit known tt xs) (answers_alone xs) writes given is
