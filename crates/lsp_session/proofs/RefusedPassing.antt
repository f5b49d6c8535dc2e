-- Readings that no session has which passes over content parts that are no messages, whatever its policy passes.
use Rattle.std.proofs.Common.{◌≡◌, sym, ◌∙◌, ap, ℕ, true, false, List, ◌∷◌, Option, Some, None}
use Rattle.std.specs.List.{FoldsTo}
use Rattle.std.specs.Prelude.{Result, Ok, Err}
use Rattle.lsp_message.specs.Frame.{Begins, reading_within}
use Rattle.lsp_message.specs.Message.{Message}
use Rattle.lsp_message.specs.Reading.{Reading}
use Rattle.lsp_message.specs.declared.frame.ReadFault.{ReadFault}
use Rattle.lsp_message.specs.declared.frame.limits.Limits.{Limits}
use Rattle.lsp_session.specs.Session.{no_more}
use Rattle.lsp_session.specs.Passing.{is_bad_content}
use Rattle.lsp_session.specs.PassingBytes.{PassesOver, ReadsFrame, HearsLast}

module _ {L : Type 0} (passes : L → ReadFault → L → Type 0) (limit : Limits) where
  -- what a reading came to
  abbrev outcome_at : (text : List ℕ) → Result (Option Message) ReadFault
  outcome_at text = (reading_within limit text).outcome

  -- if nothing that is no message stands, none is passed over
  passed : (text rest : List ℕ) (old new : L) → PassesOver passes limit (text, old) (rest, new) → (fault : ReadFault)
      × (is_bad_content fault ≡ true) × (outcome_at text ≡ Err fault)
  passed text rest old new passes = (passes.0, passes.1, ap (λ (r : Reading Message). r.outcome) passes.2)

  -- a message is passed over
  pub passes_a_message : (text rest next : List ℕ) (m : Message) (old new : L) → Begins limit text m rest
      → PassesOver passes limit (text, old) (next, new) → ⊥
  passes_a_message text rest next m old new begins passes =
      let seen = passed text next old new passes in
      let e : Ok (Some m) ≡ Err seen.0 = sym (ap (λ (r : Reading Message). r.outcome) begins) ∙ seen.2 in
      cc (e)

  -- the session is woken, and the text has ended
  pub woken_at_the_end : (text : List ℕ) (old : L) (came : List (Option Message)) (at : List ℕ × L) → outcome_at text
      ≡ Ok None
      → FoldsTo (ReadsFrame passes limit) (text, old) (None ∷ came) at → ⊥
  woken_at_the_end text old came at ended run =
      let seen = passed text run.0.0 old run.0.1 run.1 in
      let e : Ok None ≡ Err seen.0 = sym ended ∙ seen.2 in
      cc (e)

  -- a fault of another kind is passed over: a header that is none, or a content part that is too long
  pub passes_a_header : (text rest : List ℕ) (fault : ReadFault) (old new : L) → outcome_at text ≡ Err fault
      → is_bad_content fault ≡ false
      → PassesOver passes limit (text, old) (rest, new) → ⊥
  passes_a_header text rest fault old new came other passes =
      let seen = passed text rest old new passes in
      let both : Err fault ≡ Err seen.0 = sym came ∙ seen.2 in
      let same : fault ≡ seen.0 = cc (both) in
      let e : true ≡ false = sym seen.1 ∙ ap (λ (f : ReadFault). is_bad_content f) (sym same) ∙ other in
      cc (e)

  -- what is no message is read as one
  pub reads_no_message : (text rest : List ℕ) (m : Message) (fault : ReadFault) (old new : L) → outcome_at text
      ≡ Err fault
      → ReadsFrame passes limit (text, old) (Some m) (rest, new) → ⊥
  reads_no_message text rest m fault old new came read =
      let e : Err fault ≡ Ok (Some m) = sym came ∙ ap (λ (r : Reading Message). r.outcome) read.0 in
      cc (e)

  -- the policy passes something of a message
  pub hears_a_message : (text rest : List ℕ) (m : Message) (old new : L) → (new ≡ old → ⊥) → ReadsFrame passes limit
      (text, old) (Some m) (rest, new) → ⊥
  hears_a_message text rest m old new other read = other read.1

  -- the policy passes more after the text has ended
  pub hears_on : (at : List ℕ × L) (last : L) → (last ≡ at.1 → ⊥) → HearsLast passes limit no_more at last → ⊥
  hears_on at last other policy = other policy
