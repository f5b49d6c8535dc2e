-- What the bytes of a frame come to as a message, from what they come to as a content part.
use Rattle.std.proofs.Common.{◌≡◌, refl, sym, ap, subst, ◌∙◌, inl, inr, ℕ, List, [], ◌++◌}
use Rattle.std.proofs.Common.{Option, Some, None, Result, Ok, Err}
use Rattle.lsp_message.proofs.ContentParts.{content_outcome, end_outcome, fault_outcome, same_rest}
use Rattle.lsp_message.proofs.FrameInputs.{header_leaves}
use Rattle.lsp_message.specs.Frame.{body_means, content_within, reading_within}
use Rattle.lsp_message.specs.FrameInput.{AwaitsMore, IsFrameRead as IsContentRead, RanOut as RanOutBefore}
use Rattle.lsp_message.specs.FrameInput.{BeginsWithFault as ContentBegins, IsEndOf as IsContentEnd}
use Rattle.lsp_message.specs.Message.{Message}
use Rattle.lsp_message.specs.Reading.{Reading, found}
use Rattle.lsp_message.specs.ReadingSteps.{Decodes}
use Rattle.lsp_message.specs.declared.frame.ReadFault.{ReadFault}
use Rattle.lsp_message.specs.declared.frame.ReadFault.TheVariants.{Memory}
use Rattle.lsp_message.specs.declared.frame.limits.Limits.{Limits}
use Rattle.lsp_session.specs.ByteSession.{BeginsWithFault, IsEndOf, IsFrameRead}
use Rattle.lsp_session.specs.declared.loops.ReadEnd.TheVariants.{End as AtEnd, Fault as AtFault}

by_parts : {A : Type 0} (r : Reading A) (o : Result (Option A) ReadFault) (rest : List ℕ) → r.outcome ≡ o
    → r.rest ≡ rest → r ≡ record { outcome = o; rest = rest }
by_parts r o rest outcome left = subst (λ x. r ≡ record { outcome = x; rest = rest }) outcome
    (subst (λ l. r ≡ record { outcome = r.outcome; rest = l }) left refl)

module _ (limits : Limits) where
  outcome_as : {A : Type 0} {a b : Reading A} → a ≡ b → a.outcome ≡ b.outcome
  outcome_as same = ap (λ r. r.outcome) same

  -- the bytes that are left
  left_as : (text rest : List ℕ) → (content_within limits text).rest ≡ rest → (reading_within limits text).rest ≡ rest
  left_as text rest left = same_rest body_means limits text ∙ left

  -- all bytes of the text are taken for the first answer
  pub taken_as : (text : List ℕ) → ((rest : List ℕ) → (read : List ℕ) × (rest ≡ read ++ (content_within limits
      (text ++ rest)).rest)) → (rest : List ℕ) → (read : List ℕ) × (rest ≡ read ++ (reading_within limits
      (text ++ rest)).rest)
  taken_as text within rest = (
    (within rest).0,
    (within rest).1 ∙ ap (λ l. (within rest).0 ++ l) (sym (same_rest body_means limits (text ++ rest))),
  )

  -- a frame with this content part is read as what that means
  means_as : (content text rest : List ℕ) → IsContentRead limits content text → (means : Result Message ReadFault)
      → body_means content ≡ means
      → reading_within limits (text ++ rest) ≡ record { outcome = found means; rest = rest }
  means_as content text rest whole means is = by_parts (reading_within limits (text ++ rest)) (found means) rest
      (content_outcome body_means limits (text ++ rest) content (outcome_as (whole rest)) ∙ ap found is)
      (left_as (text ++ rest) rest (ap (λ r. r.rest) (whole rest)))

  -- the frame of a message
  pub message_read : (content text : List ℕ) (m : Message) → IsContentRead limits content text
      → body_means content ≡ Ok m → IsFrameRead limits m text
  message_read content text m whole is = λ rest. means_as content text rest whole (Ok m) is

  -- the frame of a content part of which no message was made
  pub frame_refused : {X : Type 0} (view : X → Message) (content text : List ℕ) (fault : ReadFault)
      → IsContentRead limits content text → Decodes {X = X} view (Err fault) (body_means content)
      → BeginsWithFault limits text fault
  frame_refused view content text Memory whole decodes = record {
    place = inr (content, whole);
    within = λ rest. ([], sym (left_as (text ++ rest) rest (ap (λ r. r.rest) (whole rest))));
  }
  frame_refused view content text fault whole decodes = λ rest. means_as content text rest whole (Err fault) decodes

  -- bytes that no frame follows
  pub fault_begins : (text : List ℕ) (count : ℕ) (fault : ReadFault) → ContentBegins limits text fault
      → (fault ≡ Memory → RanOutBefore limits text count) → BeginsWithFault limits text fault
  fault_begins text count Memory begins ran = record {
    place = inl (count, ran refl);
    within = taken_as text begins;
  }
  fault_begins text count fault begins ran = λ rest. by_parts (reading_within limits (text ++ rest)) (Err fault) rest
      (fault_outcome body_means limits (text ++ rest) fault (outcome_as (begins rest)))
      (left_as (text ++ rest) rest (ap (λ r. r.rest) (begins rest)))

  -- the end of the input
  pub ends_here : (text : List ℕ) → IsContentEnd limits text None → IsEndOf limits text AtEnd
  ends_here text is = by_parts (reading_within limits text) (Ok None) [] (end_outcome body_means limits text
      (outcome_as is)) (left_as text [] (ap (λ r. r.rest) is))

  pub ends_in_fault : (text : List ℕ) (fault : ReadFault) → IsContentEnd limits text (Some fault)
      → IsEndOf limits text (AtFault fault)
  ends_in_fault text Memory is = record {
    place = inl (0, inl is);
    within = taken_as text (header_leaves limits text is.0 is.1);
  }
  ends_in_fault text fault is = by_parts (reading_within limits text) (Err fault) [] (fault_outcome body_means limits
      text fault (outcome_as is)) (left_as text [] (ap (λ r. r.rest) is))

  -- bytes of a frame that is not whole
  pub awaits_within : (text : List ℕ) → AwaitsMore limits text → (rest : List ℕ) → (read : List ℕ) × (rest
      ≡ read ++ (reading_within limits (text ++ rest)).rest)
  awaits_within text awaits = taken_as text awaits.within
