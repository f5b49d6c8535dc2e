-- What a thread that reads and an inbox over content parts may not do at one that is no message.
use Rattle.std.proofs.Common.{arith, ◌≡◌, sym, ◌∙◌, inl, inr, ℕ, true, true≢false, List, Option, Some, Ok, Err}
use Rattle.lsp_message.specs.Frame.{body_means}
use Rattle.lsp_message.specs.Message.{Message}
use Rattle.lsp_message.specs.declared.frame.ReadFault.{ReadFault}
use Rattle.lsp_message.specs.declared.frame.ReadFault.TheVariants.{BodyNotText, NoJson, NoMessage, Batch}
use Rattle.lsp_message.specs.declared.frame.limits.Limits.{Limits}
use Rattle.lsp_session.specs.Event.{Event, message, woken}
use Rattle.lsp_session.specs.Passing.{ended_at_content, is_bad_content}
use Rattle.lsp_session.specs.PassingBoxes.{MayEnd}
use Rattle.lsp_session.specs.declared.loops.ReadEnd.{ReadEnd}
use Rattle.lsp_session.specs.declared.loops.ReadEnd.TheVariants.{Fault}
use Rattle.lsp_threads.specs.Contents.{ContentsListen, OpenGives, PassesPart, Receiving, StopsAt}

-- the thread that reads keeps a content part back that is no message, and ends as it would have ended the session
pub keeps_a_bad_part_back : (limit : Limits) (text : List ℕ) (fault : ReadFault) → is_bad_content fault ≡ true
    → StopsAt limit text (Fault fault) → ⊥
keeps_a_bad_part_back limit text BodyNotText is stops = true≢false stops.0
keeps_a_bad_part_back limit text NoJson is stops = true≢false stops.0
keeps_a_bad_part_back limit text NoMessage is stops = true≢false stops.0
keeps_a_bad_part_back limit text Batch is stops = true≢false stops.0
keeps_a_bad_part_back limit text fault is stops = cc (is)

-- the inbox and its policy
module _ {L : Type 0} (passes : L → ReadFault → L → Type 0) (old new : Receiving × L) where
  -- a message is passed over
  pub passes_a_message : (m : Message) (passes : PassesPart passes old new) → body_means passes.0 ≡ Ok m → ⊥
  passes_a_message m passes means = let e : Ok m ≡ Err passes.1 = sym means ∙ passes.6 in cc (e)

  -- the inbox wakes the session, though no wake of the relay came, and no content part was passed over
  pub wakes_for_nothing : OpenGives passes old woken new → new.0.wakes ≡ old.0.wakes → PassesPart passes old new
  wakes_for_nothing (inl came) same = absurd (omega (arith, came.0.3, same))
  wakes_for_nothing (inr passes) same = passes

  -- the policy passes something at a wake of the relay
  pub hears_of_a_wake : (new.1 ≡ old.1 → ⊥) → OpenGives passes old woken new → PassesPart passes old new
  hears_of_a_wake other (inl came) = absurd (other came.1)
  hears_of_a_wake other (inr passes) = passes

  -- the policy passes something of a message
  pub hears_a_message : (m : Message) → (new.1 ≡ old.1 → ⊥) → OpenGives passes old (message m) new → ⊥
  hears_a_message m other gives = other gives.1

-- if it is to be asked, the messages end at a content part that is no message though the policy never ends them
pub ends_without_leave : {L : Type 0} (ends : L → ReadFault → Type 0) (event : Event) (old new : Receiving × L)
    → ((fault : ReadFault) → ends old.1 fault → ⊥) → ContentsListen ends old event new
    → ended_at_content new.0.end ≡ true → new.0.end ≡ old.0.end
ends_without_leave ends event old new never listens at_body = elim (listens.1 at_body) [
  | inl same ↦ same
  | inr may ↦ absurd (none new.0.end may)
]
  where
    none : (end : Option ReadEnd) → MayEnd ends old.1 end → ⊥
    none (Some (Fault fault)) may = never fault may
    none end may = may
