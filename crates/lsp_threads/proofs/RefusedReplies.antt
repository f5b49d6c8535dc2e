-- What an outbox of replies may not do: send after a refusal, take back what it sent, hide a refusal, hold a reply
-- while the inbox waits.
use Rattle.std.proofs.Common.{◌≡◌, refl, sym, ◌∙◌, ap, true, false, true≢false, ℕ, List, [], ◌∷◌, Option, None, Some}
use Rattle.std.proofs.Common.{Ok, Err}
use Rattle.lsp_message.specs.Message.{Message}
use Rattle.lsp_message.specs.declared.frame.WriteFault.TheVariants.{Memory as NoMemory}
use Rattle.lsp_session.specs.Session.{refused}
use Rattle.lsp_session.specs.declared.lifecycle.SendFault.{SendFault}
use Rattle.lsp_session.specs.declared.lifecycle.SendFault.TheVariants.{Closed, Memory}
use Rattle.lsp_message.specs.declared.frame.ReadFault.{ReadFault}
use Rattle.lsp_session.specs.Event.{Event}
use Rattle.lsp_threads.specs.Replies.{Replying, RepliesSend, reply_fault, WritesReplies}
use Rattle.lsp_threads.specs.ThreadEnds.{EndsGive, IsReadyToWait}
use Rattle.lsp_threads.specs.declared.thread_ends.ThreadEnds.{ThreadEnds}

-- a frame of a message is sent though an earlier one was refused
pub refuses_a_send_after_a_refusal : (old new : Replying) (m : Message) → old.failed ≡ true → RepliesSend old m
    (Ok tt) new → ⊥
refuses_a_send_after_a_refusal old new m failed sent = true≢false (sym failed ∙ sent.1)

-- a message is refused, and the outbox does not say so
pub refuses_a_silent_refusal : (old new : Replying) (m : Message) (fault : SendFault) → new.failed ≡ false
    → RepliesSend old m (Err fault) new → ⊥
refuses_a_silent_refusal old new m (Closed back) silent sent = sent
refuses_a_silent_refusal old new m (Memory back) silent sent = true≢false (sym (ap (λ (r : Replying). r.failed) sent)
    ∙ silent)

-- a part of a frame that was refused is not sent
pub refusal_sends_nothing : (old new : Replying) (m : Message) (fault : SendFault) → RepliesSend old m (Err fault) new
    → new.bytes ≡ old.bytes
refusal_sends_nothing old new m (Closed back) sent = absurd sent
refusal_sends_nothing old new m (Memory back) sent = ap (λ (r : Replying). r.bytes) sent

-- a session stopped at a refusal, and its output is told to be whole
pub refuses_a_whole_output : (fault : SendFault) (sends : List Message) (a b : Option (List ℕ))
    → WritesReplies (refused fault) sends None a b → ⊥
refuses_a_whole_output fault sends a b written = written.0

-- no refusal is lost
pub refusal_is_told : reply_fault None true ≡ Some NoMemory
refusal_is_told = refl

-- a reply is held while the inbox waits for a content part, or after that
pub refuses_a_wait_with_a_held_reply : {R L : Type 0} (ends : ThreadEnds R L) (byte : ℕ) (bytes : List ℕ)
    → ends.parts.now.waiting ≡ [] → ends.outbox.now.held ≡ byte ∷ bytes → IsReadyToWait ends → ⊥
refuses_a_wait_with_a_held_reply ends byte bytes none held ready = absurd (cc (held, ready none))

pub refuses_a_reply_held_over_a_wait : {R L : Type 0} (passes : L → ReadFault → L → Type 0) (old new : ThreadEnds R L)
    (event : Event) (byte : ℕ) (bytes : List ℕ) → old.parts.now.waiting ≡ [] → new.outbox.now.held ≡ byte ∷ bytes
    → EndsGive passes old event new → ⊥
refuses_a_reply_held_over_a_wait passes old new event byte bytes none held gives = absurd (cc (held, gives.2 none))
