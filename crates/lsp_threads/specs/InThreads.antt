-- What a session read and wrote that has a thread for reading and one for writing, and in which order (LSP 3.17, "Base
-- Protocol" and "Server lifecycle").
use Rattle.serde_json.specs.Data.{Data}
use Rattle.std.specs.List.{concat}
use Rattle.std.specs.Prelude.{Bool, false, ℕ, List, [], IfOk, IfSome, Option, Some, Result}
use Rattle.lsp_message.specs.Id.{Id}
use Rattle.lsp_message.specs.Message.{ErrorObject}
use Rattle.lsp_message.specs.Told.{Parts}
use Rattle.lsp_message.specs.declared.frame.ReadFault.{ReadFault}
use Rattle.lsp_message.specs.declared.frame.byte_trace.ByteTrace.{ByteTrace}
use Rattle.lsp_message.specs.declared.frame.limits.Limits.{Limits}
use Rattle.lsp_session.specs.EndsWell.{EndsWell}
use Rattle.lsp_session.specs.Session.{SessionPart}
use Rattle.lsp_session.specs.SessionLaws.{Both}
use Rattle.lsp_session.specs.declared.loops.handler.SessionEnd.{SessionEnd}
use Rattle.lsp_session.specs.declared.loops.stream_session.SessionFault.{SessionFault}
use Rattle.lsp_threads.specs.Order.{GivesInOrder, SkipsNone}
use Rattle.lsp_threads.specs.Passing.{GivenTo, OfTaken, TakenFrom, noted}
use Rattle.lsp_threads.specs.Threads.{FlushesInThreads, ReportsReader, ReportsWriter, ThreadsGive, ThreadsTellOver}
use Rattle.lsp_threads.specs.Writes.{Begun}

-- `Tells` says what a session did: bytes in, to what its writer held before and after. `InOrder` says in which order
-- it gave.
module _ (Tells : SessionPart → List ℕ → Option (List ℕ) → Option (List ℕ) → Type 0)
    (InOrder : List Begun → Parts → SessionPart) where
  -- what a session did that took bytes from its reader, gave bytes to its writer, and began these writes
  pub record InThreads (P : SessionPart) (known before after : Option (List ℕ)) (taken given : ByteTrace)
      (writes : List Begun) (answer : Result SessionEnd SessionFault) : Type 0 where
    -- bytes in to bytes out, if the reader's bytes are known
    pub session : IfSome known (λ text. Tells P text before after)
    -- It took the first bytes of its reader, and its writer got what it gave.
    pub read : TakenFrom known taken.parts
    pub written : GivenTo before given.parts after
    -- The same of each text that begins with the bytes that were taken. It reports a failure of its reader only if
    -- there was one, and it gave no frame before it took the message that this frame answers.
    pub told : OfTaken taken.parts (λ text.
        Tells (Both (Both P (ReportsReader answer taken)) (InOrder writes given.parts)) text (Some []) (noted given))
    -- It flushed all that it gave, unless its writer failed, and reports that exactly if it did.
    pub flushed : FlushesInThreads answer given.parts
    pub writer : ReportsWriter answer given

-- of a session that asks a policy at content parts which are no messages, and that others can wake or not
module _ (wakeable : Bool) {L : Type 0} (passes : L → ReadFault → L → Type 0) (limits : Limits) (first last : L)
    (P : SessionPart) (known before after : Option (List ℕ)) where
  abbrev pub ServesInThreads : ByteTrace → ByteTrace → List Begun → Result SessionEnd SessionFault → Type 0
  ServesInThreads taken given writes answer =
      InThreads (λ Q text old new. ThreadsTellOver wakeable passes limits Q text first last old new answer)
      (GivesInOrder wakeable passes limits known first) P known before after taken given writes answer

-- of a session that passes over nothing, and that nobody can wake: there are bytes that it took, and bytes that it gave
abbrev pub HandlesInThreads : Limits → SessionPart → (known before after : Option (List ℕ))
    → Result SessionEnd SessionFault → Type 0
HandlesInThreads limits P known before after answer = (taken : ByteTrace) × (given : ByteTrace) × (writes : List Begun)
    × InThreads (λ Q text old new. ThreadsGive limits Q text old new answer)
    (GivesInOrder false SkipsNone limits known tt) P known before after taken given writes answer

-- A session of a handler that ended well, by the bytes that were taken and given. The thread that reads may have taken
-- more than the session used, and that is left.
abbrev pub EndsWellInThreads : {H : Type 0} → (H → Id → List ℕ → Data → Result Data ErrorObject → H → Type 0)
    → (H → List ℕ → Data → H → Type 0) → Limits → Data → H → ByteTrace → ByteTrace → Result SessionEnd SessionFault → H
    → Type 0
EndsWellInThreads answers notes limits capabilities old taken given answer new = IfOk answer (λ end. (left : List ℕ)
    × EndsWell answers notes limits capabilities old (concat taken.parts) left (concat given.parts) end new)
