-- A session of a handler in threads that ended well, by the bytes that were taken and given.
use Rattle.lsp_message.specs.Frame.{Begins}
use Rattle.lsp_message.specs.Id.{Id}
use Rattle.lsp_message.specs.Message.{Message, ErrorObject}
use Rattle.lsp_message.specs.declared.frame.ReadFault.{ReadFault}
use Rattle.lsp_message.specs.declared.frame.byte_trace.ByteTrace.{ByteTrace}
use Rattle.lsp_message.specs.declared.frame.limits.Limits.{Limits}
use Rattle.lsp_session.proofs.WellEnded.{ends_after}
use Rattle.lsp_session.specs.EndsWell.{EndsWell}
use Rattle.lsp_session.specs.HandlerSession.{of_handler}
use Rattle.lsp_session.specs.PassingBytes.{SkipsNoContent}
use Rattle.lsp_session.specs.Session.{SessionOut, SessionPart, came_of}
use Rattle.lsp_session.specs.SessionLaws.{Both}
use Rattle.lsp_session.specs.declared.loops.handler.SessionEnd.{SessionEnd}
use Rattle.lsp_session.specs.declared.loops.stream_session.SessionFault.{SessionFault}
use Rattle.lsp_threads.proofs.Sessions.{none_passed}
use Rattle.lsp_threads.specs.InThreads.{EndsWellInThreads, HandlesInThreads, ServesInThreads}
use Rattle.lsp_threads.specs.Order.{GivesInOrder, SkipsNone}
use Rattle.lsp_threads.specs.Passing.{GivenTo, TakenFrom, noted}
use Rattle.lsp_threads.specs.Threads.{ReadsOrWakes, ReportsReader, ThreadsGive, ThreadsTellOver}
use Rattle.lsp_threads.specs.Writes.{Begun}
use Rattle.serde_json.specs.Data.{Data}
use Rattle.std.proofs.Common.{refl, sym, subst, ℕ, false, List, [], ◌∷◌, append-nil, Option, Some, None}
use Rattle.std.specs.List.{FoldsTo, concat, filter_map}
use Rattle.std.specs.Prelude.{Result, Ok, Err}

-- the messages of a text: nobody wakes the session
messages_come : (limit : Limits) (text : List ℕ) (came : List (Option Message)) (at : List ℕ)
    → FoldsTo (ReadsOrWakes false limit) text came at → FoldsTo (Begins limit) text (filter_map (λ c. c) came) at
messages_come limit text [] at read = read
messages_come limit text (Some m ∷ came) at read = (read.0, read.1, messages_come limit read.0 came at read.2)
messages_come limit text (None ∷ came) at read = absurd (cc (read.1.0))

module _ {H : Type 0} (answers : H → Id → List ℕ → Data → Result Data ErrorObject → H → Type 0) (notes : H → List ℕ
    → Data → H → Type 0) (capabilities : Data) (old new : H) (limits : Limits) where
  abbrev Out : SessionPart
  Out = SessionOut (of_handler answers notes capabilities) old new

  abbrev Well : ByteTrace → ByteTrace → Result SessionEnd SessionFault → Type 0
  Well taken given answer = EndsWellInThreads answers notes limits capabilities old taken given answer new

  -- of all that is told about the bytes that were taken
  ends_well : (Q : SessionPart) (taken given : ByteTrace) (answer : Result SessionEnd SessionFault)
      → ThreadsGive limits (Both Out Q) (concat taken.parts) (Some []) (noted given) answer → Well taken given answer
  ends_well Q taken given (Err fault) gives = tt
  ends_well Q taken given (Ok end) gives =
      let xs = gives.exchanges in
      let part : Out xs gives.stop (Ok end) = subst (λ answer. Out xs gives.stop answer) gives.ends.1.0 gives.part.0 in
      let came = messages_come limits (concat taken.parts) (came_of xs) gives.at gives.read in
      let well = ends_after answers notes capabilities old new limits (concat taken.parts) gives.wrote.0 gives.at
      gives.ends.0 xs gives.stop end part came gives.wrote.1 gives.ends.1.1 in (
        well.0,
        subst (λ bytes. EndsWell answers notes limits capabilities old (concat taken.parts) well.0 bytes end new)
            (sym gives.wrote.2) well.2,
      )

  -- what is told about the order and the reader's failures is left out
  regrouped : (R O : SessionPart) (taken given : ByteTrace) (answer : Result SessionEnd SessionFault)
      → ThreadsGive limits (Both (Both Out R) O) (concat taken.parts) (Some []) (noted given) answer
      → Well taken given answer
  regrouped R O taken given answer gives = ends_well (Both R O) taken given answer (record {
    exchanges = gives.exchanges;
    at = gives.at;
    read = gives.read;
    stop = gives.stop;
    answer = gives.answer;
    part = (gives.part.0.0, (gives.part.0.1, gives.part.1));
    ends = gives.ends;
    wrote = gives.wrote;
  })

  -- a session with a policy that skips nothing
  pub of_application : {L : Type 0} (passes : L → ReadFault → L → Type 0) (first last : L)
      (known before after : Option (List ℕ)) (taken given : ByteTrace) (writes : List Begun)
      (answer : Result SessionEnd SessionFault) → SkipsNoContent passes
      → ServesInThreads false passes limits first last Out known before after taken given writes answer
      → Well taken given answer
  of_application passes first last known before after taken given writes answer never serves =
      let R = ReportsReader answer taken in
      let O = GivesInOrder false passes limits known first writes given.parts in
      let P = Both (Both Out R) O in
      let tells = subst (λ text. ThreadsTellOver false passes limits P text first last (Some []) (noted given) answer)
      (append-nil (concat taken.parts)) (serves.told [] (λ shown. refl)) in
      regrouped R O taken given answer (none_passed false passes limits first last never P (concat taken.parts) (Some
      [])
      (noted given) answer tells)

  -- a session of a handler that was lent
  pub of_lent : (known before after : Option (List ℕ)) (answer : Result SessionEnd SessionFault)
      → HandlesInThreads limits Out known before after answer
      → (taken : ByteTrace) × (given : ByteTrace) × TakenFrom known taken.parts × GivenTo before given.parts after
      × Well taken given answer
  of_lent known before after answer (taken, given, writes, ran) =
      let R = ReportsReader answer taken in
      let O = GivesInOrder false SkipsNone limits known tt writes given.parts in (
        taken,
        given,
        ran.read,
        ran.written,
        regrouped R O taken given answer (subst (λ text. ThreadsGive limits
            (Both (Both Out R) O) text (Some []) (noted given) answer) (append-nil (concat taken.parts)) (ran.told []
            (λ shown. refl))),
      )
