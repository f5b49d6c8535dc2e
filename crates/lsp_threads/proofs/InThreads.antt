-- A session in threads that is described otherwise.
use Rattle.std.proofs.Common.{Bool, ℕ, List, Option, Some, None, IfSome, Result, Ok, Err}
use Rattle.std.specs.Prelude.{IfOk}
use Rattle.lsp_message.specs.Told.{Parts}
use Rattle.lsp_message.specs.declared.frame.ReadFault.{ReadFault}
use Rattle.lsp_message.specs.declared.frame.byte_trace.ByteTrace.{ByteTrace}
use Rattle.lsp_message.specs.declared.frame.limits.Limits.{Limits}
use Rattle.lsp_session.proofs.Lending.{over_as}
use Rattle.lsp_session.specs.PassingBytes.{SkipsNoContent}
use Rattle.lsp_session.specs.Session.{Exchange, SessionAnswer, SessionPart, Stop}
use Rattle.lsp_session.specs.declared.loops.handler.SessionEnd.{SessionEnd}
use Rattle.lsp_session.specs.declared.loops.stream_session.SessionFault.{SessionFault}
use Rattle.lsp_threads.proofs.Sessions.{none_passed}
use Rattle.lsp_threads.specs.InThreads.{InThreads, ServesInThreads}
use Rattle.lsp_threads.specs.Threads.{ThreadsGiveOver}
use Rattle.lsp_threads.specs.Writes.{Begun}
use Rattle.lsp_threads.specs.declared.run.ThreadsOutcome.{ThreadsOutcome}

-- from one way of telling to another
module _ (Tells Says : SessionPart → List ℕ → Option (List ℕ) → Option (List ℕ) → Type 0)
    (InOrder AsSaid : List Begun → Parts → SessionPart)
    (says : (P Q : SessionPart) → ((xs : List Exchange) (stop : Stop) (answer : SessionAnswer) → P xs stop answer
    → Q xs stop answer) → (text : List ℕ) (before after : Option (List ℕ)) → Tells P text before after
    → Says Q text before after)
    (ordered : (writes : List Begun) (given : Parts) (xs : List Exchange) (stop : Stop) (answer : SessionAnswer)
    → InOrder writes given xs stop answer → AsSaid writes given xs stop answer)
    (P Q : SessionPart) (to : (xs : List Exchange) (stop : Stop) (answer : SessionAnswer) → P xs stop answer
    → Q xs stop answer) where
  of_known : (known before after : Option (List ℕ)) → IfSome known (λ text. Tells P text before after)
      → IfSome known (λ text. Says Q text before after)
  of_known None before after tells = tt
  of_known (Some text) before after tells = says P Q to text before after tells

  pub in_threads_as : {known before after : Option (List ℕ)} {taken given : ByteTrace} {writes : List Begun}
      {answer : Result SessionEnd SessionFault}
      → InThreads Tells InOrder P known before after taken given writes answer
      → InThreads Says AsSaid Q known before after taken given writes answer
  in_threads_as {known} {before} {after} {taken} {given} {writes} {answer} is = record {
    session = of_known known before after is.session;
    read = is.read;
    written = is.written;
    told = λ rest ends. says _ _ (λ xs stop answer both. (
      (to xs stop answer both.0.0, both.0.1),
      ordered writes given.parts xs stop answer both.1,
    )) _ _ _ (is.told rest ends);
    flushed = is.flushed;
    writer = is.writer;
  }

-- the result of a session that asks a policy, if both threads were started
pub outcome_as : {W F L : Type 0} (contents : W → Option (List ℕ)) (wakeable : Bool)
    (passes : L → ReadFault → L → Type 0) (limits : Limits) (first last : L) (P Q : SessionPart)
    (to : (xs : List Exchange) (stop : Stop) (answer : SessionAnswer) → P xs stop answer → Q xs stop answer)
    (known before : Option (List ℕ)) (result : Result (ThreadsOutcome W) F)
    → IfOk result (λ done. ServesInThreads wakeable passes limits first last P known before (contents done.writer)
    done.taken done.given done.order done.answer)
    → IfOk result (λ done. ServesInThreads wakeable passes limits first last Q known before (contents done.writer)
    done.taken done.given done.order done.answer)
outcome_as contents wakeable passes limits first last P Q to known before (Ok done) serves =
    in_threads_as _ _ _ _ (λ R S by text old new. over_as R S by _ (text, first) _ _)
    (λ writes given xs stop answer is. is) P Q to serves
outcome_as contents wakeable passes limits first last P Q to known before (Err fault) serves = tt

-- the same if the policy skips nothing: what it did if its reader's bytes are known
pub outcome_alone : {W F L : Type 0} (contents : W → Option (List ℕ)) (wakeable : Bool)
    (passes : L → ReadFault → L → Type 0) (limits : Limits) (first last : L) (never : SkipsNoContent passes)
    (P : SessionPart) (known before : Option (List ℕ)) (result : Result (ThreadsOutcome W) F)
    → IfOk result (λ done. ServesInThreads wakeable passes limits first last P known before (contents done.writer)
    done.taken done.given done.order done.answer)
    → IfOk result (λ done. IfSome known (λ text. ThreadsGiveOver wakeable limits P text before (contents done.writer)
    done.answer))
outcome_alone contents wakeable passes limits first last never P None before (Ok done) serves = tt
outcome_alone contents wakeable passes limits first last never P (Some text) before (Ok done) serves =
    none_passed wakeable passes limits first last never P text before (contents done.writer) done.answer serves.session
outcome_alone contents wakeable passes limits first last never P known before (Err fault) serves = tt
