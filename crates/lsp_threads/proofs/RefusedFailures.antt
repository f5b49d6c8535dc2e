-- Reports of failures that a session in threads never makes.
use Rattle.std.proofs.Common.{◌≡◌, ◌≢◌, refl, sym, ◌∙◌, ⊎_elim, ℕ, ◌-◌, ◌^◌, ◌≤◌, ◌<◌, List, [], ◌∷◌, ◌++◌, length}
use Rattle.std.proofs.Common.{ap, arith, Err}
use Rattle.std.specs.List.{concat}
use Rattle.std.specs.declared.io.ErrorKind.{ErrorKind}
use Rattle.lsp_message.specs.Failures.{Kinds}
use Rattle.lsp_message.specs.declared.frame.ReadFault.TheVariants.{Input}
use Rattle.lsp_message.specs.declared.frame.WriteFault.TheVariants.{Output}
use Rattle.lsp_message.specs.declared.frame.byte_trace.ByteTrace.{ByteTrace}
use Rattle.lsp_session.specs.Session.{Exchange, SessionAnswer, Stop}
use Rattle.lsp_session.specs.declared.loops.stream_session.SessionFault.TheVariants.{Read, Write}
use Rattle.lsp_threads.specs.Threads.{ReportsReader, ReportsWriter}

ends_nowhere : (tried : Kinds) (kind : ErrorKind) → [] ≡ tried ++ kind ∷ [] → ⊥
ends_nowhere [] kind is = cc (is)
ends_nowhere (first ∷ tried) kind is = cc (is)

module _ (taken : ByteTrace) (xs : List Exchange) (stop : Stop) (answer : SessionAnswer) (kind : ErrorKind)
    (few : length (concat taken.parts) < 2 ^ 64 - 1) (short : length xs < 2 ^ 64 - 1) where
  -- the reader did not fail
  pub refuses_a_fault_of_a_reader_that_did_not_fail : taken.failed ≡ [] → ReportsReader (Err (Read (Input kind))) taken
      xs stop answer → ⊥
  refuses_a_fault_of_a_reader_that_did_not_fail none reports = ⊎_elim
      (λ fails. ⊎_elim
      (λ last. ends_nowhere last.0 kind (sym none ∙ last.2))
      (λ many. omega (arith, few, many.2, ap length none)) fails)
      (λ many. omega (arith, short, many.1)) reports

-- the writer failed, and the session reports something else
pub refuses_to_hide_a_failure_of_the_writer : (given : ByteTrace) (kind : ErrorKind) (fault : _)
    → given.failed ≡ kind ∷ [] → ReportsWriter (Err (Read fault)) given → ⊥
refuses_to_hide_a_failure_of_the_writer given kind fault is reports = cc (is, reports)

-- the writer did not fail
pub refuses_a_fault_of_a_writer_that_did_not_fail : (given : ByteTrace) (kind : ErrorKind) → given.failed ≡ []
    → ReportsWriter (Err (Write (Output kind))) given → ⊥
refuses_a_fault_of_a_writer_that_did_not_fail given kind none reports = cc (none, reports)
