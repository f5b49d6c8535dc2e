use Rattle.std.proofs.Common.{false, ℕ, List, Option, Some, None}
use Rattle.std.specs.Prelude.{IfOk, IfSome, Result}
use Rattle.lsp_session.specs.declared.loops.handler.SessionEnd.{SessionEnd}
use Rattle.lsp_session.specs.declared.loops.stream_session.SessionFault.{SessionFault}
use Rattle.serde_json.specs.View.{view}
use Rattle.lsp_server.specs.Frame.{no_limit}
use Rattle.lsp_session.proofs.Lending.{known_as}
use Rattle.lsp_server.specs.Answered.{AnswersRequests}
use Rattle.lsp_server.specs.EndsWell.{EndsWellBetween}
use Rattle.lsp_server.specs.HandlerSession.{of_handler}
use Rattle.lsp_server.specs.Session.{SessionOut, SessionPart}
use Rattle.lsp_server.specs.SessionBytes.{Gives}
use Rattle.lsp_server.specs.SessionLaws.{Both, KeepsOrder}
use Rattle.example_session.specs.contracts.DocumentsHandler.TheImpl as promised
use Rattle.example_session.proofs.serve.Goals as goal

-- what follows from the bytes of a session holds if the reader's bytes are known
when_known : (P : SessionPart) (W : List ℕ → Option (List ℕ) → Option (List ℕ) → Option (List ℕ)
    → Result SessionEnd SessionFault → Type 0) (known left before after : Option (List ℕ))
    (result : Result SessionEnd SessionFault)
    → ((text : List ℕ) → Gives no_limit P text left before after result → W text left before after result)
    → IfSome known (λ text. Gives no_limit P text left before after result)
    → IfSome known (λ text. W text left before after result)
when_known P W None left before after result so gives = tt
when_known P W (Some text) left before after result so gives = so text gives

pub returns-clause-ends_well : goal.returns-clause-ends_well
returns-clause-ends_well g c =
    let ghosts = promised.ghosts in
    let capabilities = view c.args.capabilities in
    let old = c.args.documents.now in
    let new = c.session.new.handler in
    when_known (SessionOut (of_handler ghosts.answer_post ghosts.note_post capabilities) old new)
    (λ text left before after result. IfOk result (λ end. EndsWellBetween ghosts.answer_post ghosts.note_post no_limit
    capabilities old text left before after end new)) _ _ _ _ _
    (λ text gives. c.session_ends_well.ensures no_limit capabilities old new text _ _ _ _ gives) c.session.ensures

pub returns-clause-session : goal.returns-clause-session
returns-clause-session g c =
    let ghosts = promised.ghosts in
    let session = SessionOut (of_handler ghosts.answer_post ghosts.note_post (view c.args.capabilities))
    c.args.documents.now c.session.new.handler in
    known_as session (Both session (Both AnswersRequests (KeepsOrder false false))) (λ xs stop answer out. (
      out,
      c.session_answers_requests.ensures _ _ _ xs stop answer out,
    )) no_limit _ _ _ _ _ c.session.ensures
