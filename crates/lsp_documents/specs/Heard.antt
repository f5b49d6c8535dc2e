-- What a server answers to a notification of a document, by its method.
use Rattle.std.specs.Prelude.{◌≡◌, ℕ, Bool, false, List, Option, option_map, Result, IfOk, IfErr, IsSomeAnd}
use Rattle.serde_json.specs.Data.{Data}
use Rattle.lsp_documents.specs.declared.documents.TextDocuments.{TextDocuments}
use Rattle.lsp_documents.specs.declared.fault.DocumentFault.{DocumentFault}
use Rattle.lsp_documents.specs.declared.fault.DocumentUpdate.{DocumentUpdate}
use Rattle.lsp_documents.specs.declared.fault.UpdateFault.{UpdateFault}
use Rattle.lsp_documents.specs.declared.method.DocumentMethod.{DocumentMethod}
use Rattle.lsp_documents.specs.declared.method.DocumentMethod.TheVariants.{DidOpen, DidChange, DidSave, DidClose}
use Rattle.lsp_documents.specs.Held.{documents_of, loses}
use Rattle.lsp_documents.specs.Notices.{Notice, Documents, Took, Failed, FailedSave}
use Rattle.lsp_documents.specs.Params.{uri_from, did_open_in, did_change_in, did_save_in, did_close_in}

-- what params tell of
abbrev pub notice_in : DocumentMethod → Data → Option Notice
notice_in DidOpen params = did_open_in params
notice_in DidChange params = did_change_in params
notice_in DidSave params = did_save_in params
notice_in DidClose params = did_close_in params

-- a notification was not applied
abbrev pub FailedBy : DocumentMethod → Documents → Data → DocumentFault → Documents → Type 0
FailedBy DidOpen before params fault now =
    Failed before (did_open_in params) (uri_from params) fault now
FailedBy DidChange before params fault now =
    Failed before (did_change_in params) (uri_from params) fault now
FailedBy DidSave before params fault now = FailedSave before (did_save_in params) fault now
FailedBy DidClose before params fault now =
    Failed before (did_close_in params) (uri_from params) fault now

-- whether a text was known that is lost now. A save loses none
abbrev pub loses_by : DocumentMethod → TextDocuments → Option (List ℕ) → TextDocuments → Bool
loses_by DidOpen before uri now = loses before uri now
loses_by DidChange before uri now = loses before uri now
loses_by DidSave before uri now = false
loses_by DidClose before uri now = loses before uri now

-- what a notification of this method and these params is answered, with the documents before and after it: what the
-- call of its name says
pub record Answers (method : DocumentMethod) (before : TextDocuments) (params : Data)
    (heard : Result DocumentUpdate UpdateFault) (now : TextDocuments) : Type 0 where
  pub ok : IfOk heard (λ m. IsSomeAnd (notice_in method params) (λ n.
      (m.uri.now ≡ n.uri) × Took (documents_of before) n m.warning (documents_of now)))
  pub err : IfErr heard (λ m.
      FailedBy method (documents_of before) params m.fault (documents_of now))
  pub named : IfErr heard (λ m. option_map (λ s. s.now) m.uri ≡ uri_from params)
  pub lost : IfErr heard (λ m. m.lost ≡ loses_by method before (uri_from params) now)
