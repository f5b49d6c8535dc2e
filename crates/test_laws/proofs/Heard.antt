-- A notification that documents took.
use Rattle.std.proofs.Common.{◌≡◌, Option, Some, None}
use Rattle.std.specs.Prelude.{IsSomeAnd, MatchOption, Result}
use Rattle.serde_json.specs.Data.{Data}
use Rattle.lsp_documents.specs.Heard.{Answers}
use Rattle.lsp_documents.specs.declared.documents.TextDocuments.{TextDocuments}
use Rattle.lsp_documents.specs.declared.fault.DocumentUpdate.{DocumentUpdate}
use Rattle.lsp_documents.specs.declared.fault.UpdateFault.{UpdateFault}
use Rattle.lsp_documents.specs.declared.method.DocumentMethod.{DocumentMethod}

module _ (before now : TextDocuments) (params : Data) where
  pub applied : (method : Option DocumentMethod) (result : Option (Result DocumentUpdate UpdateFault))
      → MatchOption method ((result ≡ None) × (now ≡ before))
      (λ m. IsSomeAnd result (λ heard. Answers m before params heard now))
      → MatchOption method (now ≡ before)
      (λ m. (heard : Result DocumentUpdate UpdateFault) × Answers m before params heard now)
  applied None result said = said.1
  applied (Some m) None said = absurd said
  applied (Some m) (Some heard) said = (heard, said)
