-- The documents of a server that applies each notification of its client (LSP 3.17, "Text Document Synchronization"),
-- and what the client told by these.
use Rattle.std.specs.Bool.{MatchBool}
use Rattle.std.specs.Prelude.{◌≡◌, ℕ, Bool, true, false, List, [], ◌∷◌, ◌++◌, Option, Some, None, MatchOption, Result}
use Rattle.lsp_message.specs.Message.{Message, notification}
use Rattle.lsp_documents.specs.declared.documents.TextDocuments.{TextDocuments}
use Rattle.lsp_documents.specs.declared.fault.DocumentUpdate.{DocumentUpdate}
use Rattle.lsp_documents.specs.declared.fault.UpdateFault.{UpdateFault}
use Rattle.lsp_documents.specs.declared.method.DocumentMethod.{DocumentMethod}
use Rattle.lsp_documents.specs.declared.method.DocumentMethod.TheVariants.{DidOpen, DidChange, DidSave, DidClose}
use Rattle.lsp_documents.specs.Heard.{Answers, notice_in}
use Rattle.lsp_documents.specs.Held.{documents_of}
use Rattle.lsp_documents.specs.Methods.{method_named}
use Rattle.lsp_documents.specs.Notices.{MissesAll, Notice, saves, NoticeKind, NoticeKind.opened, NoticeKind.changed}
use Rattle.lsp_documents.specs.Notices.{NoticeKind.saved, NoticeKind.closed}
use Rattle.lsp_documents.specs.Params.{uri_from}

-- no document is open
abbrev pub HasNone : TextDocuments → Type 0
HasNone documents = (uri : List ℕ) → (documents_of documents).held uri ≡ None

-- A notification of a document makes of the documents what it says, if that can be made. No other message changes them.
abbrev pub Applies : TextDocuments → Option Message → TextDocuments → Type 0
Applies before (Some (notification method params)) now = MatchOption (method_named method) (now ≡ before)
    (λ m. (heard : Result DocumentUpdate UpdateFault) × Answers m before params heard now)
Applies before came now = now ≡ before

-- What came, and whether the server took each text for lost before it, since a content part was skipped.
abbrev pub Arrived : Type 0
Arrived = Bool × Option Message

-- A text that is lost is open again once its client sends it whole.
abbrev pub Loses : Bool → TextDocuments → TextDocuments → Type 0
Loses lost before now = MatchBool lost (MissesAll (documents_of before) (documents_of now)) (now ≡ before)

-- messages and wakes, one after another
abbrev pub AppliesAll : TextDocuments → List Arrived → TextDocuments → Type 0
AppliesAll before [] now = now ≡ before
AppliesAll before (a ∷ rest) now =
    (left : TextDocuments) × (next : TextDocuments)
    × Loses a.0 before left × Applies left a.1 next × AppliesAll next rest now

abbrev pub is_save : NoticeKind → Bool
is_save (opened c) = false
is_save (changed version list) = false
is_save (saved text) = true
is_save closed = false

-- What a client may have told by params that have another shape: something of the document that they name, which is no
-- save if the method is another one. If they name none, anything. A save changes no text of the client's.
abbrev pub MayMean : DocumentMethod → Option (List ℕ) → List Notice → Type 0
MayMean DidSave uri meant = (u : List ℕ) × (meant ≡ saves u None ∷ [])
MayMean DidOpen None meant = Unit {0}
MayMean DidChange None meant = Unit {0}
MayMean DidClose None meant = Unit {0}
MayMean method (Some uri) meant =
    (n : Notice) × (n.uri ≡ uri) × (is_save n.kind ≡ false) × (meant ≡ n ∷ [])

-- what a client told of its documents by a message
abbrev pub Means : Option Message → List Notice → Type 0
Means (Some (notification method params)) meant = MatchOption (method_named method) (meant ≡ [])
    (λ m. MatchOption (notice_in m params) (MayMean m (uri_from params) meant) (λ n. meant ≡ n ∷ []))
Means came meant = meant ≡ []

-- What it told by all these. Where the server took each text for lost, the client may have told anything before.
abbrev pub MeansAll : List Arrived → List Notice → Type 0
MeansAll [] meant = meant ≡ []
MeansAll (a ∷ rest) meant =
    (skipped : List Notice) × (own : List Notice) × (more : List Notice)
    × MatchBool a.0 (Unit {0}) (skipped ≡ []) × Means a.1 own × MeansAll rest more
    × (meant ≡ skipped ++ (own ++ more))
