-- What a client tells of documents, and which are open (LSP 3.17, "Text Document Synchronization").
use Rattle.std.specs.Prelude.{ℕ, ℤ, int_lt, Bool, false, not, List, [], ◌∷◌, Option, Some, None, option_map}
use Rattle.std.specs.Prelude.{option_and_then, if◌then◌else◌, codes}
use Rattle.std.specs.Str.{bytes_eq}
use Rattle.serde_json.specs.Data.{Data, null}
use Rattle.serde_json.specs.Find.{get, as_str, as_number, as_i64}
use Rattle.lsp_message.specs.Message.{Message, request, notification, response}
use Rattle.lsp_watch.specs.Log.{Log, Finding, from_client}
use Rattle.lsp_watch.specs.declared.rule.Rule.TheVariants.{AlreadyOpen, NotOpen, VersionNotHigher}
use Rattle.lsp_watch.specs.declared.documents.Deed.{Deed}
use Rattle.lsp_watch.specs.declared.documents.Deed.TheVariants.{Opens, Changes, Closes}
use Rattle.lsp_watch.specs.declared.documents.Document.{Document}
use Rattle.lsp_watch.specs.declared.direction.Direction.{Direction}

-- ---- what a message tells

abbrev pub text_in : List ℕ → Data → Option (List ℕ)
text_in name d = option_and_then as_str (get name d)

abbrev pub document_in : Data → Option Data
document_in params = get (codes "textDocument") params

abbrev pub uri_in : Data → Option (List ℕ)
uri_in params = option_and_then (text_in (codes "uri")) (document_in params)

-- a version, if one is given that is an integer of 64 bits
abbrev pub version_in : Data → Option ℤ
version_in params =
    option_and_then as_i64 (option_and_then as_number (option_and_then (get (codes "version")) (document_in params)))

abbrev pub deed_named : List ℕ → Option Deed
deed_named method = if bytes_eq method (codes "textDocument/didOpen") then Some Opens
    else if bytes_eq method (codes "textDocument/didChange") then Some Changes
    else if bytes_eq method (codes "textDocument/didClose") then Some Closes
    else None

-- what the client does with a document by a message, if it does so with one
abbrev pub deed_in : Direction → Message → Option Deed
deed_in direction (notification method params) = if from_client direction then deed_named method else None
deed_in direction (request i method params) = None
deed_in direction (response i outcome) = None

abbrev pub params_in : Message → Data
params_in (request i method params) = params
params_in (notification method params) = params
params_in (response i outcome) = null

abbrev pub is_text : List ℕ → Option (List ℕ) → Bool
is_text text None = false
is_text text (Some t) = bytes_eq text t

-- ---- which documents are open

-- a change that gives a version
abbrev pub changed : ℕ → Option ℤ → Document → Document
changed place None d = d
changed place (Some v) d = record { opened = d.opened; reported = place; version = Some v }

-- the document after the client did this with it
abbrev pub after_deed : Deed → ℕ → Option ℤ → Option Document → Option Document
after_deed Opens place version before = Some (record { opened = place; reported = place; version = version })
after_deed Changes place version before = option_map (changed place version) before
after_deed Closes place version before = None

-- the document of a URI after a message with these params, by which the client does this
abbrev pub document_after : List ℕ → Option Deed → ℕ → Data → Option Document → Option Document
document_after uri None place params before = before
document_after uri (Some deed) place params before = if is_text uri (uri_in params)
    then after_deed deed place (version_in params) before else before

-- the document of a URI, if it is open: by which `didOpen`, at which version, and which message told that
abbrev pub document_of : List ℕ → Log → Option Document
document_of uri [] = None
document_of uri (p ∷ before) =
    document_after uri (deed_in p.direction p.message) p.place (params_in p.message) (document_of uri before)

-- ---- the rules

-- both are given, and the first is not higher
abbrev pub is_not_higher : Option ℤ → Option ℤ → Bool
is_not_higher (Some v) (Some before) = not (int_lt before v)
is_not_higher v before = false

abbrev pub deed_finding : Deed → Option ℤ → Option Document → Option Finding
deed_finding Opens version None = None
deed_finding Opens version (Some d) = Some (AlreadyOpen, Some d.opened)
deed_finding deed version None = Some (NotOpen, None)
deed_finding Closes version (Some d) = None
deed_finding Changes version (Some d) = if is_not_higher version d.version
    then Some (VersionNotHigher, Some d.reported) else None

-- what a message breaks of the rules of documents
abbrev pub document_finding : Log → Direction → Message → Option Finding
document_finding before direction m =
    option_and_then (λ deed.
    option_and_then (λ uri. deed_finding deed (version_in (params_in m)) (document_of uri before))
    (uri_in (params_in m))) (deed_in direction m)
