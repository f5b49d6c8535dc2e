-- What a server shows of a document.
use Rattle.std.specs.Prelude.{List, ℕ, ℤ, [], ◌∷◌, Option, Some, codes, option_map}
use Rattle.serde_json.specs.Data.{Data, number, string}
use Rattle.serde_json.specs.Find.{of_integer}
use Rattle.lsp_acts.specs.Acts.{Act, tells}
use Rattle.lsp_types.specs.Json.{object_of}

-- what shows the client what is wrong with a document (LSP 3.17, "PublishDiagnostics Notification")
abbrev pub publishes : {P : Type 0} → List ℕ → Option ℤ → Data → Act P
publishes uri version diagnostics = tells (codes "textDocument/publishDiagnostics") (object_of (
    (codes "diagnostics", Some diagnostics)
    ∷ (codes "uri", Some (string uri))
    ∷ (codes "version", option_map (λ z. number (of_integer z)) version) ∷ []))
