-- The methods of the notifications of documents (LSP 3.17, "Text Document Synchronization").
use Rattle.std.specs.Prelude.{ℕ, if◌then◌else◌, List, Option, Some, None, codes}
use Rattle.std.specs.Str.{bytes_eq}
use Rattle.lsp_documents.specs.declared.method.DocumentMethod.{DocumentMethod}
use Rattle.lsp_documents.specs.declared.method.DocumentMethod.TheVariants.{DidOpen, DidChange, DidSave, DidClose}

-- the method of a name, if it is one of these
abbrev pub method_named : List ℕ → Option DocumentMethod
method_named name =
    if bytes_eq name (codes "textDocument/didOpen") then Some DidOpen
    else (if bytes_eq name (codes "textDocument/didChange") then Some DidChange
    else (if bytes_eq name (codes "textDocument/didSave") then Some DidSave
    else (if bytes_eq name (codes "textDocument/didClose") then Some DidClose else None)))
