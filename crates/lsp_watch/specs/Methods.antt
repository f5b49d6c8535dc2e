-- The methods of LSP 3.17: which are requests, and which notifications.
use Rattle.std.specs.Prelude.{ℕ, Bool, ◌||◌, List, codes}
use Rattle.std.specs.Str.{bytes_eq}

-- of the lifecycle
abbrev pub is_lifecycle_request : List ℕ → Bool
is_lifecycle_request m = bytes_eq m (codes "initialize") ||
    bytes_eq m (codes "shutdown")

-- about windows and capabilities
abbrev pub is_window_request : List ℕ → Bool
is_window_request m = bytes_eq m (codes "client/registerCapability") ||
    bytes_eq m (codes "client/unregisterCapability") ||
    bytes_eq m (codes "window/showDocument") ||
    bytes_eq m (codes "window/showMessageRequest") ||
    bytes_eq m (codes "window/workDoneProgress/create")

-- about the workspace
abbrev pub is_workspace_request : List ℕ → Bool
is_workspace_request m = bytes_eq m (codes "workspace/applyEdit") ||
    bytes_eq m (codes "workspace/codeLens/refresh") ||
    bytes_eq m (codes "workspace/configuration") ||
    bytes_eq m (codes "workspace/diagnostic") ||
    bytes_eq m (codes "workspace/diagnostic/refresh") ||
    bytes_eq m (codes "workspace/executeCommand") ||
    bytes_eq m (codes "workspace/inlayHint/refresh") ||
    bytes_eq m (codes "workspace/inlineValue/refresh") ||
    bytes_eq m (codes "workspace/semanticTokens/refresh") ||
    bytes_eq m (codes "workspace/symbol") ||
    bytes_eq m (codes "workspace/willCreateFiles") ||
    bytes_eq m (codes "workspace/willDeleteFiles") ||
    bytes_eq m (codes "workspace/willRenameFiles") ||
    bytes_eq m (codes "workspace/workspaceFolders")

-- about a part of an earlier result
abbrev pub is_part_request : List ℕ → Bool
is_part_request m = bytes_eq m (codes "callHierarchy/incomingCalls") ||
    bytes_eq m (codes "callHierarchy/outgoingCalls") ||
    bytes_eq m (codes "codeAction/resolve") ||
    bytes_eq m (codes "codeLens/resolve") ||
    bytes_eq m (codes "completionItem/resolve") ||
    bytes_eq m (codes "documentLink/resolve") ||
    bytes_eq m (codes "inlayHint/resolve") ||
    bytes_eq m (codes "typeHierarchy/subtypes") ||
    bytes_eq m (codes "typeHierarchy/supertypes") ||
    bytes_eq m (codes "workspaceSymbol/resolve")

-- about a document, from `codeAction` to `documentSymbol`
abbrev pub is_document_request : List ℕ → Bool
is_document_request m = bytes_eq m (codes "textDocument/codeAction") ||
    bytes_eq m (codes "textDocument/codeLens") ||
    bytes_eq m (codes "textDocument/colorPresentation") ||
    bytes_eq m (codes "textDocument/completion") ||
    bytes_eq m (codes "textDocument/declaration") ||
    bytes_eq m (codes "textDocument/definition") ||
    bytes_eq m (codes "textDocument/diagnostic") ||
    bytes_eq m (codes "textDocument/documentColor") ||
    bytes_eq m (codes "textDocument/documentHighlight") ||
    bytes_eq m (codes "textDocument/documentLink") ||
    bytes_eq m (codes "textDocument/documentSymbol")

-- about a document, from `foldingRange` to `prepareRename`
abbrev pub is_later_document_request : List ℕ → Bool
is_later_document_request m = bytes_eq m (codes "textDocument/foldingRange") ||
    bytes_eq m (codes "textDocument/formatting") ||
    bytes_eq m (codes "textDocument/hover") ||
    bytes_eq m (codes "textDocument/implementation") ||
    bytes_eq m (codes "textDocument/inlayHint") ||
    bytes_eq m (codes "textDocument/inlineValue") ||
    bytes_eq m (codes "textDocument/linkedEditingRange") ||
    bytes_eq m (codes "textDocument/moniker") ||
    bytes_eq m (codes "textDocument/onTypeFormatting") ||
    bytes_eq m (codes "textDocument/prepareCallHierarchy") ||
    bytes_eq m (codes "textDocument/prepareRename")

-- about a document, from `prepareTypeHierarchy` to `willSaveWaitUntil`
abbrev pub is_last_document_request : List ℕ → Bool
is_last_document_request m = bytes_eq m (codes "textDocument/prepareTypeHierarchy") ||
    bytes_eq m (codes "textDocument/rangeFormatting") ||
    bytes_eq m (codes "textDocument/references") ||
    bytes_eq m (codes "textDocument/rename") ||
    bytes_eq m (codes "textDocument/selectionRange") ||
    bytes_eq m (codes "textDocument/semanticTokens/full") ||
    bytes_eq m (codes "textDocument/semanticTokens/full/delta") ||
    bytes_eq m (codes "textDocument/semanticTokens/range") ||
    bytes_eq m (codes "textDocument/signatureHelp") ||
    bytes_eq m (codes "textDocument/typeDefinition") ||
    bytes_eq m (codes "textDocument/willSaveWaitUntil")

abbrev pub is_request : List ℕ → Bool
is_request m =
    is_lifecycle_request m || is_window_request m || is_workspace_request m || is_part_request m ||
    is_document_request m || is_later_document_request m || is_last_document_request m

-- of the lifecycle, or of any method
abbrev pub is_lifecycle_notification : List ℕ → Bool
is_lifecycle_notification m = bytes_eq m (codes "$/cancelRequest") ||
    bytes_eq m (codes "$/logTrace") ||
    bytes_eq m (codes "$/progress") ||
    bytes_eq m (codes "$/setTrace") ||
    bytes_eq m (codes "exit") ||
    bytes_eq m (codes "initialized")

-- about a document
abbrev pub is_document_notification : List ℕ → Bool
is_document_notification m = bytes_eq m (codes "notebookDocument/didChange") ||
    bytes_eq m (codes "notebookDocument/didClose") ||
    bytes_eq m (codes "notebookDocument/didOpen") ||
    bytes_eq m (codes "notebookDocument/didSave") ||
    bytes_eq m (codes "textDocument/didChange") ||
    bytes_eq m (codes "textDocument/didClose") ||
    bytes_eq m (codes "textDocument/didOpen") ||
    bytes_eq m (codes "textDocument/didSave") ||
    bytes_eq m (codes "textDocument/publishDiagnostics") ||
    bytes_eq m (codes "textDocument/willSave")

-- about windows and the workspace
abbrev pub is_other_notification : List ℕ → Bool
is_other_notification m = bytes_eq m (codes "telemetry/event") ||
    bytes_eq m (codes "window/logMessage") ||
    bytes_eq m (codes "window/showMessage") ||
    bytes_eq m (codes "window/workDoneProgress/cancel") ||
    bytes_eq m (codes "workspace/didChangeConfiguration") ||
    bytes_eq m (codes "workspace/didChangeWatchedFiles") ||
    bytes_eq m (codes "workspace/didChangeWorkspaceFolders") ||
    bytes_eq m (codes "workspace/didCreateFiles") ||
    bytes_eq m (codes "workspace/didDeleteFiles") ||
    bytes_eq m (codes "workspace/didRenameFiles")

abbrev pub is_notification : List ℕ → Bool
is_notification m = is_lifecycle_notification m || is_document_notification m || is_other_notification m
