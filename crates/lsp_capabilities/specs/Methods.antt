-- By which path of its capabilities a server announces a method, by which registration, and by which path a client
-- announces that it answers one (LSP 3.17, "Initialize Request" and "Register Capability").
use Rattle.std.specs.Option.{option_or}
use Rattle.std.specs.Prelude.{ℕ, List, Option, Some, None, is_some, if◌then◌else◌, codes}
use Rattle.std.specs.Str.{bytes_eq}

-- about a place in a document
abbrev pub place_provider : List ℕ → Option (List ℕ)
place_provider method = if bytes_eq method (codes "textDocument/hover") then Some (codes "/hoverProvider")
    else if bytes_eq method (codes "textDocument/definition") then Some (codes "/definitionProvider")
    else if bytes_eq method (codes "textDocument/declaration") then Some (codes "/declarationProvider")
    else if bytes_eq method (codes "textDocument/typeDefinition") then Some (codes "/typeDefinitionProvider")
    else if bytes_eq method (codes "textDocument/implementation") then Some (codes "/implementationProvider")
    else None

-- about uses of a name, and a document's symbols and actions
abbrev pub symbol_provider : List ℕ → Option (List ℕ)
symbol_provider method = if bytes_eq method (codes "textDocument/references") then Some (codes "/referencesProvider")
    else if bytes_eq method (codes "textDocument/documentHighlight") then Some (codes "/documentHighlightProvider")
    else if bytes_eq method (codes "textDocument/documentSymbol") then Some (codes "/documentSymbolProvider")
    else if bytes_eq method (codes "textDocument/codeAction") then Some (codes "/codeActionProvider")
    else if bytes_eq method (codes "textDocument/codeLens") then Some (codes "/codeLensProvider")
    else None

-- about links, colours, edits and ranges
abbrev pub edit_provider : List ℕ → Option (List ℕ)
edit_provider method = if bytes_eq method (codes "textDocument/documentLink") then Some (codes "/documentLinkProvider")
    else if bytes_eq method (codes "textDocument/documentColor") then Some (codes "/colorProvider")
    else if bytes_eq method (codes "textDocument/formatting") then Some (codes "/documentFormattingProvider")
    else if bytes_eq method (codes "textDocument/rangeFormatting") then Some (codes "/documentRangeFormattingProvider")
    else if bytes_eq method (codes "textDocument/onTypeFormatting")
    then Some (codes "/documentOnTypeFormattingProvider")
    else if bytes_eq method (codes "textDocument/rename") then Some (codes "/renameProvider")
    else if bytes_eq method (codes "textDocument/foldingRange") then Some (codes "/foldingRangeProvider")
    else if bytes_eq method (codes "textDocument/selectionRange") then Some (codes "/selectionRangeProvider")
    else if bytes_eq method (codes "textDocument/completion") then Some (codes "/completionProvider")
    else if bytes_eq method (codes "textDocument/signatureHelp") then Some (codes "/signatureHelpProvider")
    else None

-- about hierarchies, values and the workspace
abbrev pub other_provider : List ℕ → Option (List ℕ)
other_provider method = if bytes_eq method (codes "textDocument/prepareCallHierarchy") then Some
    (codes "/callHierarchyProvider")
    else if bytes_eq method (codes "textDocument/prepareTypeHierarchy") then Some (codes "/typeHierarchyProvider")
    else if bytes_eq method (codes "textDocument/inlayHint") then Some (codes "/inlayHintProvider")
    else if bytes_eq method (codes "textDocument/inlineValue") then Some (codes "/inlineValueProvider")
    else if bytes_eq method (codes "textDocument/linkedEditingRange") then Some (codes "/linkedEditingRangeProvider")
    else if bytes_eq method (codes "textDocument/moniker") then Some (codes "/monikerProvider")
    else if bytes_eq method (codes "textDocument/diagnostic") then Some (codes "/diagnosticProvider")
    else if bytes_eq method (codes "workspace/symbol") then Some (codes "/workspaceSymbolProvider")
    else if bytes_eq method (codes "workspace/executeCommand") then Some (codes "/executeCommandProvider")
    else None

-- about semantic tokens: each request has a part of the options (LSP 3.17, "Semantic Tokens")
abbrev pub token_provider : List ℕ → Option (List ℕ)
token_provider method = if bytes_eq method (codes "textDocument/semanticTokens/full")
    then Some (codes "/semanticTokensProvider/full")
    else if bytes_eq method (codes "textDocument/semanticTokens/full/delta")
    then Some (codes "/semanticTokensProvider/full/delta")
    else if bytes_eq method (codes "textDocument/semanticTokens/range")
    then Some (codes "/semanticTokensProvider/range")
    else None

-- the path in the server's capabilities by which it announces a method
abbrev pub provider : List ℕ → Option (List ℕ)
provider method = option_or (option_or (option_or (option_or (place_provider method) (symbol_provider method))
    (edit_provider method))
    (token_provider method))
    (other_provider method)

-- Under which method a server registers a method. "The method used to register for semantic tokens requests is
-- `textDocument/semanticTokens` and not one of the specific methods" (LSP 3.17, "Semantic Tokens").
abbrev pub registered_as : List ℕ → List ℕ
registered_as method = if is_some (token_provider method) then codes "textDocument/semanticTokens" else method

-- the path in a registration that the method needs there
abbrev pub registered_option : List ℕ → Option (List ℕ)
registered_option method = if bytes_eq method (codes "textDocument/semanticTokens/full")
    then Some (codes "/registerOptions/full")
    else if bytes_eq method (codes "textDocument/semanticTokens/full/delta")
    then Some (codes "/registerOptions/full/delta")
    else if bytes_eq method (codes "textDocument/semanticTokens/range")
    then Some (codes "/registerOptions/range")
    else None

-- the path in the client's capabilities by which the client announces that it answers a request
abbrev pub needed : List ℕ → Option (List ℕ)
needed method = if bytes_eq method (codes "window/workDoneProgress/create") then Some (codes "/window/workDoneProgress")
    else if bytes_eq method (codes "window/showDocument") then Some (codes "/window/showDocument/support")
    else if bytes_eq method (codes "workspace/configuration") then Some (codes "/workspace/configuration")
    else if bytes_eq method (codes "workspace/workspaceFolders") then Some (codes "/workspace/workspaceFolders")
    else if bytes_eq method (codes "workspace/applyEdit") then Some (codes "/workspace/applyEdit")
    else if bytes_eq method (codes "workspace/semanticTokens/refresh") then Some
    (codes "/workspace/semanticTokens/refreshSupport")
    else if bytes_eq method (codes "workspace/codeLens/refresh") then Some (codes "/workspace/codeLens/refreshSupport")
    else if bytes_eq method (codes "workspace/inlayHint/refresh") then Some
    (codes "/workspace/inlayHint/refreshSupport")
    else if bytes_eq method (codes "workspace/inlineValue/refresh") then Some
    (codes "/workspace/inlineValue/refreshSupport")
    else if bytes_eq method (codes "workspace/diagnostic/refresh") then Some
    (codes "/workspace/diagnostics/refreshSupport")
    else None
