-- The folders that a client has open.
use Rattle.std.specs.Prelude.{◌≡◌, ◌≢◌, ℕ, List, [], ◌∷◌, ◌++◌, Option, Some, None, map, string_bytes, ◌⊎◌}
use Rattle.lsp_types.specs.FileUris.{Names, Refuses}
use Rattle.lsp_types.specs.declared.file_uri.FileUriFault.{FileUriFault}
use Rattle.lsp_types.specs.declared.file_uri.FileUriFault.TheVariants.{Memory}
use Rattle.lsp_types.specs.declared.workspace.WorkspaceFolder.{WorkspaceFolder}

-- a list of paths with the one that a URI names, if it names one
abbrev pub WithPath : List ℕ → List (List ℕ) → List (List ℕ) → Type 0
WithPath uri old new =
    ((path : List ℕ) × Names uri path × (new ≡ old ++ (path ∷ [])))
    ⊎ ((fault : FileUriFault) × (fault ≢ Memory) × Refuses fault uri × (new ≡ old))

-- a list of paths with those that URIs name, in their order
abbrev pub WithPaths : List (List ℕ) → List (List ℕ) → List (List ℕ) → Type 0
WithPaths [] old new = new ≡ old
WithPaths (uri ∷ uris) old new = (mid : List (List ℕ)) × WithPath uri old mid × WithPaths uris mid new

-- the URIs of folders
abbrev pub uris_of : List WorkspaceFolder → List (List ℕ)
uris_of folders = map (λ folder. string_bytes folder.uri) folders

-- the URIs of the folders that are open: those of the list, or that of the root if the client has none
abbrev pub folder_uris : Option (List WorkspaceFolder) → Option (List ℕ) → List (List ℕ)
folder_uris (Some folders) root = uris_of folders
folder_uris None (Some root) = root ∷ []
folder_uris None None = []
