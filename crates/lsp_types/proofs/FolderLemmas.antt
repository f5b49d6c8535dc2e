-- Of folders, one after another.
use Rattle.std.proofs.Common.{◌≡◌, ◌+◌, ◌<◌, subst, sym, ℕ, List, string_bytes, length, drop, slice_index_or}
use Rattle.std.proofs.lemmas.List.{drop_more}
use Rattle.lsp_types.specs.declared.workspace.WorkspaceFolder.{WorkspaceFolder}
use Rattle.lsp_types.specs.Folders.{uris_of, WithPath, WithPaths}

-- the path of one folder, and those of the others behind it
pub WithPaths-step : (folders : List WorkspaceFolder) (i : ℕ) → i < length folders → (first : WorkspaceFolder) → first
    ≡ slice_index_or folders i first → (old mid new : List (List ℕ)) → WithPath (string_bytes first.uri) old mid
    → WithPaths (uris_of (drop (i + 1) folders)) mid new → WithPaths (uris_of (drop i folders)) old new
WithPaths-step folders i inside first is old mid new one others =
    subst (λ fs. WithPaths (uris_of fs) old new) (sym (drop_more folders i first inside))
    (mid, subst (λ f. WithPath (string_bytes f.uri) old mid) is one, others)
