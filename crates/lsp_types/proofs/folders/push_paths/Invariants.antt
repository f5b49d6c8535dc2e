use Rattle.std.proofs.Common.{ℕ, List, drop, map, string_bytes}
use Rattle.lsp_types.specs.Folders.{uris_of, WithPaths}
use Rattle.lsp_types.proofs.folders.push_paths.Given as goal

abbrev pub invariant-loop-folder : goal.invariant-loop-folder
invariant-loop-folder l = (new : List (List ℕ)) → WithPaths (uris_of (drop l.folder-index l.folders)) (map string_bytes
    l.paths.items) new → WithPaths (uris_of l.folders) (map string_bytes l.initial.paths.items) new
