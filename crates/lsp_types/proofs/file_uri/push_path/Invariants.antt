use Rattle.std.proofs.Common.{◌≡◌, ◌++◌, drop}
use Rattle.std.specs.List.{flat_map}
use Rattle.std.specs.String.{string_bytes}
use Rattle.lsp_types.specs.FileUris.{written}
use Rattle.lsp_types.proofs.file_uri.push_path.Given as goal

abbrev pub invariant-loop-byte : goal.invariant-loop-byte
invariant-loop-byte l = string_bytes l.uri ++ flat_map written (drop l.byte-index l.fn.path)
    ≡ string_bytes l.initial.uri ++ flat_map written l.fn.path
