use Rattle.std.proofs.Common.{◌≡◌, drop}
use Rattle.lsp_types.specs.FileUris.{is_escaped}
use Rattle.lsp_types.proofs.file_uri.is_escaped.Given as goal

abbrev pub invariant-loop-i : goal.invariant-loop-i
invariant-loop-i l = is_escaped (drop l.i l.bytes) ≡ is_escaped l.bytes
