use Rattle.std.proofs.Common.{sym, refl, map, string_bytes}
use Rattle.lsp_types.proofs.folders.push_root.Goals as goal

pub returns-in_ok-push_path-in-Some : goal.returns-in_ok-push_path-in-Some
returns-in_ok-push_path-in-Some c = rw c.in-Some.is (
  map string_bytes c.push_path.new.paths.items,
  rw (sym c.as_str.ensures.value) c.in_ok-push_path-in-Some.ensures,
  refl,
)
