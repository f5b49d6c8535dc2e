use Rattle.std.proofs.Common.{sym, map, string_bytes}
use Rattle.lsp_types.proofs.FolderLemmas.{WithPaths-step}
use Rattle.lsp_types.proofs.folders.push_paths.Goals as goal

pub loop-folder-preserved : goal.loop-folder-preserved
loop-folder-preserved c = λ new others. c.loop-folder.invariant new (WithPaths-step c.args.folders.now
    c.loop-folder.folder-index c.loop-folder-test.true c.folder-item.result c.folder-item.is _ (map string_bytes
    c.push_path.new.paths.items) new (rw (sym c.as_str.ensures.value) c.in_ok-push_path.ensures) others)
