use Rattle.std.proofs.Common.{◌≡◌, ◌≤◌, drop, length}
use Rattle.lsp_documents.specs.Notices.{since_whole}
use Rattle.lsp_documents.proofs.NoticeLemmas.{deciding}
use Rattle.lsp_documents.proofs.changes.since_whole.Given as goal

-- what decides: of the changes that are left, or else from this one on
abbrev pub invariant-loop-index : goal.invariant-loop-index
invariant-loop-index l = record {
  within : l.from ≤ length l.changes;
  decides : since_whole l.changes ≡ deciding (drop l.index l.changes) (drop l.from l.changes);
}
