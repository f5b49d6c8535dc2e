use Rattle.std.proofs.Common.{◌≡◌, drop}
use Rattle.serde_json.specs.View.{items_view}
use Rattle.lsp_model.specs.Lines.{after_changes}
use Rattle.lsp_model.proofs.lines.after_changes.Given as goal

-- the changes that are left lead to what all of them lead to
abbrev pub invariant-loop-change : goal.invariant-loop-change
invariant-loop-change l =
    after_changes l.fn.lines (items_view l.changes)
    ≡ after_changes l.counted (items_view (drop l.change-index l.changes))
