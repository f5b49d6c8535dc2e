use Rattle.std.proofs.Common.{◌≡◌, drop}
use Rattle.serde_json.specs.Find.{as_str}
use Rattle.serde_json.specs.View.{items_view}
use Rattle.lsp_watch.specs.Documents.{is_text}
use Rattle.lsp_capabilities.specs.Registrations.{any_item}
use Rattle.lsp_capabilities.proofs.params.any_text.Given as goal

abbrev pub invariant-loop-item : goal.invariant-loop-item
invariant-loop-item l =
    any_item (λ it. is_text l.text (as_str it)) (items_view l.items)
    ≡ any_item (λ it. is_text l.text (as_str it)) (items_view (drop l.item-index l.items))
