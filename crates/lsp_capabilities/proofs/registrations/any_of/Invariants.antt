use Rattle.std.proofs.Common.{◌≡◌, drop}
use Rattle.serde_json.specs.View.{view, items_view}
use Rattle.lsp_capabilities.specs.Registrations.{any_item, is_of}
use Rattle.lsp_capabilities.proofs.registrations.any_of.Given as goal

abbrev pub invariant-loop-unregistration : goal.invariant-loop-unregistration
invariant-loop-unregistration l =
    any_item (is_of (view l.registration)) (items_view l.unregistrations)
    ≡ any_item (is_of (view l.registration)) (items_view (drop l.unregistration-index l.unregistrations))
