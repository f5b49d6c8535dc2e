use Rattle.std.proofs.Common.{◌≡◌, drop}
use Rattle.serde_json.specs.View.{items_view}
use Rattle.lsp_documents.specs.Params.{first_named}
use Rattle.lsp_documents.proofs.params.first_named.Given as goal

abbrev pub invariant-loop-name : goal.invariant-loop-name
invariant-loop-name l = first_named (items_view l.names) ≡ first_named (items_view (drop l.name-index l.names))
