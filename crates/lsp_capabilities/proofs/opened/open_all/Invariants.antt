use Rattle.std.proofs.Common.{◌≡◌, ◌||◌, ℕ, List, drop, codes}
use Rattle.std.specs.BTreeSet.{contains_text}
use Rattle.serde_json.specs.View.{items_view}
use Rattle.lsp_watch.specs.Documents.{is_text, text_in}
use Rattle.lsp_capabilities.specs.Registrations.{any_item}
use Rattle.lsp_capabilities.proofs.opened.open_all.Given as goal

-- what is left to open, and what is open, are the same as at the start
abbrev pub invariant-loop-document : goal.invariant-loop-document
invariant-loop-document l = (uri : List ℕ)
    → (any_item (λ it. is_text uri (text_in (codes "uri") it)) (items_view (drop l.document-index l.documents))
    || contains_text l.opened uri)
    ≡ (any_item (λ it. is_text uri (text_in (codes "uri") it)) (items_view l.documents)
    || contains_text l.initial.opened uri)
