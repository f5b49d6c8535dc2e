-- A text that was written with no tree, and the tree that clauses see in its place.
use Rattle.std.proofs.Common.{◌≡◌, String, Global, string_bytes, sym, subst}
use Rattle.serde_json.specs.View.{view}
use Rattle.lsp_message.specs.ResultText.{IsReadableText}
use Rattle.lsp_message.specs.Text.{IsValueText}
use Rattle.lsp_trees.proofs.TreeOfText.{tree_of_text}

view_of_kept : (text : String Global) (is : IsReadableText (string_bytes text)) → view (tree_of_text text).0 ≡ is.0
view_of_kept text is = (tree_of_text text).1 is.0 is.1.compact (is.1.reads_back is.2)

pub is_text_of_kept : (text : String Global) → IsReadableText (string_bytes text)
    → IsValueText (view (tree_of_text text).0) (string_bytes text)
is_text_of_kept text is = subst (λ d. IsValueText d (string_bytes text)) (sym (view_of_kept text is)) is.1
