use Rattle.std.proofs.Common.{ap, sym, true≢false, ◌∙◌}
use Rattle.serde_json.specs.View.{view}
use Rattle.lsp_message.specs.Frame.{tree_means}
use Rattle.lsp_message.proofs.Contents.{decodes_same, tree_needs_no_memory}
use Rattle.lsp_message.proofs.msg.read.message_in_text.Goals as goal

pub returns-in-Ok-clause-means : goal.returns-in-Ok-clause-means
returns-in-Ok-clause-means c = rw (c.in-Ok.ensures.ok) (decodes_same _ _ _ c.message_in_tree.ensures)

pub returns-in-Ok-clause-some : goal.returns-in-Ok-clause-some
returns-in-Ok-clause-some c = λ is. absurd (tree_needs_no_memory _ _ (view c.in-Ok.tree) c.message_in_tree.ensures is)

pub returns-else-is_memory-clause-means : goal.returns-else-is_memory-clause-means
returns-else-is_memory-clause-means c = ap tree_means (c.in-Err.ensures.err (λ memory. true≢false
    (sym (c.is_memory.ensures.1 memory) ∙ c.if-is_memory.false)))
