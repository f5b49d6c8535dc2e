use Rattle.std.proofs.Common.{rules}
use Rattle.std.proofs.lemmas.Fn.{filter_same}
use Rattle.serde_json.specs.View.{view}
use Rattle.lsp_judge.specs.Types.{breaks_type}
use Rattle.lsp_watch.specs.Entries.{entry_view}
use Rattle.lsp_judge.proofs.types.keep_broken.Goals as goal

pub returns : goal.returns
returns c = λ log saw. filter_same _
    (λ rule. breaks_type c.args.model.now log c.args.direction (entry_view c.args.entry.now)
    (view c.args.entry.now.tree) rule)
    _ (λ x b q t. search rules) _ _ c.retain.ensures.filtered
