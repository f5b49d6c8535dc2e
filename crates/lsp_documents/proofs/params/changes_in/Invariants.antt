use Rattle.std.proofs.Common.{◌≡◌, option_map}
use Rattle.serde_json.specs.Data.{no_items}
use Rattle.lsp_json.specs.JsonRef.{items_count, items_data}
use Rattle.lsp_documents.specs.Params.{changes_in, values_since_whole}
use Rattle.lsp_documents.proofs.ParamLemmas.{read_on}
use Rattle.lsp_documents.proofs.params.changes_in.Given as goal

abbrev pub invariant-loop-value : goal.invariant-loop-value
invariant-loop-value l = record {
  read : changes_in (values_since_whole (items_data l.fn.values))
      ≡ read_on (option_map (λ v. v.items) l.changes) (items_data l.values);
  none : items_data l.fn.values ≡ no_items → items_data l.values ≡ no_items;
}

abbrev pub decreases-loop-value : goal.decreases-loop-value
decreases-loop-value l = items_count (items_data l.values)
