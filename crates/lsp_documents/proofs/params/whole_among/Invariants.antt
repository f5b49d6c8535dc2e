use Rattle.std.proofs.Common.{◌≡◌, option_map}
use Rattle.lsp_json.specs.JsonRef.{items_count, items_data}
use Rattle.lsp_documents.specs.Params.{changes_in, values_since_whole}
use Rattle.lsp_documents.specs.Notices.{has_whole}
use Rattle.lsp_documents.proofs.ParamLemmas.{find_on}
use Rattle.lsp_documents.proofs.params.whole_among.Given as goal

abbrev pub invariant-loop-value : goal.invariant-loop-value
invariant-loop-value l = option_map has_whole (changes_in (values_since_whole (items_data l.fn.values)))
    ≡ find_on l.found (items_data l.values)

abbrev pub decreases-loop-value : goal.decreases-loop-value
decreases-loop-value l = items_count (items_data l.values)
