use Rattle.lsp_json.specs.JsonRef.{items_data}
use Rattle.lsp_documents.proofs.ParamLemmas.{at_error, some_changes}
use Rattle.lsp_documents.proofs.params.changes_in.Goals as goal

pub returns-in_err-change-clause-needed : goal.returns-in_err-change-clause-needed
returns-in_err-change-clause-needed c = at_error c.from_residual.result
    (some_changes (items_data c.args.values) (items_data c.loop-value.values) _ _ c.loop-value.invariant.none
    c.in-Some.ensures)

pub returns-in_err-changes-in-Some-2-clause-needed : goal.returns-in_err-changes-in-Some-2-clause-needed
returns-in_err-changes-in-Some-2-clause-needed c = at_error c.from_residual-in_err-changes-in-Some-2.result
    (some_changes (items_data c.args.values) (items_data c.loop-value.values) _ _ c.loop-value.invariant.none
    c.in-Some.ensures)
