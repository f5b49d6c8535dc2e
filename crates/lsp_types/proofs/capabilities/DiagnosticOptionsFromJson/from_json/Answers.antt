use Rattle.lsp_types.proofs.ReadLemmas.{◌ends◌, ◌then◌}
use Rattle.lsp_types.proofs.capabilities.DiagnosticOptionsFromJson.from_json.Goals as goal

pub returns-in-Ok : goal.returns-in-Ok
returns-in-Ok c = c.new.ensures then c.optional.ensures then c.required.ensures then c.required-2.ensures then
    c.optional-2.ensures ends c.in-Ok.ensures

pub returns-in-Err : goal.returns-in-Err
returns-in-Err c fits it one = (c.new.ensures then c.optional.ensures then c.required.ensures then
    c.required-2.ensures then c.optional-2.ensures ends c.in-Err.ensures) fits _ one
