use Rattle.lsp_types.proofs.ReadLemmas.{kept, ◌ends◌, ◌then◌}
use Rattle.lsp_types_workspace.proofs.notebooks.NotebookDocumentFromJson.from_json.Goals as goal

pub returns-in-Ok : goal.returns-in-Ok
returns-in-Ok c = let read = c.new.ensures then c.required.ensures then c.required-2.ensures then
    c.required-3.ensures then c.optional.ensures then c.required-4.ensures ends c.in-Ok.ensures in
    (((read.0.0.0, kept _ _ _ read.0.0.1), read.0.1), read.1)

pub returns-in-Err : goal.returns-in-Err
returns-in-Err c fits it one = (c.new.ensures then c.required.ensures then c.required-2.ensures then
    c.required-3.ensures then c.optional.ensures then c.required-4.ensures ends c.in-Err.ensures) fits _ one
