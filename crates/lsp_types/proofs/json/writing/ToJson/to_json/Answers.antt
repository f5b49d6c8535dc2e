use Rattle.lsp_json_write.specs.Taken.{nothing}
use Rattle.lsp_types.proofs.json.writing.ToJson.to_json.Goals as goal

pub returns : goal.returns
returns g c = c.into_value.ensures _ (c.in_ok-write_json.ensures nothing c.new-tree.ensures)
