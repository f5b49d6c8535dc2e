use Rattle.lsp_json_write.specs.Taken.{nothing}
use Rattle.lsp_types.proofs.json.write_rest.tree_with.Goals as goal

pub returns : goal.returns
returns g c = c.with_more.ensures _ (c.into_value.ensures _ (c.in_ok-write_known.ensures nothing c.new-out.ensures))
