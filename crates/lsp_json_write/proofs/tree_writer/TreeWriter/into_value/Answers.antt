use Rattle.std.proofs.Common.{◌∙◌, ap}
use Rattle.serde_json.specs.View.{view}
use Rattle.lsp_json_write.proofs.Trees.{whole_root}
use Rattle.lsp_json_write.proofs.tree_writer.TreeWriter.into_value.Goals as goal

pub returns : goal.returns
returns c d h = ap view c.unwrap_or.ensures ∙ whole_root c.args.self.root _ c.args.self.levels.items d h
