use Rattle.std.proofs.Common.{codes}
use Rattle.lsp_message.proofs.Unique.{text-unique}
use Rattle.lsp_message.proofs.laws.one_text_without_floats.Goals as goal

pub returns-clause-member : goal.returns-clause-member
returns-clause-member c = text-unique (codes "{")

pub returns-clause-body : goal.returns-clause-body
returns-clause-body c = text-unique (codes "{\"jsonrpc\":\"2.0\",")
