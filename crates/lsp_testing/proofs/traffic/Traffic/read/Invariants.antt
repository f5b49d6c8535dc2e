use Rattle.std.proofs.Common.{List}
use Rattle.std.specs.List.{FoldsTo}
use Rattle.lsp_message.specs.declared.msg.Message as msg
use Rattle.lsp_testing.specs.Traffic.{Reads}
use Rattle.lsp_testing.proofs.traffic.Traffic.read.Given as goal

abbrev pub invariant-loop : goal.invariant-loop
invariant-loop l = (came : List msg.Message) × FoldsTo Reads (l.fn.output, l.fn.self) came (l.rest, l.self)
