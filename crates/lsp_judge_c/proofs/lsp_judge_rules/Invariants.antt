use Rattle.std.proofs.Common.{length}
use Rattle.lsp_judge_c.proofs.lsp_judge_rules.Given as goal

abbrev pub ghosts-list_rules : goal.ghosts-list_rules
ghosts-list_rules a = record { size = length a.room.now }
