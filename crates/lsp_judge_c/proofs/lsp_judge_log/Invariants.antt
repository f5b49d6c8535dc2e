use Rattle.std.proofs.Common.{length}
use Rattle.lsp_judge_c.proofs.lsp_judge_log.Given as goal

abbrev pub ghosts-judge : goal.ghosts-judge
ghosts-judge a = record { size = length a.room.now }
