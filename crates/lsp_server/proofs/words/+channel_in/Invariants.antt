use Rattle.std.proofs.Common.{length}
use Rattle.lsp_server.proofs.words.+channel_in.Given as goal

abbrev pub decreases-channel_in : goal.decreases-channel_in
decreases-channel_in l = length l.words.now
