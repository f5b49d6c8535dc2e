use Rattle.lsp_peers.proofs.AnswerLemmas.{answered_law}
use Rattle.lsp_peers.proofs.laws.a_reply_is_the_answer_of_the_other_side.Goals as goal

pub returns : goal.returns
returns c = answered_law
