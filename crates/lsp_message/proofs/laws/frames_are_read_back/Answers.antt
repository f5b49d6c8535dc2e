use Rattle.lsp_message.proofs.FramesBack.{read_back}
use Rattle.lsp_message.proofs.laws.frames_are_read_back.Goals as goal

pub returns : goal.returns
returns c = read_back
