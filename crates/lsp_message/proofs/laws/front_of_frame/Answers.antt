use Rattle.lsp_message.proofs.FrontOfFrame.{front_of-part, front_of-whole}
use Rattle.lsp_message.proofs.laws.front_of_frame.Goals as goal

pub returns-clause-whole : goal.returns-clause-whole
returns-clause-whole c = front_of-whole

pub returns-clause-part : goal.returns-clause-part
returns-clause-part c = front_of-part
