use Rattle.lsp_message.specs.View.{message_view}
use Rattle.lsp_message.proofs.Contents.{never_too_long}
use Rattle.lsp_message.proofs.msg.Message.read.Goals as goal

pub returns-clause-unlimited : goal.returns-clause-unlimited
returns-clause-unlimited g c = never_too_long message_view _ _ _ c.read_within.ensures.exact
