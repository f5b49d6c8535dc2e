use Rattle.lsp_session.proofs.Waiting.{waits_none}
use Rattle.lsp_server.proofs.transport.ChannelInboxInbox.receive.Goals as goal

pub returns-in-Ok-clause-receives : goal.returns-in-Ok-clause-receives
returns-in-Ok-clause-receives g c = waits_none _ _ _ _ tt

pub returns-in-Err-clause-receives : goal.returns-in-Err-clause-receives
returns-in-Err-clause-receives g c = waits_none _ _ _ _ tt
