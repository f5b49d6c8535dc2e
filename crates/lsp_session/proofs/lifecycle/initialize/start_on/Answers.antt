use Rattle.lsp_session.proofs.lifecycle.initialize.start_on.Goals as goal

pub returns-in-Message : goal.returns-in-Message
returns-in-Message g c = rw c.in-Message.is c.start_on_message.ensures
