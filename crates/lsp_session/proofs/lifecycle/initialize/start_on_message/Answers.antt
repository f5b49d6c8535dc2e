use Rattle.lsp_session.proofs.lifecycle.initialize.start_on_message.Goals as goal

pub returns-else-eq : goal.returns-else-eq
returns-else-eq g c = rw c.in-Request.is c.refuse_early.ensures
