use Rattle.lsp_session.proofs.Waiting.{waits_none}
use Rattle.test_rows.proofs.boxes.EventsInbox.receive.Goals as goal

pub returns-clause-receives : goal.returns-clause-receives
returns-clause-receives c = waits_none _ _ _ _ tt

pub returns-then-is_closed-clause-receives : goal.returns-then-is_closed-clause-receives
returns-then-is_closed-clause-receives c = waits_none _ _ _ _ tt
