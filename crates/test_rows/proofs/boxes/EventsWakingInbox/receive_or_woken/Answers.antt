use Rattle.lsp_session.proofs.Waiting.{waits_none}
use Rattle.test_rows.proofs.boxes.EventsWakingInbox.receive_or_woken.Goals as goal

pub returns-then-self-clause-receives : goal.returns-then-self-clause-receives
returns-then-self-clause-receives c = waits_none _ _ _ _ tt

pub returns-clause-receives : goal.returns-clause-receives
returns-clause-receives c = waits_none _ _ _ _ tt
