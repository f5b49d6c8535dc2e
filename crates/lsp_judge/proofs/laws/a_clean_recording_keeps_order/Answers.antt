use Rattle.lsp_judge.proofs.CleanRecording.{clean_session}
use Rattle.lsp_judge.proofs.laws.a_clean_recording_keeps_order.Goals as goal

pub returns-clause-replies : goal.returns-clause-replies
returns-clause-replies c = λ choice strict text none count.
    c.a_clean_log_keeps_order.ensures.replies _ (clean_session choice strict text none count)

pub returns-clause-order : goal.returns-clause-order
returns-clause-order c = λ choice strict text none count.
    c.a_clean_log_keeps_order.ensures.order _ (clean_session choice strict text none count)
