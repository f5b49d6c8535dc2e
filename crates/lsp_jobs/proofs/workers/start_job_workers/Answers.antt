use denote.Exit.{no}
use denote.Param.{param}
use denote.Param.Send.{param_send, arg_send}
use Rattle.lsp_jobs.proofs.QueuedJobSend.{queued_job_send}
use Rattle.lsp_jobs.proofs.workers.start_job_workers.Goals as goal

pub start_workers-requires-send-E : goal.start_workers-requires-send-E
start_workers-requires-send-E g c κs within =
    param_send _ _ (arg_send _ no _ (queued_job_send _ (param 1 g.row.J) g.J.Job c.type_bounds.send-J
    c.type_bounds.send-J-Found))
