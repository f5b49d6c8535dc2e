use denote.Param.Send.{IsSend, IsSync, sendable, struct_send}
use denote.Struct.Declared.{shape}
use Rattle.std.proofs.Crossing.{crosses}
use Rattle.lsp_jobs.proofs.MessageSend.{both, tree_send, tree_parts}
use Rattle.lsp_jobs.specs.contracts.progress.WorkDone as work
use Rattle.lsp_jobs.specs.contracts.progress.PartialResults as parts
use Rattle.test_live.specs.contracts.jobs.Found as found
use Rattle.test_live.specs.contracts.jobs.Means as means
use Rattle.test_live.specs.contracts.jobs.Scripted as scripted
use Rattle.test_live.specs.contracts.signals.Signals as signals
use Rattle.test_live.proofs.pools.Bench.end.Goals as goal

signals_send : IsSend (signals.the_field).row
signals_send = search (crosses, sendable) depth 60

signals_sync : IsSync (signals.the_field).row
signals_sync = search (crosses, sendable) depth 60

work_send : IsSend (work.the_field).row
work_send = search (crosses, tree_send, both, sendable) depth 60

parts_send : IsSend (parts.the_field).row
parts_send = search (crosses, tree_send, both, sendable) depth 60

means_send : IsSend (means.the_field).row
means_send = search (crosses, signals_send, signals_sync, work_send, parts_send, both, sendable) depth 60

scripted_send : IsSend (scripted.the_field).row
scripted_send =
    struct_send (shape scripted.the_type) (
      search (crosses, sendable) depth 20,
      (means_send, (tree_parts, (search sendable depth 20, (search sendable depth 20, tt)))),
    )

row_send : IsSend scripted.the_row
row_send = search (scripted_send, sendable) depth 40

-- The pool's threads may own its jobs.
pub end-requires-send-J : goal.end-requires-send-J
end-requires-send-J g c κs within = search (row_send, sendable) depth 60

found_send : IsSend (found.the_field).row
found_send = search (crosses, tree_send, both, sendable) depth 60

found_row : IsSend found.the_row
found_row = search (found_send, sendable) depth 40

-- The pool's threads may own what its jobs find.
pub end-requires-send-J-Found : goal.end-requires-send-J-Found
end-requires-send-J-Found g c κs within = search (found_row, sendable) depth 60
