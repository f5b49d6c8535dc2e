-- A job may go to another thread.
use denote.Enum.Declared.{shape as cases}
use denote.Param.Send.{IsSend, enum_send, sendable, struct_send}
use denote.Struct.Declared.{shape}
use Rattle.std.proofs.Crossing.{crosses}
use Rattle.lsp_documents.specs.contracts.known.DocumentSnapshot as snapshot
use Rattle.lsp_jobs.proofs.MessageSend.{both, tree_send}
use Rattle.lsp_jobs.specs.contracts.progress.WorkDone as progress
use Rattle.example_toml.specs.contracts.work.Check as check
use Rattle.example_toml.specs.contracts.work.Search as found
use Rattle.example_toml.specs.contracts.work.Work as work

snapshot_fields : IsSend (snapshot.the_field).row
snapshot_fields = search (crosses, both, sendable) depth 40

snapshot_send : IsSend snapshot.the_row
snapshot_send = search (snapshot_fields, sendable) depth 40

progress_fields : IsSend (progress.the_field).row
progress_fields = search (crosses, tree_send, both, sendable) depth 60 fits 20000

check_fields : IsSend (check.the_field).row
check_fields =
    struct_send (shape check.the_type) (
      search (crosses, both, sendable) depth 40,
      (snapshot_fields, (search (crosses, both, sendable) depth 40, tt)),
    )

search_fields : IsSend (found.the_field).row
search_fields =
    struct_send (shape found.the_type) (
      search (crosses, both, sendable) depth 40,
      (
        search (crosses, both, sendable) depth 40,
        (
          search (crosses, snapshot_send, sendable) depth 40,
          (search (crosses, both, sendable) depth 40, (progress_fields, tt)),
        ),
      ),
    )

work_fields : IsSend (work.the_field).row
work_fields = enum_send (cases work.the_type) ((check_fields, tt), ((search_fields, tt), tt))

pub work_send : IsSend work.the_row
work_send = search (work_fields, sendable) depth 40
