-- What jobs say may go to another thread.
use denote.Enum.Declared.{shape as cases}
use denote.Param.Send.{IsSend, sendable, enum_send, struct_send, recorded_send}
use denote.RattleType.{RattleType}
use denote.Struct.Declared.{shape}
use Rattle.std.proofs.Crossing.{Vec-send}
use Rattle.std.proofs.MapsCrossing.{BTreeMap-send, String-send}
use Rattle.std.specs.contracts.result.Result as result
use Rattle.serde_json.proofs.value.Value.TheLaws.TheKnot.{send-Value}
use Rattle.serde_json.specs.contracts.value.Value as tree
use Rattle.lsp_message.specs.contracts.msg.Notification as notice
use Rattle.lsp_message.proofs.Sendable.{text_send}
use Rattle.lsp_message.specs.contracts.msg.ResponseError as error
use Rattle.lsp_message.specs.contracts.msg.id.RequestId as id
use Rattle.lsp_jobs.specs.contracts.job.DoneJob as done
use Rattle.lsp_jobs.specs.contracts.job.Interrupted as interrupted
use Rattle.lsp_jobs.specs.contracts.names.JobName as name
use Rattle.lsp_jobs.specs.contracts.names.JobKey as key

pub both : {A B : Type 0} → A → B → A × B
both a b = (a, b)

pub tree_send : IsSend tree.the_row
tree_send = search (send-Value, String-send, Vec-send, BTreeMap-send, both, sendable) depth 40

pub tree_parts : IsSend (tree.the_field).row
tree_parts = search (send-Value, String-send, Vec-send, BTreeMap-send, both, sendable) depth 40

id_send : IsSend (id.the_field).row
id_send = search (Vec-send, both, sendable) depth 40

key_send : IsSend (key.the_field).row
key_send = search (Vec-send, both, sendable) depth 40

pub name_send : IsSend (name.the_field).row
name_send = enum_send (cases name.the_type) ((id_send, tt), ((key_send, tt), tt))

pub error_send : IsSend error.the_row
error_send = search (tree_send, Vec-send, both, sendable) depth 40

pub notice_parts : IsSend (notice.the_field).row
notice_parts = struct_send (shape notice.the_type) (search (Vec-send, both, sendable) depth 40, (tree_parts, tt))

pub id_row_send : IsSend id.the_row
id_row_send = search (Vec-send, both, sendable) depth 40

interrupted_send : IsSend interrupted.the_row
interrupted_send = search sendable depth 40

module _ (F : RattleType) where
  done_send : IsSend F → IsSend (done.the_row F)
  done_send found =
      recorded_send (done.the_field F).row _ _ (done.the_type F).to_one
      (struct_send (shape (done.the_type F)) (
        search (text_send, error_send, both, sendable) depth 60,
        (search (found, both, sendable) depth 40, tt),
      ))

  -- what a job comes to
  pub ran_parts : IsSend F → IsSend (result.the_field (done.the_row F) interrupted.the_row).row
  ran_parts found =
      let one = done_send found in
      search (one, interrupted_send, both, sendable) depth 40
