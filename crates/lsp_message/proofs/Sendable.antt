-- A message may go to another thread: each part of it may. A field has a row of its own, so a value has two lemmas.
use denote.Enum.Declared.{shape as cases}
use denote.Param.Send.{IsSend, enum_send, sendable}
use denote.RattleType.{RattleType}
use Rattle.std.proofs.Crossing.{Vec-send}
use Rattle.std.proofs.MapsCrossing.{BTreeMap-send, String-send}
use Rattle.std.specs.contracts.snapshot.Snapshot as snapshot
use Rattle.serde_json.proofs.value.Value.TheLaws.TheKnot.{send-Value}
use Rattle.serde_json.specs.contracts.value.Value as tree
use Rattle.lsp_message.specs.contracts.msg.Request as request
use Rattle.lsp_message.specs.contracts.msg.Response as response
use Rattle.lsp_message.specs.contracts.msg.ResponseError as error
use Rattle.lsp_message.specs.contracts.msg.Notification as note
use Rattle.lsp_message.specs.contracts.msg.id.RequestId as id
use Rattle.lsp_message.specs.contracts.msg.Message as message
use Rattle.lsp_message.specs.contracts.msg.result_text.Kept as kept
use Rattle.lsp_message.specs.contracts.msg.result_text.ResultText as result_text

pub both : {A B : Type 0} → A → B → A × B
both a b = (a, b)

pub tree_send : IsSend tree.the_row
tree_send = search (send-Value, String-send, Vec-send, BTreeMap-send, both, sendable) depth 40

pub tree_field_send : IsSend (tree.the_field).row
tree_field_send = search (send-Value, String-send, Vec-send, BTreeMap-send, both, sendable) depth 40

pub id_send : IsSend (id.the_field).row
id_send = search (Vec-send, both, sendable) depth 40

pub note_send : IsSend (note.the_field).row
note_send = search (tree_field_send, Vec-send, both, sendable) depth 40

pub request_send : IsSend (request.the_field).row
request_send = search (tree_field_send, id_send, Vec-send, both, sendable) depth 40

pub error_send : IsSend (error.the_field).row
error_send = search (tree_send, Vec-send, both, sendable) depth 40

pub response_send : IsSend (response.the_field).row
response_send = search (tree_send, id_send, error_send, both, sendable) depth 40

pub message_send : IsSend message.the_row
message_send = search (request_send, response_send, note_send, both, sendable) depth 40

-- a snapshot owns nothing
snapshot_send : (T : RattleType) → IsSend (snapshot.the_row T)
snapshot_send T = record { owned = λ d vs. ((λ vss. (tt, ((λ uss. (tt, tt)), tt))), tt); leaving = λ k f vs. tt }

kept_send : IsSend (kept.the_field).row
kept_send = enum_send (cases kept.the_type) (
  (search (Vec-send, both, sendable) depth 40, (snapshot_send tree.the_row, tt)),
  ((search (Vec-send, both, sendable) depth 40, tt), ((tree_field_send, tt), tt)),
)

-- the text of a result too: clauses alone see its tree
pub text_send : IsSend result_text.the_row
text_send = search (kept_send, both, sendable) depth 40
