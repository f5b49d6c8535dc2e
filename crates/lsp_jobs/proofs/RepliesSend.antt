-- The token of a job, and the jobs that wait for replies, may be shared with another thread.
use denote.Param.Send.{IsSend, IsSync, sendable, struct_send, recorded_send}
use denote.RattleType.{RattleType}
use denote.Struct.Declared.{shape}
use Rattle.std.proofs.Crossing.{crosses, Arc-send}
use Rattle.std.proofs.MapsCrossing.{BTreeMap-send}
use Rattle.std.specs.contracts.alloc.Global as Heap
use Rattle.std.specs.contracts.sync.Arc as Arc
use Rattle.std.specs.contracts.impls.GlobalAllocator.TheImpl.{ghosts}
use Rattle.std.specs.contracts.option.Option as option
use Rattle.std.specs.contracts.result.Result as result
use Rattle.crossbeam_channel.specs.contracts.channel.Sender as sender
use Rattle.serde_json.specs.contracts.value.Value as tree
use Rattle.lsp_message.specs.contracts.msg.ResponseError as error
use Rattle.lsp_jobs.proofs.MessageSend.{both, error_send, id_row_send, tree_send}
use Rattle.lsp_jobs.specs.contracts.asking.Replies as replies
use Rattle.lsp_jobs.specs.contracts.asking.Waiter as waiter
use Rattle.lsp_jobs.specs.contracts.cancellation.CancellationToken as token

token_row_send : IsSend token.the_row
token_row_send = search (crosses, sendable) depth 80

token_row_sync : IsSync token.the_row
token_row_sync = search (crosses, sendable) depth 80

shared_token_send : IsSend (Arc.the_row token.the_row Heap.the_row ghosts)
shared_token_send = Arc-send token.the_row token_row_send token_row_sync

pub shared_token_parts : IsSend (Arc.the_field token.the_row Heap.the_row ghosts).row
shared_token_parts = search (token_row_send, token_row_sync, crosses, sendable) depth 80

-- the reply that a job waits for, and the end of the channel that takes it
reply_send : IsSend (result.the_row tree.the_row error.the_row)
reply_send = search (tree_send, error_send, both, sendable) depth 60

reply_end_row_send : IsSend (sender.the_row (result.the_row tree.the_row error.the_row) Heap.the_row ghosts)
reply_end_row_send = search (reply_send, crosses, sendable) depth 80 fits 20000

-- it may be gone
kept_end_send : IsSend (option.the_field (sender.the_row (result.the_row tree.the_row error.the_row) Heap.the_row
    ghosts)).row
kept_end_send = search (reply_end_row_send, both, sendable) depth 40

waiter_send : IsSend waiter.the_row
waiter_send =
    recorded_send (waiter.the_field).row _ _ (waiter.the_type).to_one
    (struct_send (shape waiter.the_type) (shared_token_parts, (kept_end_send, (search sendable, tt))))

pub replies_row_send : IsSend replies.the_row
replies_row_send =
    recorded_send (replies.the_field).row _ _ (replies.the_type).to_one
    (struct_send (shape replies.the_type) (
      search (waiter_send, BTreeMap-send, sendable) depth 40,
      (search sendable, (search (id_row_send, shared_token_send, BTreeMap-send, sendable) depth 40, tt)),
    ))
