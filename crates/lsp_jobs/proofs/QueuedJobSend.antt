-- A job with its end of the channel may go to a worker.
use denote.Enum.Declared.{shape as cases}
use denote.Param.Send.{IsSend, IsSync, Frees, sendable, enum_send, struct_send, struct_sync, recorded_send}
use denote.Param.Send.{recorded_sync}
use denote.Builtin.{unit}
use denote.RattleType.{RattleType}
use denote.Struct.Declared.{shape}
use Rattle.std.proofs.Crossing.{crosses, frees, send, sync, Arc-send, Vec-send}
use Rattle.std.specs.contracts.option.Option as option
use Rattle.std.specs.contracts.alloc.Global as Heap
use Rattle.std.specs.contracts.impls.GlobalAllocator.TheImpl.{ghosts}
use Rattle.atomic_table.proofs.badge.Badge.TheSendSync as badge
use Rattle.atomic_table.proofs.send_lease.SendLease.TheSendSync as lease
use Rattle.atomic_table.proofs.shared.Seat.TheSendSync as seat
use Rattle.atomic_table.proofs.shared.Shared.TheSendSync as shared
use Rattle.atomic_table.specs.contracts.owned.Table as table
use Rattle.atomic_table.specs.declared.shared.TableRule.{Ghosts as Rule}
use Rattle.crossbeam_channel.specs.contracts.bells.Bell as bell
use Rattle.crossbeam_channel.specs.contracts.flavors.array.Doing as doing
use Rattle.crossbeam_channel.specs.contracts.flavors.array.Key as key
use Rattle.crossbeam_channel.specs.contracts.flavors.array.Lockers as lockers_row
use Rattle.crossbeam_channel.specs.contracts.flavors.array.LockersTableRuleOptionKeyUnit.TheImpl as lockers
use Rattle.crossbeam_channel.specs.contracts.flavors.array.Rounds as rounds_row
use Rattle.crossbeam_channel.specs.contracts.flavors.array.RoundsTableRuleBadgeKeyDoingBadgeKey.TheImpl as rounds
use Rattle.crossbeam_channel.specs.contracts.flavors.array.Whole as whole
use Rattle.crossbeam_channel.specs.contracts.flavors.array.WholeSight.TheImpl as sight
use Rattle.crossbeam_channel.specs.contracts.flavors.array.Rows as rows
use Rattle.crossbeam_channel.specs.contracts.flavors.array.ruled.Both as pair
use Rattle.crossbeam_channel.specs.contracts.flavors.array.ruled.Sending as sending
use Rattle.lsp_jobs.specs.contracts.channel.Known as known
use Rattle.lsp_jobs.specs.contracts.channel.Tickets as rule
use Rattle.lsp_jobs.specs.contracts.channel.TicketsProtocolItemFoundKnown.TheImpl as tickets
use Rattle.lsp_jobs.specs.contracts.pool.JobMessage as saying
use Rattle.lsp_jobs.specs.contracts.channel.Item as slip
use Rattle.lsp_jobs.specs.contracts.workers.QueuedJob as order
use Rattle.atomic_table.specs.contracts.badge.Badge as badge_row
use Rattle.lsp_jobs.proofs.RepliesSend.{replies_row_send, shared_token_parts}
use Rattle.lsp_jobs.proofs.MessageSend.{both, name_send, notice_parts, ran_parts, tree_parts}
use Rattle.lsp_jobs.specs.declared.job.Job.{Ghosts}

heap_frees : Frees ghosts ghosts.dealloc_token
heap_frees = record { frees = frees.frees }

bell_send : IsSend (bell.the_field).row
bell_send = search (crosses, sendable) depth 40

bell_sync : IsSync (bell.the_field).row
bell_sync = search (crosses, sendable) depth 40

module _ (C : RattleType) where
  pair_send : IsSend C → IsSend (pair.the_row C)
  pair_send s = recorded_send (pair.the_field C).row _ _ (pair.the_type C).to_one (struct_send (shape (pair.the_type C))
      (s, (bell_send, (bell_send, tt))))

  pair_sync : IsSync C → IsSync (pair.the_row C)
  pair_sync s = recorded_sync (pair.the_field C).row _ _ (pair.the_type C).to_one (struct_sync (shape (pair.the_type C))
      (s, (bell_sync, (bell_sync, tt))))

  sending_send : IsSend C → IsSync C → IsSend (sending.the_field C Heap.the_row ghosts).row
  sending_send s y = struct_send (shape (sending.the_type C Heap.the_row ghosts)) (
    Arc-send (pair.the_row C)
        (pair_send s) (pair_sync y),
    tt,
  )

module _ (S V K P : RattleType) (g : Rule P.Denot S.Denot V.Denot K.Denot) where
  table_send : IsSend S → IsSend (table.the_field S V K P Heap.the_row g ghosts).row
  table_send s =
      struct_send (shape (table.the_type S V K P Heap.the_row g ghosts)) (
        shared.the_send S V K P g s,
        (
          search sendable,
          (
            search sendable,
            (
              lease.the_send _ _ _ send heap_frees,
              (lease.the_send _ _ _ send heap_frees, (send, tt)),
            ),
          ),
        ),
      )

  table_sync : IsSend S → IsSync (table.the_field S V K P Heap.the_row g ghosts).row
  table_sync s =
      struct_sync (shape (table.the_type S V K P Heap.the_row g ghosts)) (
        shared.the_sync S V K P g s,
        (
          search sendable,
          (
            search sendable,
            (
              lease.the_sync _ _ _ send heap_frees,
              (lease.the_sync _ _ _ send heap_frees, (sync, tt)),
            ),
          ),
        ),
      )

module _ (S D Q M K L : RattleType) (q : Rule Q.Denot S.Denot D.Denot S.Denot) (l : Rule L.Denot M.Denot K.Denot
    (Unit {0})) where
  rows_send : IsSend S → IsSend M → IsSend (rows.the_row S D Q M K L Heap.the_row q l ghosts)
  rows_send s m =
      recorded_send (rows.the_field S D Q M K L Heap.the_row q l ghosts).row _ _ (rows.the_type S D Q M K L Heap.the_row
      q l ghosts).to_one
      (struct_send (shape (rows.the_type S D Q M K L Heap.the_row q l ghosts)) (
        table_send S D S Q q s,
        (table_send M K unit L l m, (search sendable, (search sendable, tt))),
      ))

  rows_sync : IsSend S → IsSend M → IsSync (rows.the_row S D Q M K L Heap.the_row q l ghosts)
  rows_sync s m =
      recorded_sync (rows.the_field S D Q M K L Heap.the_row q l ghosts).row _ _ (rows.the_type S D Q M K L Heap.the_row
      q l ghosts).to_one
      (struct_sync (shape (rows.the_type S D Q M K L Heap.the_row q l ghosts)) (
        table_sync S D S Q q s,
        (table_sync M K unit L l m, (search sendable, (search sendable, tt))),
      ))

module _ (F : RattleType) where
  message_parts : IsSend F → IsSend (saying.the_field F).row
  message_parts found =
      let ran = ran_parts F found in
      enum_send (cases (saying.the_type F)) (
        (notice_parts, tt),
        (
          (search (Vec-send, both, sendable) depth 40, (tree_parts, (search sendable, tt))),
          ((ran, tt), tt),
        ),
      )

  item_send : IsSend F → IsSend (slip.the_row F)
  item_send found =
      let said = message_parts found in
      let parts : IsSend (slip.the_field F).row = search (name_send, said, crosses, sendable) depth 40 in
      recorded_send (slip.the_field F).row _ _ (slip.the_type F).to_one parts

  option_send : IsSend F → IsSend (option.the_row (slip.the_row F))
  option_send found =
      let one = item_send found in
      let parts : IsSend (option.the_field (slip.the_row F)).row = search (one, crosses, sendable) depth 40 in
      recorded_send (option.the_field (slip.the_row F)).row _ _ (option.the_type (slip.the_row F)).to_one parts

  module _ (J : RattleType) (G : Ghosts J.Denot F.Denot) where
    pub queued_job_send : IsSend J → IsSend F → IsSend (order.the_row J F G)
    queued_job_send s found =
        let it = slip.the_row F in
        let knows = known.the_row J in
        let send_key = badge.the_send (key.the_row it) in
        let send_slot = option_send found in
        let turns = rounds.ghosts it knows rule.the_row
        (tickets.ghosts J F G tickets.no_dict tickets.no_dict tickets.no_dict) rounds.no_dict in
        let slots = lockers.ghosts it it whole.the_row (sight.ghosts it) lockers.no_dict in
        let sender =
        sending_send _
        (rows_send (badge_row.the_row (key.the_row it)) (doing.the_row it knows) (rounds_row.the_row rule.the_row)
        (option.the_row it) (key.the_row it) (lockers_row.the_row whole.the_row) turns slots send_key send_slot)
        (rows_sync (badge_row.the_row (key.the_row it)) (doing.the_row it knows) (rounds_row.the_row rule.the_row)
        (option.the_row it) (key.the_row it) (lockers_row.the_row whole.the_row) turns slots send_key send_slot) in
        recorded_send (order.the_field J F G).row _ _ (order.the_type J F G).to_one
        (struct_send (shape (order.the_type J F G)) (
          search (crosses, sendable) depth 20,
          (
            s,
            (
              search sendable,
              (
                name_send,
                (
                  shared_token_parts,
                  (
                    search (replies_row_send, crosses, sendable) depth 80,
                    (sender, (seat.the_send _ _ send_key, tt)),
                  ),
                ),
              ),
            ),
          ),
        ))
