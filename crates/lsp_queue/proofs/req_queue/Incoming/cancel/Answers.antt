use Rattle.std.proofs.Common.{sym}
use Rattle.lsp_message.specs.IdLaws.{id_total}
use Rattle.lsp_message.specs.IdKeys.{id_antisymmetric}
use Rattle.lsp_queue.proofs.Keys.{remove_absent, is_none_of}
use Rattle.lsp_queue.proofs.req_queue.Incoming.cancel.Goals as goal

pub returns-then-is_completed-clause-removed : goal.returns-then-is_completed-clause-removed
returns-then-is_completed-clause-removed g c = sym (remove_absent id_total id_antisymmetric _ _
    (is_none_of _ c.if-is_completed.ensures))
