use Rattle.lsp_message.specs.IdKeys.{id_antisymmetric}
use Rattle.lsp_message.specs.IdLaws.{id_total}
use Rattle.lsp_queue.proofs.Keys.{one_key_inserted}
use Rattle.lsp_queue.proofs.req_queue.keep.Goals as goal

pub returns-in-Ok-clause-ok : goal.returns-in-Ok-clause-ok
returns-in-Ok-clause-ok g c = one_key_inserted id_total id_antisymmetric c.args.pending.now.entries
    c.insert.new.self.entries c.args.id c.args.«data» c.in-Ok.ensures.updates.0
