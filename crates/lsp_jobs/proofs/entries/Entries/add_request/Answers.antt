use Rattle.std.proofs.Common.{ap, refl}
use Rattle.std.specs.FinMap as map
use Rattle.lsp_message.specs.Id.{id_cmp}
use Rattle.lsp_jobs.proofs.NameLemmas.{request_added}
use Rattle.lsp_jobs.proofs.PendingLemmas.{on_ok_as, on_err_as}
use Rattle.lsp_jobs.specs.Waiting.{entry_of}
use Rattle.lsp_jobs.proofs.entries.Entries.add_request.Goals as goal

pub returns-clause-ok : goal.returns-clause-ok
returns-clause-ok g c = on_ok_as c.done.result c.register.result c.done.ensures c.register.ensures.ok
    (λ is. request_added c.args.self.now _ _ _ is refl)

pub returns-clause-err : goal.returns-clause-err
returns-clause-err g c = on_err_as c.done.result c.register.result c.done.ensures c.register.ensures.err
    (λ is. ap (λ (m : map.FinMap id_cmp g.row.E.Denot). entry_of (record {
      requests = m;
      keys = c.args.self.now.keys;
    })) is)
