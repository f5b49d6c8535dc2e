use Rattle.std.proofs.Common.{ap, refl, ◌∙◌}
use Rattle.std.specs.FinMap as map
use Rattle.lsp_message.specs.Id.{Id, id_cmp}
use Rattle.lsp_jobs.proofs.NameLemmas.{key_added}
use Rattle.lsp_jobs.proofs.PendingLemmas.{on_ok_as, on_err_as}
use Rattle.lsp_jobs.specs.Waiting.{entry_of}
use Rattle.lsp_jobs.proofs.entries.Entries.add_keyed.Goals as goal

pub returns-clause-ok : goal.returns-clause-ok
returns-clause-ok g c = on_ok_as c.done.result c.register.result c.done.ensures c.register.ensures.ok
    (λ is. key_added c.args.self.now _ _ _ (is ∙ ap (λ (s : Id). map.insert c.args.self.now.keys s c.args.entry)
    c.into_name.ensures) refl)

pub returns-clause-err : goal.returns-clause-err
returns-clause-err g c = on_err_as c.done.result c.register.result c.done.ensures c.register.ensures.err
    (λ is. ap (λ (m : map.FinMap id_cmp g.row.E.Denot). entry_of (record {
      requests = c.args.self.now.requests;
      keys = m;
    })) is)
