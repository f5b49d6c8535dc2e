use Rattle.std.proofs.Common.{ap, refl, ◌∙◌}
use Rattle.std.specs.FinMap as map
use Rattle.lsp_message.specs.Id.{Id}
use Rattle.lsp_jobs.proofs.NameLemmas.{key_removed}
use Rattle.lsp_jobs.proofs.entries.Entries.remove.Goals as goal

pub returns-in-Request-clause-removed : goal.returns-in-Request-clause-removed
returns-in-Request-clause-removed g c = rw c.in-Request.is c.remove_request.ensures.removed

pub returns-in-Keyed-clause-removed : goal.returns-in-Keyed-clause-removed
returns-in-Keyed-clause-removed g c =
    rw c.in-Keyed.is (key_removed c.args.self.now _ _ (c.complete.ensures.removed
    ∙ ap (λ (s : Id). map.remove c.args.self.now.keys s) c.name.ensures) refl)
