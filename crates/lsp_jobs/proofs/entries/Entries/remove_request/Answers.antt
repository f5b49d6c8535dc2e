use Rattle.std.proofs.Common.{refl}
use Rattle.lsp_jobs.proofs.NameLemmas.{request_removed}
use Rattle.lsp_jobs.proofs.entries.Entries.remove_request.Goals as goal

pub returns-clause-removed : goal.returns-clause-removed
returns-clause-removed g c = request_removed c.args.self.now _ _ c.complete.ensures.removed refl
