use Rattle.lsp_jobs.proofs.NameLemmas.{none_kept}
use Rattle.lsp_jobs.proofs.entries.Entries.new.Goals as goal

pub returns : goal.returns
returns g c = none_kept _ c.default-requests.ensures.incoming c.default-keys.ensures.incoming
