use Rattle.std.proofs.Common.{sym, ap, ◌∙◌}
use Rattle.std.specs.Prelude.{is_some}
use Rattle.lsp_watch.proofs.Indexing.{any_found}
use Rattle.lsp_watch.specs.Indexed.{opens_by}
use Rattle.lsp_watch.proofs.requests.OpenRequests.may_tell.Goals as goal

pub returns : goal.returns
returns c = λ h. c.is_some.ensures ∙ ap is_some c.first.ensures
    ∙ sym (any_found c.args.self.now (opens_by c.args.name.now) h)
