use Rattle.std.proofs.Common.{sym, ap, ◌∙◌}
use Rattle.std.specs.BTreeMap.{get}
use Rattle.std.specs.Ordering.{nat_cmp}
use Rattle.std.specs.Prelude.{option_and_then}
use Rattle.lsp_watch.proofs.Indexing.{found_first}
use Rattle.lsp_watch.specs.Indexed.{by_id}
use Rattle.lsp_watch.proofs.requests.OpenRequests.first_for.Goals as goal

pub returns : goal.returns
returns c = λ h. c.at.ensures
    ∙ ap (option_and_then (λ n. get nat_cmp c.args.self.now.requests n)) c.first.ensures
    ∙ sym (found_first c.args.self.now (by_id c.args.direction c.args.id.now) h)
