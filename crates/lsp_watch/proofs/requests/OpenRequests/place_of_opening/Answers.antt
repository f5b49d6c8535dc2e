use Rattle.std.proofs.Common.{sym, ap, ◌∙◌, option_map}
use Rattle.std.specs.BTreeMap.{get}
use Rattle.std.specs.Ordering.{nat_cmp}
use Rattle.std.specs.Prelude.{option_and_then}
use Rattle.lsp_watch.proofs.Indexing.{found_first}
use Rattle.lsp_watch.specs.Indexed.{opens}
use Rattle.lsp_watch.proofs.requests.OpenRequests.place_of_opening.Goals as goal

pub returns : goal.returns
returns c = λ h. c.place_in.ensures ∙ ap (option_map (λ o. o.place)) (c.at.ensures
    ∙ ap (option_and_then (λ n. get nat_cmp c.args.self.now.requests n)) c.first_in.ensures
    ∙ sym (found_first c.args.self.now opens h))
