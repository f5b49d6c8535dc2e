use Rattle.std.proofs.Common.{ap, ◌∙◌}
use Rattle.lsp_watch.proofs.Indexing.{fresh_in, undone}
use Rattle.lsp_watch.proofs.Numbered.{insert_last}
use Rattle.lsp_watch.proofs.UsedBy.{map_ok, map_err}
use Rattle.lsp_watch.specs.Indexed.{numbers, is_found, removed}
use Rattle.lsp_watch.proofs.requests.OpenRequests.put.Goals as goal

pub returns-in-Err-clause-undone : goal.returns-in-Err-clause-undone
returns-in-Err-clause-undone c = λ h. c.in-Err.ensures.err (fresh_in c.args.self.now h)

pub returns-in-Ok-clause-ok : goal.returns-in-Ok-clause-ok
returns-in-Ok-clause-ok c = λ h. map_ok c.insert.result
    (λ e. e ∙ insert_last 0 c.args.self.now.next c.args.self.now.requests.entries c.args.asked h.rises)
    c.insert.ensures.ok

pub returns-in-Ok-clause-noted : goal.returns-in-Ok-clause-noted
returns-in-Ok-clause-noted c = map_ok c.insert.result
    (λ e by. ap (λ n. numbers n by) e ∙ c.in-Ok.ensures.ok by) c.insert.ensures.noted

pub returns-in-Ok-clause-undone : goal.returns-in-Ok-clause-undone
returns-in-Ok-clause-undone c = λ h. map_err c.insert.result
    (λ e by. e by ∙ ap (removed (is_found by c.args.asked) c.args.self.now.next) (c.in-Ok.ensures.ok by)
    ∙ undone (is_found by c.args.asked) c.args.self.now.next (numbers c.args.self.now.numbers by)
    (fresh_in c.args.self.now h by)) c.insert.ensures.undone
