use Rattle.std.proofs.Common.{rules}
use Rattle.lsp_watch.proofs.Indexing.{pushed}
use Rattle.lsp_watch.proofs.requests.OpenRequests.push.Goals as goal

pub returns-clause-indexed : goal.returns-clause-indexed
returns-clause-indexed c = λ h. pushed c.args.self.now
    (record { requests = c.put.new.self.requests; numbers = c.put.new.self.numbers; next = c.in-Some.next })
    c.args.asked h (c.in_ok-put.ensures.ok h) c.in_ok-put.ensures.noted (search rules)
