use Rattle.std.proofs.Common.{Some, ◌++◌}
use Rattle.test_laws.proofs.streams.serve_bytes.Goals as goal

pub returns : goal.returns
returns g c = λ text before written reads writes wrote small.
    c.client_reads_what_was_sent.ensures.bytes _ _ _ text _ before written _ small
    (c.nothing_is_skipped_in_bytes.ensures c.args.service.now c.serve.new.application _ text _ _ _ (Some before)
    (Some (before ++ written)) _
    (λ _ _ _ none. none) (rw (reads, writes, wrote) at c.serve.ensures.known))
