use Rattle.lsp_message.specs.Frame.{no_limit}
use Rattle.test_laws.proofs.threads.serve_in_threads.Goals as goal

pub returns : goal.returns
returns g c = λ text done reads is.
    c.nothing_is_skipped_in_threads.ensures c.args.application.now c.run_in_threads.new.application _ no_limit text
    _ _ _ _ _ (λ _ _ _ none. none)
    (rw (reads, is, c.new-options.ensures.limits) at c.run_in_threads.ensures.session).session
