use Rattle.example_diagnostics.proofs.serve.Goals as goal

pub returns-clause-complete : goal.returns-clause-complete
returns-clause-complete g c =
    c.nothing_is_skipped.ensures c.args.checker.now c.serve.new.application _ _ _ (λ _ _ _ none. none)
    c.serve.ensures.serves

pub returns-clause-ends_well : goal.returns-clause-ends_well
returns-clause-ends_well g c =
    c.server_session_ends_well.ensures c.args.checker.now.server c.serve.new.application.server c.args.transport.now
    c.serve.new.self c.serve.result
    (c.nothing_is_skipped.ensures c.args.checker.now c.serve.new.application _ _ _ (λ _ _ _ none. none)
    c.serve.ensures.serves) c.serve.ensures.serves
