use Rattle.test_laws.proofs.endings.serve_keeper.Goals as goal

pub returns : goal.returns
returns g c =
    c.server_session_ends_well.ensures c.args.application.now.server c.serve.new.application.server c.args.transport.now
    c.serve.new.self c.serve.result
    (c.nothing_is_skipped.ensures c.args.application.now c.serve.new.application _ _ _ (λ _ _ _ none. none)
    c.serve.ensures.serves) c.serve.ensures.serves
