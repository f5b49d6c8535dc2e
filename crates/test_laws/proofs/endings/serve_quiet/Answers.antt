use Rattle.serde_json.specs.View.{view}
use Rattle.test_laws.proofs.endings.serve_quiet.Goals as goal

pub returns : goal.returns
returns g c =
    c.transport_session_ends_well.ensures (view c.args.application.now.capabilities) c.args.application.now.handler
    c.serve.new.application.handler c.args.transport.now c.serve.new.self c.serve.result
    (c.nothing_is_skipped.ensures c.args.application.now c.serve.new.application _ _ _ (λ _ _ _ none. none)
    c.serve.ensures.serves) c.serve.ensures.serves
