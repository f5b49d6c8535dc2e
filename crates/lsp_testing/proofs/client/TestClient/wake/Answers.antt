use Rattle.std.proofs.Common.{refl, sym, ◌∙◌}
use Rattle.lsp_testing.proofs.client.TestClient.wake.Goals as goal

pub returns-in_ok-collect-in-Some : goal.returns-in_ok-collect-in-Some
returns-in_ok-collect-in-Some g c =
    let collected = c.in_ok-collect-in-Some.ensures in
    record {
      before = c.in-Some.session;
      after = c.woken.new.self;
      noted = c.args.self.now.traffic;
      held_before = sym c.take.ensures.value ∙ c.in-Some.is;
      gets = (c.woken.ensures.comes, c.woken.ensures.unread);
      notes = refl;
      arrive = collected.arrive;
      holds = collected.holds;
    }
