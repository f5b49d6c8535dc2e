use Rattle.std.proofs.Common.{sym, subst, ◌∙◌}
use Rattle.lsp_message.specs.View.{message_view}
use Rattle.lsp_message.specs.Written.{IsFrameOf}
use Rattle.lsp_testing.proofs.client.TestClient.send.Goals as goal

pub returns-in-Some-clause-passes : goal.returns-in-Some-clause-passes
returns-in-Some-clause-passes g c =
    let frame = c.as_bytes.result.now in
    let is_frame = subst (IsFrameOf (message_view c.args.message)) (sym c.as_bytes.ensures.value)
    c.in_ok-frame.ensures in
    let collected = c.in_ok-collect-in-Some.ensures in
    record {
      before = c.in-Some.session;
      after = c.receive.new.self;
      noted = c.add_sent.new.self;
      held_before = sym c.take.ensures.value ∙ c.in-Some.is;
      gets = (frame, c.receive.result, is_frame, c.receive.ensures.goes, c.receive.ensures.all);
      notes = (c.in_ok-add_sent-in-Some.ensures.line, c.add_sent.ensures.own);
      arrive = collected.arrive;
      holds = collected.holds;
    }
