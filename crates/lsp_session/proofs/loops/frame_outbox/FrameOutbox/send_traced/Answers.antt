use Rattle.std.proofs.Common.{refl, sym, ◌∙◌}
use Rattle.lsp_message.specs.View.{message_view}
use Rattle.lsp_session.proofs.Sendings.{sent_whole, written}
use Rattle.lsp_session.proofs.loops.frame_outbox.FrameOutbox.send_traced.Goals as goal

pub returns-in-Ok-clause-sends : goal.returns-in-Ok-clause-sends
returns-in-Ok-clause-sends g c = (
  written (message_view c.args.message) _ _ c.args.self.now.fault
      (sym c.is_some.ensures ∙ c.if-is_some.false) c.in-Ok.ensures.frame,
  refl,
)

pub returns-in-Ok-clause-told : goal.returns-in-Ok-clause-told
returns-in-Ok-clause-told g c = sent_whole (message_view c.args.message) _ _
    c.args.self.now.fault _ _ (sym c.is_some.ensures ∙ c.if-is_some.false) c.in-Ok.ensures.told
