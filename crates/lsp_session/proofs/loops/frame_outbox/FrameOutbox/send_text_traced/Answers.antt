use Rattle.std.proofs.Common.{refl, sym, ◌∙◌}
use Rattle.std.specs.Prelude.{Ok}
use Rattle.serde_json.specs.View.{view}
use Rattle.lsp_message.specs.Message.{response}
use Rattle.lsp_session.proofs.Sendings.{sent_whole, written}
use Rattle.lsp_session.proofs.loops.frame_outbox.FrameOutbox.send_text_traced.Goals as goal

pub returns-in-Ok-clause-sends : goal.returns-in-Ok-clause-sends
returns-in-Ok-clause-sends g c = (
  written (response c.args.id (Ok (view c.args.text))) _ _ c.args.self.now.fault
      (sym c.is_some.ensures ∙ c.if-is_some.false) c.in-Ok.ensures.frame,
  refl,
)

pub returns-in-Ok-clause-told : goal.returns-in-Ok-clause-told
returns-in-Ok-clause-told g c = sent_whole (response c.args.id (Ok (view c.args.text))) _ _
    c.args.self.now.fault _ _ (sym c.is_some.ensures ∙ c.if-is_some.false) c.in-Ok.ensures.told
