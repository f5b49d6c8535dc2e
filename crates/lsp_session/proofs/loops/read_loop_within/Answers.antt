use Rattle.std.proofs.Common.{◌≡◌, Ok, IfSome, false, true, sym, ap, subst, ◌∙◌}
use Rattle.lsp_message.specs.Frame.{reading_within}
use Rattle.lsp_message.specs.Messages.{is_exit}
use Rattle.lsp_message.specs.Reading.{Answers}
use Rattle.lsp_message.specs.View.{message_view}
use Rattle.lsp_message.specs.Limits.{of_content}
use Rattle.lsp_session.specs.ReadLoop.{Hands}
use Rattle.lsp_session.proofs.Handing.{offers_more, Handed-more, hands_exit, hands_refused, hands_end, hands_fault}
use Rattle.lsp_session.proofs.Handing.{hands_on}
use Rattle.lsp_session.proofs.loops.read_loop_within.Goals as goal

pub returns-in-Ok-None-clause-handed : goal.returns-in-Ok-None-clause-handed
returns-in-Ok-None-clause-handed g c =
    let read = subst (λ r. IfSome (g.R.Read.remaining c.loop.reader) (λ at. Answers message_view r (g.R.Read.remaining
    c.read_within.new.reader) (reading_within (of_content c.args.limit) at)))
    (c.in-Ok-None.is ∙ ap Ok c.in-Ok-None.field-0-is) c.read_within.ensures.exact in
    hands_end (of_content c.args.limit) g.O.Outbox.sends message_view _ _ _ _ _ c.loop.invariant.handed read

pub returns-in-Err-clause-handed : goal.returns-in-Err-clause-handed
returns-in-Err-clause-handed g c =
    let read = subst (λ r. IfSome (g.R.Read.remaining c.loop.reader) (λ at. Answers message_view r (g.R.Read.remaining
    c.read_within.new.reader) (reading_within (of_content c.args.limit) at)))
    c.in-Err.is c.read_within.ensures.exact in
    hands_fault (of_content c.args.limit) g.O.Outbox.sends message_view _ _ _ c.in-Err.fault _ _
    c.loop.invariant.handed read

pub returns-in-Err-send-clause-handed : goal.returns-in-Err-send-clause-handed
returns-in-Err-send-clause-handed g c =
    let read = subst (λ r. IfSome (g.R.Read.remaining c.loop.reader) (λ at. Answers message_view r (g.R.Read.remaining
    c.read_within.new.reader) (reading_within (of_content c.args.limit) at)))
    (c.in-Ok-Some.is ∙ ap Ok c.in-Ok-Some.field-0-is) c.read_within.ensures.exact in
    let refused = hands_refused (of_content c.args.limit) g.O.Outbox.sends message_view _ _ _ _ _ _ c.in-Ok-Some.message
    c.loop.invariant.handed read c.in-Err-send.fault c.in-Err-send.ensures.sends in
    subst (λ end. IfSome (g.R.Read.remaining c.args.reader.now) (λ text. Hands (of_content c.args.limit)
    g.O.Outbox.sends text c.args.outbox.now c.send.new.self (g.R.Read.remaining c.read_within.new.reader) end))
    (sym c.from.ensures) refused

pub returns-then-is_last-clause-handed : goal.returns-then-is_last-clause-handed
returns-then-is_last-clause-handed g c =
    let read = subst (λ r. IfSome (g.R.Read.remaining c.loop.reader) (λ at. Answers message_view r (g.R.Read.remaining
    c.read_within.new.reader) (reading_within (of_content c.args.limit) at)))
    (c.in-Ok-Some.is ∙ ap Ok c.in-Ok-Some.field-0-is) c.read_within.ensures.exact in
    let last : is_exit (message_view c.in-Ok-Some.message) ≡ true = sym c.is_exit-is_last.ensures ∙ c.if-is_last.true in
    hands_exit (of_content c.args.limit) g.O.Outbox.sends message_view _ _ _ _ _ _ c.in-Ok-Some.message
    c.loop.invariant.handed read c.in-Ok.ensures.sends last

pub loop-preserved : goal.loop-preserved
loop-preserved g c =
    let read = subst (λ r. IfSome (g.R.Read.remaining c.loop.reader) (λ at. Answers message_view r (g.R.Read.remaining
    c.read_within.new.reader) (reading_within (of_content c.args.limit) at)))
    (c.in-Ok-Some.is ∙ ap Ok c.in-Ok-Some.field-0-is) c.read_within.ensures.exact in
    let goes : is_exit (message_view c.in-Ok-Some.message) ≡ false = sym c.is_exit-is_last.ensures
    ∙ c.if-is_last.false in
    record {
      handed = Handed-more (of_content c.args.limit) g.O.Outbox.sends message_view _ _ _ _ _ _ c.in-Ok-Some.message
          c.loop.invariant.handed read c.in-Ok.ensures.sends goes;
      offered = offers_more g.O.Outbox.sends _ _ _ _ _ c.loop.invariant.offered c.in-Ok.ensures.sends;
    }

pub returns-clause-handed : goal.returns-clause-handed
returns-clause-handed g c = hands_on (of_content c.args.limit) g.O.Outbox.sends _ _ _ _ c.loop.invariant.handed

pub returns-in-Err-send-clause-offered : goal.returns-in-Err-send-clause-offered
returns-in-Err-send-clause-offered g c = offers_more g.O.Outbox.sends _ _ _ _ _ c.loop.invariant.offered
    c.in-Err-send.ensures.sends

pub returns-then-is_last-clause-offered : goal.returns-then-is_last-clause-offered
returns-then-is_last-clause-offered g c = offers_more g.O.Outbox.sends _ _ _ _ _ c.loop.invariant.offered
    c.in-Ok.ensures.sends
