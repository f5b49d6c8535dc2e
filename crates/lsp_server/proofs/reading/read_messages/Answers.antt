use Rattle.std.proofs.Common.{◌≡◌, Ok, IfSome, false, map, true, sym, ap, subst, ◌∙◌}
use Rattle.lsp_message.specs.Frame.{reading_within}
use Rattle.lsp_message.specs.Messages.{is_exit}
use Rattle.lsp_message.specs.Reading.{Answers}
use Rattle.lsp_message.specs.View.{message_view}
use Rattle.lsp_server.specs.Weighing.{HandsOn, sends_one, weighed_view}
use Rattle.lsp_server.proofs.Weighed.{none_sent, one_sent}
use Rattle.lsp_session.proofs.Handing.{Handed-more, hands_exit, hands_refused, hands_end, hands_fault, hands_on}
use Rattle.lsp_server.proofs.reading.read_messages.Goals as goal

pub returns-in-Ok-None : goal.returns-in-Ok-None
returns-in-Ok-None g c =
    let read = subst (λ r. IfSome (g.B.Read.remaining c.loop.reader) (λ at. Answers weighed_view r (g.B.Read.remaining
    c.read_weighed.new.reader) (reading_within c.args.limits at)))
    (c.in-Ok-None.is ∙ ap Ok c.in-Ok-None.field-0-is) c.read_weighed.ensures.read in
    let so_far = none_sent c.args.limits _ _ _ _ _ c.read_weighed.ensures.unsent c.loop.invariant in
    hands_end c.args.limits sends_one weighed_view _ _ _ _ _ so_far read

pub returns-in-Err : goal.returns-in-Err
returns-in-Err g c =
    let read = subst (λ r. IfSome (g.B.Read.remaining c.loop.reader) (λ at. Answers weighed_view r (g.B.Read.remaining
    c.read_weighed.new.reader) (reading_within c.args.limits at)))
    c.in-Err.is c.read_weighed.ensures.read in
    let so_far = none_sent c.args.limits _ _ _ _ _ c.read_weighed.ensures.unsent c.loop.invariant in
    hands_fault c.args.limits sends_one weighed_view _ _ _ c.in-Err.fault _ _ so_far read

pub returns-in-Err-send : goal.returns-in-Err-send
returns-in-Err-send g c =
    let read = subst (λ r. IfSome (g.B.Read.remaining c.loop.reader) (λ at. Answers weighed_view r (g.B.Read.remaining
    c.read_weighed.new.reader) (reading_within c.args.limits at)))
    (c.in-Ok-Some.is ∙ ap Ok c.in-Ok-Some.field-0-is) c.read_weighed.ensures.read in
    let so_far = none_sent c.args.limits _ _ _ _ _ c.read_weighed.ensures.unsent c.loop.invariant in
    let refused = hands_refused c.args.limits sends_one weighed_view _ _ _ _ _ _ c.in-Ok-Some.weighed so_far read
    c.in-Err-send.fault (ap (map message_view) c.in-Err-send.ensures.err.1) in
    subst (λ end. IfSome (g.B.Read.remaining c.args.reader.now) (λ text. HandsOn c.args.limits text (map message_view
    c.args.outlet.now.sent.messages) (g.B.Read.remaining c.read_weighed.new.reader) end (map message_view
    c.send.new.self.sent.messages))) (sym c.from.ensures) refused

pub returns-then-is_last : goal.returns-then-is_last
returns-then-is_last g c =
    let read = subst (λ r. IfSome (g.B.Read.remaining c.loop.reader) (λ at. Answers weighed_view r (g.B.Read.remaining
    c.read_weighed.new.reader) (reading_within c.args.limits at)))
    (c.in-Ok-Some.is ∙ ap Ok c.in-Ok-Some.field-0-is) c.read_weighed.ensures.read in
    let so_far = none_sent c.args.limits _ _ _ _ _ c.read_weighed.ensures.unsent c.loop.invariant in
    let last : is_exit (message_view c.in-Ok-Some.weighed.message) ≡ true = sym c.is_exit-is_last.ensures
    ∙ c.if-is_last.true in
    hands_exit c.args.limits sends_one weighed_view _ _ _ _ _ _ c.in-Ok-Some.weighed so_far read (one_sent _ _ _
    c.in-Ok.ensures.ok) last

pub loop-preserved : goal.loop-preserved
loop-preserved g c =
    let read = subst (λ r. IfSome (g.B.Read.remaining c.loop.reader) (λ at. Answers weighed_view r (g.B.Read.remaining
    c.read_weighed.new.reader) (reading_within c.args.limits at)))
    (c.in-Ok-Some.is ∙ ap Ok c.in-Ok-Some.field-0-is) c.read_weighed.ensures.read in
    let so_far = none_sent c.args.limits _ _ _ _ _ c.read_weighed.ensures.unsent c.loop.invariant in
    let goes : is_exit (message_view c.in-Ok-Some.weighed.message) ≡ false = sym c.is_exit-is_last.ensures
    ∙ c.if-is_last.false in
    Handed-more c.args.limits sends_one weighed_view _ _ _ _ _ _ c.in-Ok-Some.weighed so_far read (one_sent _ _ _
    c.in-Ok.ensures.ok) goes

pub returns : goal.returns
returns g c = hands_on c.args.limits sends_one _ _ _ _ c.loop.invariant
