use Rattle.std.proofs.Common.{◌≡◌, refl, sym, ◌∙◌, ap, List, [], ◌∷◌, ◌++◌, map, append_assoc}
use Rattle.std.specs.Vec.Iter.{into_iter_items}
use Rattle.std.proofs.lemmas.List.{map-append}
use Rattle.std.proofs.lemmas.Result.{err_from_is_err_and}
use Rattle.lsp_session.proofs.Waiting.{FoldsTo-append}
use Rattle.lsp_session.specs.Boxes.{Takes}
use Rattle.lsp_session.specs.OutputView.{to_send_view}
use Rattle.lsp_session.specs.declared.loops.service.ToSend.{ToSend}
use Rattle.lsp_session.proofs.loops.service.send_all.Goals as goal

pub loop-message-preserved : goal.loop-message-preserved
loop-message-preserved g c =
    let before = c.loop-message.invariant in
    let rest : List ToSend = into_iter_items c.next.new.self in
    let output_of : into_iter_items c.loop-message.message-iterator ≡ c.in-Some.message
    ∷ rest = c.in-Some.ensures.steps.0 in (
      tt,
      tt,
      append_assoc c.loop-message.yielded (c.in-Some.message ∷ []) rest
          ∙ (ap (λ (l : List ToSend). c.loop-message.yielded ++ l) (sym output_of) ∙ before.2),
      rw (map-append to_send_view c.loop-message.yielded (c.in-Some.message ∷ []))
          (FoldsTo-append (Takes g.O.Outbox.sends) (map to_send_view c.loop-message.yielded)
          (to_send_view c.in-Some.message ∷ []) c.args.outbox.now c.loop-message.outbox c.send_one.new.outbox before.3
          (c.send_one.new.outbox, c.in_ok-send_one.ensures, refl)),
    )

pub returns-in_err-send_one : goal.returns-in_err-send_one
returns-in_err-send_one g c =
    let before = c.loop-message.invariant in
    let rest : List ToSend = into_iter_items c.next.new.self in
    let output_of : into_iter_items c.loop-message.message-iterator ≡ c.in-Some.message
    ∷ rest = c.in-Some.ensures.steps.0 in
    let whole : c.loop-message.yielded ++ c.in-Some.message ∷ rest ≡ c.args.messages.items = ap
    (λ (l : List ToSend). c.loop-message.yielded ++ l) (sym output_of) ∙ before.2 in
    let p = err_from_is_err_and c.from_residual.result c.from_residual.ensures.1 in
    rw p.1 (record {
      part = map to_send_view c.loop-message.yielded;
      unsent = to_send_view c.in-Some.message;
      more = map to_send_view rest;
      cut = ap (map to_send_view) (sym whole) ∙ map-append to_send_view c.loop-message.yielded (c.in-Some.message
          ∷ rest);
      mid = c.loop-message.outbox;
      taken = before.3;
      refusal = c.in_err-send_one.field-0.0;
      refuses = c.in_err-send_one.ensures;
      is = p.2;
    })
