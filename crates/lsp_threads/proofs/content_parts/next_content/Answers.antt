use Rattle.std.proofs.Common.{◌≡◌, ◌∙◌, [], ap, arith, sym}
use Rattle.lsp_relay.specs.Relay.{has_end}
use Rattle.lsp_relay.proofs.Parcels.{has_end_push, has_end_closed}
use Rattle.lsp_threads.specs.Contents.{bytes_of, parts_of}
use Rattle.lsp_threads.proofs.ContentReads.{parts_after-end, parts_after-push}
use Rattle.lsp_threads.proofs.ContentWaits.{collects_then, collects_parcel, collects_end, empty_list}
use Rattle.lsp_threads.proofs.content_parts.next_content.Goals as goal

pub loop-preserved : goal.loop-preserved
loop-preserved g c =
    let so_far = c.loop.invariant in
    let none : c.loop.waiting.items ≡ [] = empty_list c.loop.waiting.items (omega (
      arith,
      c.loop.waiting.ok.0,
      (rw c.in-None-pop_front.is at c.pop_front.ensures.cases).0,
    )) in
    let grown = rw (c.in-Some-Message.is, c.in-Some-Message.field-0-is) at c.collect_or_wake.ensures.parcel in
    let collects = collects_parcel c.loop.rx.taken c.collect_or_wake.new.rx.taken c.loop.waiting.items
    c.from_vec.result.items c.in-Some-Message.contents none grown c.from_vec.ensures.items in
    record {
      relay = c.collect_or_wake.ensures.relay ∙ so_far.relay;
      known = (c.collect_or_wake.ensures.known.0 ∙ so_far.known.0, c.collect_or_wake.ensures.known.1 ∙ so_far.known.1);
      collects = collects_then _ c.loop.rx.taken _ _ (bytes_of c.loop.waiting.items) _ so_far.collects collects;
      still_open = ap has_end grown ∙ has_end_push c.loop.rx.taken c.in-Some-Message.contents ∙ so_far.still_open;
      wakes = (rw c.in-Some-Message.is at c.collect_or_wake.ensures.unwoken) ∙ so_far.wakes;
      account = sym (parts_after-push [] c.loop.rx.taken c.in-Some-Message.contents) ∙ ap parts_of (sym grown);
    }

pub returns-in-Some-End-clause-next : goal.returns-in-Some-End-clause-next
returns-in-Some-End-clause-next g c =
    let so_far = c.loop.invariant in
    let none : c.loop.waiting.items ≡ [] = empty_list c.loop.waiting.items (omega (
      arith,
      c.loop.waiting.ok.0,
      (rw c.in-None-pop_front.is at c.pop_front.ensures.cases).0,
    )) in
    let grown = rw (c.in-Some-End.is, c.in-Some-End.field-0-is) at c.collect_or_wake.ensures.parcel in (
      collects_then _ c.loop.rx.taken _ _ (bytes_of c.loop.waiting.items) _ so_far.collects
          (collects_end c.loop.rx.taken c.collect_or_wake.new.rx.taken c.loop.waiting.items none grown),
      ap has_end grown ∙ has_end_closed c.loop.rx.taken,
      (rw c.in-Some-End.is at c.collect_or_wake.ensures.unwoken) ∙ so_far.wakes,
    )

pub returns-in-Some-End-clause-account : goal.returns-in-Some-End-clause-account
returns-in-Some-End-clause-account g c =
    let grown = rw (c.in-Some-End.is, c.in-Some-End.field-0-is) at c.collect_or_wake.ensures.parcel in
    c.loop.invariant.account ∙ sym (ap parts_of grown ∙ parts_after-end [] c.loop.rx.taken)
