use Rattle.std.proofs.Common.{◌≡◌, sym, ◌∙◌, ap, map, List, [], ◌∷◌, ◌++◌, append_assoc}
use Rattle.std.proofs.lemmas.List.{map-append}
use Rattle.std.specs.Vec.Iter.{into_iter_items}
use Rattle.lsp_acts.specs.Acts.{Act as Plain}
use Rattle.lsp_acts.specs.View.{act_view}
use Rattle.lsp_message.specs.declared.msg.Notification.{Notification}
use Rattle.lsp_jobs.proofs.PendingLemmas.{all_taken}
use Rattle.lsp_jobs.specs.Inline.{told}
use Rattle.lsp_jobs.proofs.inline_jobs.push_notifications.Goals as goal

pub loop-notification-preserved : goal.loop-notification-preserved
loop-notification-preserved g c =
    let before = c.loop-notification.invariant in
    let done = c.loop-notification.yielded in
    let one = c.in-Some.notification in
    let first : List (Plain g.row.P.Denot) = map (act_view g.P.PartialEq.eq) c.args.acts.now.items in
    let rest : List Notification = into_iter_items c.next.new.self in
    let turn : into_iter_items c.loop-notification.notification-iterator ≡ one ∷ rest = c.in-Some.ensures.steps.0 in (
      tt,
      tt,
      append_assoc done (one ∷ []) rest ∙ (ap (λ (l : List Notification). done ++ l) (sym turn) ∙ before.2),
      c.in_ok-push_notification.ensures ∙ (ap (λ (l : List (Plain g.row.P.Denot)). l ++ told one ∷ []) before.3
          ∙ (append_assoc first (map told done) (told one ∷ [])
          ∙ ap (λ (l : List (Plain g.row.P.Denot)). first ++ l) (sym (map-append told done (one ∷ []))))),
    )

pub returns : goal.returns
returns g c =
    let first : List (Plain g.row.P.Denot) = map (act_view g.P.PartialEq.eq) c.args.acts.now.items in
    let none = sym c.loop-notification.notification-iterator.rest.ok.0 ∙ c.in-None.ensures.steps.0 in
    let all = all_taken c.loop-notification.yielded (into_iter_items c.loop-notification.notification-iterator)
    c.args.sent.items c.loop-notification.invariant.2 none in
    c.loop-notification.invariant.3 ∙ ap (λ (l : List Notification). first ++ map told l) all
