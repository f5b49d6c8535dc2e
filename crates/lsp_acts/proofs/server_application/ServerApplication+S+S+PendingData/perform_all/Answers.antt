use Rattle.std.proofs.Common.{◌≡◌, sym, ◌∙◌, ap, subst, ℕ, List, [], ◌∷◌, ◌++◌, map, append_assoc}
use Rattle.std.specs.Vec.Iter.{into_iter_items}
use Rattle.std.proofs.lemmas.List.{map-append}
use Rattle.lsp_queue.specs.Queue.{count_of}
use Rattle.lsp_acts.specs.Acts.{Queues, TakesBack, does, does_all, unsent, unsent_by}
use Rattle.lsp_acts.specs.View.{act_view, queues_of}
use Rattle.lsp_acts.specs.declared.server.Act as rust
use Rattle.lsp_acts.proofs.Acting.{does_push, unsent_push, takes_more}
use Rattle.lsp_acts.proofs.server_application.«ServerApplication+S+S+PendingData».perform_all.Goals as goal

pub loop-act-preserved : goal.loop-act-preserved
loop-act-preserved g c =
    let before = c.loop-act.invariant in
    let rest : List (rust.Act _) = into_iter_items c.next.new.self in
    let turn : into_iter_items c.loop-act.act-iterator ≡ c.in-Some.act ∷ rest = c.in-Some.ensures.steps.0 in
    let start : Queues _ = queues_of c.args.self.now.queues in
    let view = act_view g.S.PendingData.PartialEq.eq in
    let acts = map view c.loop-act.yielded in
    let act = view c.in-Some.act in
    let joined : map view (c.loop-act.yielded ++ c.in-Some.act ∷ []) ≡ acts ++ act ∷ [] = map-append view
    c.loop-act.yielded (c.in-Some.act ∷ []) in (
      tt,
      tt,
      append_assoc c.loop-act.yielded (c.in-Some.act ∷ []) rest ∙ (ap (λ (l : List (rust.Act _)). c.loop-act.yielded
          ++ l) (sym turn) ∙ before.2),
      c.in_ok-perform.ensures.queues ∙ (ap (λ (d : Queues _). does d act) before.3
          ∙ (sym (does_push start acts act) ∙ ap (does_all start) (sym joined))),
      rw (joined, unsent_push start acts act) (takes_more g.S.Server.ids_exhausted_post _ _ _
          (unsent (count_of start.asked)
          acts) (unsent_by (count_of (does_all start acts).asked) act) before.4
          (subst (λ (n : ℕ). TakesBack g.S.Server.ids_exhausted_post c.loop-act.self.server (unsent_by n act)
          c.perform.new.self.server) (ap (λ (d : Queues _). count_of d.asked) before.3)
          c.in_ok-perform.ensures.back)),
    )
