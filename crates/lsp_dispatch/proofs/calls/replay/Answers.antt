use Rattle.std.proofs.Common.{subst, ◌≡◌, List, [], ◌∷◌, ◌++◌, ◌≤◌, length, length-append, arith, ◌∙◌, sym, ap}
use Rattle.std.proofs.Common.{append_assoc, rules, map as each}
use Rattle.std.proofs.lemmas.Result.{err_from_is_err_and}
use Rattle.std.proofs.ResultArms.{chosen}
use Rattle.std.specs.Prelude.{not}
use Rattle.std.specs.Vec.Iter.{into_iter_items}
use Rattle.lsp_dispatch.specs.DispatchAnswers.{answer_view, call_view}
use Rattle.lsp_dispatch.specs.Dispatch.{AnswersEach}
use Rattle.lsp_dispatch.specs.declared.calls.Call.{Call}
use Rattle.lsp_dispatch.proofs.LawLemmas.{replies_once, answers_each}
use Rattle.lsp_dispatch.proofs.Runs.{replayed_new, replayed_push, tickets_most}
use Rattle.lsp_message.proofs.Joined.{all_taken}
use Rattle.lsp_dispatch.proofs.calls.replay.Goals as goal

pub loop-call-init : goal.loop-call-init
loop-call-init c = (tt, tt, search rules, replayed_new _ _ c.in-Ok.ensures.items c.default-dispatcher.ensures)

pub loop-call-preserved : goal.loop-call-preserved
loop-call-preserved c =
    let before = c.loop-call.invariant in
    let rest : List Call = into_iter_items c.next.new.self in
    let turn : into_iter_items c.loop-call.call-iterator ≡ c.in-Some.call ∷ rest = c.in-Some.ensures.steps.0 in
    let whole : c.loop-call.yielded ++ c.in-Some.call ∷ rest ≡ c.args.calls.items = ap
    (λ (l : List Call). c.loop-call.yielded ++ l) (sym turn) ∙ before.2 in
    let pushed = chosen _ _ _ _ c.push-pushed.ensures.items (c.is_err-is_refused.ensures.negation
    ∙ ap not c.if-is_refused.false) in (
      tt,
      tt,
      append_assoc c.loop-call.yielded (c.in-Some.call ∷ []) rest ∙ whole,
      replayed_push c.loop-call.yielded c.loop-call.answers.items _ _ c.in-Some.call c.in_ok-answer.answer _ before.3
          c.in_ok-answer.ensures.ok pushed,
    )

pub returns-clause-once : goal.returns-clause-once
returns-clause-once c =
    let run = c.loop-call.invariant.3.run in
    let none = c.in-None.ensures.steps.0 in
    let all : c.loop-call.yielded ≡ c.args.calls.items = all_taken c.loop-call.yielded (into_iter_items
    c.loop-call.call-iterator) c.args.calls.items c.loop-call.invariant.2 (sym c.loop-call.call-iterator.rest.ok.0
    ∙ none) in
    replies_once (each call_view c.loop-call.yielded) (each answer_view c.loop-call.answers.items) run

pub returns-in_err-answer-clause-err : goal.returns-in_err-answer-clause-err
returns-in_err-answer-clause-err c =
    let most = tickets_most c.loop-call.yielded c.loop-call.answers.items c.loop-call.dispatcher c.loop-call.invariant.3
    in
    let within : length c.loop-call.yielded ≤ length c.args.calls.items = omega (
      arith,
      ap (λ (l : List Call). length l)
          c.loop-call.invariant.2,
      length-append c.loop-call.yielded (into_iter_items c.loop-call.call-iterator),
    ) in
    let only = c.in_err-answer.ensures.memory (λ e. omega (arith, most, within, e, c.args.calls.ok, c.args.calls.small))
    in
    let told = err_from_is_err_and c.from_residual.result c.from_residual.ensures.1 in
    rw (told.1, told.2) only

pub returns-clause-places : goal.returns-clause-places
returns-clause-places c =
    let none = c.in-None.ensures.steps.0 in
    let all : c.loop-call.yielded ≡ c.args.calls.items = all_taken c.loop-call.yielded (into_iter_items
    c.loop-call.call-iterator) c.args.calls.items c.loop-call.invariant.2 (sym c.loop-call.call-iterator.rest.ok.0
    ∙ none) in
    subst (λ (l : List Call). AnswersEach (each call_view l) (each answer_view c.loop-call.answers.items)) all
    (answers_each (each call_view c.loop-call.yielded) (each answer_view c.loop-call.answers.items)
    c.loop-call.invariant.3.run)
