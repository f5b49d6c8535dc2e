use Rattle.std.proofs.Common.{[], refl, sym, ◌∙◌}
use Rattle.lsp_judge.specs.Choice.{decides}
use Rattle.lsp_watch.specs.Log.{passed}
use Rattle.lsp_watch.specs.Orders.{is_in_each_order, needs_all}
use Rattle.test_logs.proofs.Passed.{finds, still_clean}
use Rattle.test_logs.proofs.Results.{if_ok}
use Rattle.test_logs.proofs.logs.observe.Goals as goal

pub returns-clause-right : goal.returns-clause-right
returns-clause-right c = λ log saw clean. if_ok c.observe.result (λ found said none.
    let still = still_clean _ c.args.place log c.args.direction _ _ clean (sym said.0 ∙ none) in
    record {
      clean = still;
      replies = c.a_clean_log_keeps_order.ensures.replies _ still;
      order = c.a_clean_log_keeps_order.ensures.order _ still;
    }) (c.observe.ensures.ok log saw)

pub returns-clause-sure : goal.returns-clause-sure
returns-clause-sure c = λ log other m first rest saw none some orders is. if_ok c.observe.result (λ found said first_is.
    c.a_sure_breach_is_in_each_order.ensures _ other orders
    (rw (finds is_in_each_order _ log c.args.direction _ _ m _ first rest said.0 none some first_is is) refl))
    (c.observe.ensures.ok log saw)

pub returns-clause-late : goal.returns-clause-late
returns-clause-late c = λ log other m first rest saw none some orders matched is.
    if_ok c.observe.result (λ found said first_is.
    c.a_late_breach_is_in_each_order.ensures.breach [] log other (passed c.args.direction c.args.place m)
    (record { last = refl; matched = matched }) orders
    (finds needs_all _ log c.args.direction _ _ m _ first rest said.0 none some first_is is))
    (c.observe.ensures.ok log saw)

pub returns-clause-decided : goal.returns-clause-decided
returns-clause-decided c = λ known log other m first rest unknown saw none some last orders is.
    if_ok c.observe.result (λ found said first_is.
    c.a_decided_breach_is_in_each_order.ensures known unknown [] log other (passed c.args.direction c.args.place m)
    last orders (finds (decides known) _ log c.args.direction _ _ m _ first rest said.0 none some first_is is))
    (c.observe.ensures.ok log saw)
