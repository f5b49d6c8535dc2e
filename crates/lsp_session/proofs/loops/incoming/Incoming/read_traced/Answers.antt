use Rattle.std.proofs.Common.{ℕ, List, Vec, Global, Some, None, Ok, Err}
use Rattle.std.proofs.lemmas.Result.{err_from_is_err_and}
use Rattle.lsp_message.specs.Frame.{reading_within}
use Rattle.lsp_message.proofs.Told.{told_known}
use Rattle.lsp_session.specs.Incoming.{incoming_view}
use Rattle.lsp_session.proofs.Incoming.{told_came, told_no_more, told_not_read}
use Rattle.lsp_session.proofs.loops.incoming.Incoming.read_traced.Goals as goal

abbrev items : Vec ℕ Global → List ℕ
items content = content.items

pub returns-in_err-content-clause-told : goal.returns-in_err-content-clause-told
returns-in_err-content-clause-told g c =
    let p = err_from_is_err_and c.from_residual.result c.from_residual.ensures.1 in
    rw (p.1, p.2) (told_not_read incoming_view items c.args.limits _ _ _ _ _ c.in_err-content.ensures.told)

pub returns-in-None-clause-told : goal.returns-in-None-clause-told
returns-in-None-clause-told g c =
    told_no_more incoming_view items c.args.limits _ _ _ _ (rw (c.in_ok-content.was, c.in-None.is) at
    c.read_content_traced.ensures.told)

pub returns-in_err-in_content-clause-told : goal.returns-in_err-in_content-clause-told
returns-in_err-in_content-clause-told g c =
    let p = err_from_is_err_and c.from_residual-in_err-in_content.result c.from_residual-in_err-in_content.ensures.1
    in
    rw (p.1, p.2) (told_came incoming_view items c.args.limits _ _ _ _ c.in-Some.content
    (Err c.in_err-in_content.field-0.0) c.in_err-in_content.ensures.decodes
    (rw (c.in_ok-content.was, c.in-Some.is) at c.read_content_traced.ensures.told))

pub returns-clause-told : goal.returns-clause-told
returns-clause-told g c =
    told_came incoming_view items c.args.limits _ _ _ _ c.in-Some.content (Ok c.in_ok-in_content.field-0)
    c.in_ok-in_content.ensures.decodes (rw (c.in_ok-content.was, c.in-Some.is) at c.read_content_traced.ensures.told)

pub returns-in_err-content-clause-exact : goal.returns-in_err-content-clause-exact
returns-in_err-content-clause-exact g c = told_known incoming_view (reading_within c.args.limits) _ _ _ _ _
    (returns-in_err-content-clause-told g c)

pub returns-in-None-clause-exact : goal.returns-in-None-clause-exact
returns-in-None-clause-exact g c = told_known incoming_view (reading_within c.args.limits) (Ok None) _ _ _ _
    (returns-in-None-clause-told g c)

pub returns-in_err-in_content-clause-exact : goal.returns-in_err-in_content-clause-exact
returns-in_err-in_content-clause-exact g c = told_known incoming_view (reading_within c.args.limits) _ _ _ _ _
    (returns-in_err-in_content-clause-told g c)

pub returns-clause-exact : goal.returns-clause-exact
returns-clause-exact g c = told_known incoming_view (reading_within c.args.limits) (Ok (Some
    c.in_ok-in_content.field-0)) _ _ _ _ (returns-clause-told g c)
