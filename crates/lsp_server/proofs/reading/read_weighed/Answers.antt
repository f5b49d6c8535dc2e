use Rattle.std.proofs.Common.{ℕ, List, Vec, Global, Ok, Err, subst}
use Rattle.std.proofs.lemmas.Result.{err_from_is_err_and}
use Rattle.lsp_message.specs.Frame.{body_means}
use Rattle.lsp_message.specs.ReadingSteps.{Decodes}
use Rattle.lsp_message.specs.View.{message_view}
use Rattle.lsp_message.proofs.ContentParts.{decoded, not_read, not_there}
use Rattle.lsp_server.specs.Weighing.{weighed_view}
use Rattle.lsp_server.proofs.Weighed.{not_begun, content_taken}
use Rattle.lsp_server.proofs.reading.read_weighed.Goals as goal

abbrev items : Vec ℕ Global → List ℕ
items content = content.items

pub returns-then-is_err-clause-read : goal.returns-then-is_err-clause-read
returns-then-is_err-clause-read g c = not_begun c.args.limits _

pub returns-in_err-content-clause-read : goal.returns-in_err-content-clause-read
returns-in_err-content-clause-read g c =
    let p = err_from_is_err_and c.from_residual.result c.from_residual.ensures.1 in
    rw (p.1, p.2) (not_read body_means c.args.limits weighed_view items _ _ _ c.in_err-content.ensures.exact)

pub returns-in-None-clause-read : goal.returns-in-None-clause-read
returns-in-None-clause-read g c =
    not_there body_means c.args.limits weighed_view items _ _ (rw (c.in_ok-content.was, c.in-None.is) at
    c.read_content_within.ensures.exact)

pub returns-then-is_err-2-clause-read : goal.returns-then-is_err-2-clause-read
returns-then-is_err-2-clause-read g c = content_taken c.args.limits items _ _ c.in-Some.content
    (rw (c.in_ok-content.was, c.in-Some.is) at c.read_content_within.ensures.exact)

pub returns-in_err-message-clause-read : goal.returns-in_err-message-clause-read
returns-in_err-message-clause-read g c =
    let read = rw (c.in_ok-content.was, c.in-Some.is) at c.read_content_within.ensures.exact in
    let p = err_from_is_err_and c.from_residual-in_err-message.result c.from_residual-in_err-message.ensures.1 in
    rw (p.1, p.2) (decoded body_means c.args.limits weighed_view items _ _ c.in-Some.content
    (Err c.in_err-message.field-0.0) read
    (subst (λ body. Decodes weighed_view (Err c.in_err-message.field-0.0) (body_means body)) c.deref-2.ensures.value
    c.in_err-message.ensures))

pub returns-clause-read : goal.returns-clause-read
returns-clause-read g c =
    let read = rw (c.in_ok-content.was, c.in-Some.is) at c.read_content_within.ensures.exact in
    decoded body_means c.args.limits message_view items _ _ c.in-Some.content (Ok c.in_ok-message.message) read
    (subst (λ body. Decodes message_view (Ok c.in_ok-message.message) (body_means body)) c.deref-2.ensures.value
    c.in_ok-message.ensures)
