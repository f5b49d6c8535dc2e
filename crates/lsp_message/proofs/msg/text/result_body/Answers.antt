use Rattle.std.proofs.Common.{◌≡◌, ◌∙◌, ◌++◌, Ok, string_bytes, ap, subst, sym}
use Rattle.std.proofs.lemmas.Str.{IsUtf8-string_bytes}
use Rattle.lsp_message.specs.Message.{response}
use Rattle.lsp_message.specs.Text.{IsBodyOf}
use Rattle.lsp_message.proofs.ReadsBack.{body_reads_back}
use Rattle.lsp_message.proofs.msg.text.result_body.Goals as goal

pub returns-clause-reads_back : goal.returns-clause-reads_back
returns-clause-reads_back c = λ tree is.
    let reply = response c.args.id.now (Ok tree) in
    let out = c.push_result_text.new.out in
    let added = c.in_ok-push_result_text.ensures.text tree is in
    let whole : string_bytes out ≡ added.0 = added.2 ∙ ap (λ l. l ++ added.0) c.in_ok-out.ensures.bytes in
    λ shallow. body_reads_back reply (string_bytes out) (IsUtf8-string_bytes out)
    c.in_ok-push_result_text.ensures.range shallow (subst (IsBodyOf reply) (sym whole) added.1)

pub returns-clause-text : goal.returns-clause-text
returns-clause-text c = λ tree is.
    let out = c.push_result_text.new.out in
    let added = c.in_ok-push_result_text.ensures.text tree is in
    let whole : string_bytes out ≡ added.0 = added.2 ∙ ap (λ l. l ++ added.0) c.in_ok-out.ensures.bytes in
    subst (IsBodyOf (response c.args.id.now (Ok tree))) (sym whole) added.1
