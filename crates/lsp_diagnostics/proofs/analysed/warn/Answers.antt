use Rattle.std.proofs.Common.{rules, ◌≡◌, sym, subst, ℕ, List, None}
use Rattle.std.specs.Prelude.{IfSome}
use Rattle.lsp_documents.specs.Fault.{update_text}
use Rattle.lsp_diagnostics.proofs.Heard.{no_warning, one_line, one_warning}
use Rattle.lsp_diagnostics.specs.Logged.{warning_type}
use Rattle.lsp_diagnostics.proofs.analysed.warn.Goals as goal

pub returns-then-is_none : goal.returns-then-is_none
returns-then-is_none g c =
    let none : c.args.update.warning ≡ None = search rules in
    no_warning g.P.PartialEq.eq c.args.update c.args.acts.now.items none

pub returns : goal.returns
returns g c =
    one_warning g.P.PartialEq.eq c.args.update c.args.acts.now.items _ c.in_ok-log_message.field-0 (search rules)
    c.in_ok-push.ensures.items
    (one_line g.P.PartialEq.eq warning_type (update_text c.args.update) c.as_str.result.now
    c.in_ok-log_message.field-0
    (subst (λ (words : List ℕ). IfSome (update_text c.args.update) (λ it. words ≡ it)) (sym c.as_str.ensures.value)
    c.in_ok-line.ensures.ok) c.in_ok-log_message.ensures)
