use Rattle.std.proofs.Common.{rules, ◌≡◌, refl, sym, subst, append-nil, ℕ, false, List, [], ◌∷◌, inl, inr}
use Rattle.std.specs.Prelude.{IfSome}
use Rattle.lsp_acts.specs.Answering.{error_type}
use Rattle.lsp_documents.specs.Fault.{update_fault_text}
use Rattle.lsp_diagnostics.proofs.Heard.{one_line}
use Rattle.lsp_diagnostics.proofs.analysed.AnalysedDocuments.complain.Goals as goal

pub returns-then-eq-clause-logs : goal.returns-then-eq-clause-logs
returns-then-eq-clause-logs g c =
    let kept : c.args.missed.lost ≡ false = search rules in
    ([], sym (append-nil c.args.acts.now.items), inr (refl, kept))

pub returns-clause-logs : goal.returns-clause-logs
returns-clause-logs g c = (
  c.in_ok-log_message.field-0 ∷ [],
  c.in_ok-push.ensures.items,
  inl (one_line g.P.PartialEq.eq error_type (update_fault_text c.args.missed) c.as_str-2.result.now
      c.in_ok-log_message.field-0
      (subst (λ (words : List ℕ). IfSome (update_fault_text c.args.missed) (λ it. words ≡ it))
      (sym c.as_str-2.ensures.value) c.in_ok-line.ensures.ok) c.in_ok-log_message.ensures),
)
