use Rattle.std.proofs.Common.{◌∙◌, IsSome, Some, refl, sym, ap, subst}
use Rattle.lsp_json.specs.Fits.{left_after_all}
use Rattle.lsp_json.specs.JsonText.{json_text_data}
use Rattle.lsp_json.specs.Text.{Stands, text_data}
use Rattle.lsp_json.proofs.Whole.{whole_text}
use Rattle.lsp_json.proofs.json_text.JsonText.read.Goals as goal

pub invariant_of-result : goal.invariant_of-result
invariant_of-result c =
    let ok = c.in-Ok.ensures.ok in
    let fit = subst (λ ts. IsSome (left_after_all ts 127)) (c.nodes.ensures.tokens ∙ ok.0)
    (c.if-not-fits.ensures refl) in
    record { stands = subst Stands (sym ok.0) (whole_text c.args.text.now ok.1 fit).0 }

pub returns : goal.returns
unfolding json_text_data
returns c =
    let ok = c.in-Ok.ensures.ok in
    let fit = subst (λ ts. IsSome (left_after_all ts 127)) (c.nodes.ensures.tokens ∙ ok.0)
    (c.if-not-fits.ensures refl) in
    (whole_text c.args.text.now ok.1 fit).1 ∙ ap (λ ts. Some (text_data ts)) (sym ok.0)
