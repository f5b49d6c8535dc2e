use Rattle.std.proofs.Common.{◌∙◌, ◌&&◌, ap, sym, refl, arith}
use Rattle.std.proofs.lemmas.Option.{slice_get_past, slice_get_read}
use Rattle.serde_json.specs.View.{view}
use Rattle.lsp_model.specs.Fits.{keeps}
use Rattle.lsp_model.proofs.FitsLemmas.{too_deep, no_type, has_type}
use Rattle.lsp_model.proofs.fitting.+fits.Goals as goal

pub fits-returns-then-levels-eq0 : goal.fits-returns-then-levels-eq0
fits-returns-then-levels-eq0 t c = too_deep _ _ _ _ _ c.if-levels-eq0.true

pub fits-returns-then-parts_fit : goal.fits-returns-then-parts_fit
fits-returns-then-parts_fit t c =
    let found = c.in-Some.ensures.lookup in
    let is = slice_get_read c.args.types.now _ c.args.at c.in-Some.form.now refl found.3.0 (found.4 (omega arith) _) in
    c.keeps.ensures
    ∙ ap (λ b. b && keeps c.in-Some.form.now c.args.mode (view c.args.value.now))
    (sym c.if-parts_fit.true ∙ c.parts_fit.ensures)
    ∙ sym (has_type _ _ _ _ _ _ c.if-levels-eq0.false is)

pub fits-returns-else-parts_fit : goal.fits-returns-else-parts_fit
fits-returns-else-parts_fit t c =
    let found = c.in-Some.ensures.lookup in
    let is = slice_get_read c.args.types.now _ c.args.at c.in-Some.form.now refl found.3.0 (found.4 (omega arith) _) in
    c.if-parts_fit.false
    ∙ ap (λ b. b && keeps c.in-Some.form.now c.args.mode (view c.args.value.now))
    (sym c.if-parts_fit.false ∙ c.parts_fit.ensures)
    ∙ sym (has_type _ _ _ _ _ _ c.if-levels-eq0.false is)

pub fits-returns-in-None : goal.fits-returns-in-None
fits-returns-in-None t c = no_type _ _ _ _ _ c.if-levels-eq0.false (slice_get_past _ _ c.in-None.ensures.lookup.3)
