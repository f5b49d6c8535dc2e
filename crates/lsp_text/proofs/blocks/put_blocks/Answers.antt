use Rattle.std.proofs.Common.{◌≡◌, Ok, List, refl, ◌∙◌}
use Rattle.std.proofs.lemmas.Iterator.Adapters.{YieldsList-from_vec, items_from_extend}
use Rattle.std.specs.List.{splice}
use Rattle.lsp_text.specs.Lines.{LinedText}
use Rattle.lsp_text.proofs.blocks.put_blocks.Goals as goal

pub returns-clause-ok : goal.returns-clause-ok
returns-clause-ok c =
    let h = c.in_ok-splice.ensures.items in
    items_from_extend {E = Unit {0}} {P = λ (xs : List LinedText). c.splice.new.self.items
    ≡ splice c.args.blocks.now.items c.args.from c.args.to xs} (Ok tt) (h.0, h.1, refl, h.4, h.3)
    (YieldsList-from_vec c.args.new.items h.2.0 (h.2.1 ∙ c.args.new.ok.0))
