use Rattle.std.proofs.Common.{◌≡◌, true, false, sym, ◌∙◌}
use Rattle.lsp_text.specs.Columns.{is_end}
use Rattle.lsp_text.proofs.ColumnLemmas.{past_at}
use Rattle.lsp_text.proofs.columns.is_past.Goals as goal

pub returns-then-ends_at : goal.returns-then-ends_at
returns-then-ends_at c = λ e n start le hp hl.
    let h : is_end c.args.ends c.args.reached.place c.args.text.now ≡ true = sym c.ends_at.ensures
    ∙ c.if-ends_at.true in
    rw h at (past_at c.args.ends e n start c.args.reached.place c.args.reached.left c.args.text.now le hp hl)

pub returns-else-ends_at : goal.returns-else-ends_at
returns-else-ends_at c = λ e n start le hp hl.
    let h : is_end c.args.ends c.args.reached.place c.args.text.now ≡ false = sym c.ends_at.ensures
    ∙ c.if-ends_at.false in
    c.if-ends_at.false ∙ (rw h at (past_at c.args.ends e n start c.args.reached.place c.args.reached.left
    c.args.text.now le hp hl))
