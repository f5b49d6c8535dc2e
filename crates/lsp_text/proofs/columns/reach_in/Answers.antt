use Rattle.std.proofs.lemmas.List.{take_rest}
use Rattle.lsp_text.proofs.ColumnLemmas.{boundary_in}
use Rattle.lsp_text.proofs.columns.reach_in.Goals as goal

pub returns-clause-boundary : goal.returns-clause-boundary
returns-clause-boundary c = boundary_in c.args.start c.reach-reached.result.place c.args.text.now _ c.requires
    (take_rest c.args.text.now c.args.start) c.reach-reached.ensures.within c.reach-reached.ensures.whole
