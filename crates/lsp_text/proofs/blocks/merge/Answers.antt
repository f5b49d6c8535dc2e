use Rattle.std.proofs.Common.{◌+◌, sym, arith}
use Rattle.lsp_text.proofs.MergeLemmas.{merged_one}
use Rattle.lsp_text.proofs.blocks.merge.Goals as goal

pub returns-else-first-last-clause-ok : goal.returns-else-first-last-clause-ok
returns-else-first-last-clause-ok c =
    let f = c.if-first-last.false in
    let o = c.requires.in_order in
    sym (merged_one c.args.ends c.args.blocks.now.items c.args.first (c.args.last + 1) c.requires.blocks
    (let w = c.requires.within in omega (arith, o, w)) (omega (arith, o, f)))
