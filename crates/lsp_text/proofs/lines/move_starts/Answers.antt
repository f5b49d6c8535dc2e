use Rattle.std.proofs.Common.{rules, ◌+◌, ◌-◌, arith, ◌∙◌}
use Rattle.std.proofs.lemmas.List.{get_or-set_other}
use Rattle.lsp_text.proofs.StartLemmas.{move_more}
use Rattle.lsp_text.proofs.lines.move_starts.Goals as goal

pub loop-i-preserved : goal.loop-i-preserved
loop-i-preserved c = record {
  moved = move_more (λ s. s - c.args.from + c.args.to) c.args.starts.now c.loop-i.starts c.args.first c.loop-i.i
      (omega arith) (omega arith) c.loop-i.invariant.moved;
  as_many = search rules;
  left = λ k l. get_or-set_other c.loop-i.starts c.loop-i.i k _ 0 (λ e. omega arith) ∙ c.loop-i.invariant.left k
      (omega arith);
}
