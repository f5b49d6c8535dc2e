use Rattle.std.proofs.Common.{◌≡◌, ◌||◌, drop}
use Rattle.lsp_text.specs.Edits.{edited_by, past_by}
use Rattle.lsp_text.proofs.document.apply_to_blocks.Given as goal

abbrev pub invariant-loop-change : goal.invariant-loop-change
invariant-loop-change l = record {
  edited : edited_by l.encoding l.initial.text l.changes ≡ edited_by l.encoding l.text (drop l.change-index l.changes);
  past : past_by l.encoding l.initial.text l.changes ≡ (l.past || past_by l.encoding l.text (drop l.change-index
      l.changes));
}
