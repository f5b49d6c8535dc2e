use Rattle.std.proofs.Common.{◌≡◌, ℕ, ◌+◌, ◌-◌, ◌≤◌, ◌++◌, map, length, take, drop, slice_index}
use Rattle.lsp_text.proofs.lines.move_starts.Given as goal

abbrev pub invariant-loop-i : goal.invariant-loop-i
invariant-loop-i l = record {
  moved : l.starts ≡ take l.first l.initial.starts ++ (map (λ s. s - l.from + l.to) (take (l.i - l.first)
      (drop l.first l.initial.starts)) ++ drop (l.i - l.first) (drop l.first l.initial.starts));
  as_many : length l.starts ≡ length l.initial.starts;
  left : (k : ℕ) → l.i ≤ k → slice_index l.starts k ≡ slice_index l.initial.starts k;
}
