use Rattle.std.proofs.Common.{◌≡◌, ◌++◌, map, drop}
use Rattle.lsp_text.specs.Places.{position_of, IsCounted}
use Rattle.lsp_text.proofs.text.Text.positions_at.Given as goal

-- the positions so far, and then those that are left
abbrev pub invariant-loop-i : goal.invariant-loop-i
invariant-loop-i l = record {
  found : l.positions.items ++ map (position_of l.encoding l.self) (drop l.i l.offsets)
      ≡ map (position_of l.encoding l.self) l.offsets;
  counted : IsCounted l.encoding l.self l.mark.start l.mark.place l.mark.width.units l.mark.width.ended;
}
