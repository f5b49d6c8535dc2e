use Rattle.std.proofs.Common.{◌≡◌, ◌==◌, ◌+◌, count_by, drop}
use Rattle.lsp_model.proofs.lines.count_line_feeds.Given as goal

-- the line feeds that are left are the others
abbrev pub invariant-loop-byte : goal.invariant-loop-byte
invariant-loop-byte l =
    l.count + count_by (λ b. b == 10) (drop l.byte-index l.text) ≡ count_by (λ b. b == 10) l.text
