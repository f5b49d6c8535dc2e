-- Where a place of a text is, as the client counts it (LSP 3.17, "Position").
use Rattle.std.specs.Prelude.{ℕ, ◌≤◌, Bool, length, min, slice_range}
use Rattle.lsp_text.specs.Columns.{line_of, column_of, Counts}
use Rattle.lsp_text.specs.Lines.{LinedText}
use Rattle.lsp_text.specs.declared.position.Position.{Position}
use Rattle.lsp_text.specs.declared.position.PositionEncoding.{PositionEncoding}

-- the position of a place, which is given in bytes. One past the end is the end
abbrev pub position_of : PositionEncoding → LinedText → ℕ → Position
position_of e text offset =
    let place = min offset (length text.bytes) in
    record {
      line = min (line_of text place) 0xFFFF_FFFF;
      character = min (column_of e text place) 0xFFFF_FFFF;
    }

-- the units of a text from one place up to another are counted
pub record IsCounted (e : PositionEncoding) (text : LinedText) (start place n : ℕ)
    (ended : Bool) : Type 0 where
  pub in_order : start ≤ place
  pub within : place ≤ length text.bytes
  pub counts : Counts text.ends e (slice_range text.bytes start place) n ended
