-- A document that a client has opened, and a change of it (LSP 3.17, "TextDocumentItem" and
-- "TextDocumentContentChangeEvent").
use Rattle.std.specs.Prelude.{ℕ, ℤ, List, Option}
use Rattle.lsp_text.specs.declared.position.Range.{Range}
use Rattle.lsp_text.specs.Lines.{LinedText}

-- other text in the place of a range; with no range, of the whole text
pub record Change : Type 0 where
  pub range : Option Range
  pub text : List ℕ

-- the language is the bytes of its UTF-8. The version is none if the client gave none
pub record Document : Type 0 where
  pub language_id : List ℕ
  pub version : Option ℤ
  pub text : LinedText
