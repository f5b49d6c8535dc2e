-- What is kept of a document whose text is known, and what is left of one whose text is lost.
use Rattle.std.specs.Prelude.{ℕ, ℤ, List, Option}
use Rattle.lsp_text.specs.Documents.{Document}
use Rattle.lsp_documents.specs.declared.kept_document.Origin.{Origin}

-- the document, the text of a save that is to be compared after the next notification, and where the text is from
pub record Kept : Type 0 where
  pub document : Document
  pub saved : Option (List ℕ)
  pub origin : Origin

abbrev pub kept_as : Document → Option (List ℕ) → Origin → Kept
kept_as document saved origin = record { document = document; saved = saved; origin = origin }

-- its language, and if changes came out of order its version before them
pub record Remains : Type 0 where
  pub language_id : List ℕ
  pub version : Option ℤ

abbrev pub remains : List ℕ → Option ℤ → Remains
remains language_id version = record { language_id = language_id; version = version }
