-- The documents whose text is known, and copies of their texts.
use Rattle.std.specs.Prelude.{◌≡◌, ℕ, List, ◌∷◌, ◌++◌, Option, option_map, map, string_bytes}
use Rattle.std.specs.Arc.{arc_value}
use Rattle.std.specs.List.{All, filter_map}
use Rattle.std.specs.declared.alloc.Global.{Global}
use Rattle.std.specs.declared.string.String.{String}
use Rattle.lsp_text.specs.Documents.{Document}
use Rattle.lsp_text.specs.Lines.{LinedText}
use Rattle.lsp_types.specs.FileUris.{Names}
use Rattle.lsp_documents.specs.Notices.{shown, document}
use Rattle.lsp_documents.specs.declared.kept.DocumentState.{DocumentState}
use Rattle.lsp_documents.specs.declared.known.DocumentSnapshot.{DocumentSnapshot}

-- the URI and the document of an entry, if its text is known
abbrev pub known_at : String Global × DocumentState → Option (List ℕ × Document)
known_at entry = option_map (λ d. (string_bytes entry.0, d)) (shown entry.1)

-- the same of each entry, in their order
abbrev pub known_in : List (String Global × DocumentState) → List (List ℕ × Document)
known_in entries = filter_map known_at entries

-- the URIs and the texts of documents
abbrev pub texts_in : List (List ℕ × Document) → List (List ℕ × LinedText)
texts_in known = map (λ k. (k.0, k.1.text)) known

-- no URI of these documents names the path
abbrev pub NoneNames : List ℕ → List (List ℕ × Document) → Type 0
NoneNames path known = All (λ k. Names k.0 path → ⊥) known

-- the first of these documents whose URI names the path
pub record IsFirstOf (path : List ℕ) (known : List (List ℕ × Document))
    (found : List ℕ × Document) : Type 0 where
  pub before : List (List ℕ × Document)
  pub behind : List (List ℕ × Document)
  pub stands : known ≡ before ++ (found ∷ behind)
  pub names : Names found.0 path
  pub is_first : NoneNames path before

-- the URIs and the texts of copies
abbrev pub copied : List DocumentSnapshot → List (List ℕ × LinedText)
copied copies = map (λ copy. (string_bytes copy.uri, arc_value copy.text)) copies

-- the same with the languages and the versions
abbrev pub copied_whole : List DocumentSnapshot → List (List ℕ × Document)
copied_whole copies = map (λ copy. (
  string_bytes copy.uri,
  document (string_bytes copy.language_id) copy.version (arc_value copy.text),
)) copies
