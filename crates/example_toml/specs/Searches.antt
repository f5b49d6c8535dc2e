-- What a search of the open texts finds (LSP 3.17, "Workspace Symbols Request").
use Rattle.serde_json.specs.Data.{Data, array}
use Rattle.serde_json.specs.Find.{as_str, get}
use Rattle.serde_json.specs.View.{items_of}
use Rattle.std.specs.Prelude.{◌≡◌, ◌⊎◌, ℕ, ◌+◌, List, [], ◌∷◌, ◌++◌, Option, None, Some, option_and_then, Err, Ok}
use Rattle.std.specs.Prelude.{codes, map, string_bytes}
use Rattle.std.specs.Str.Iter.{HasSubslice}
use Rattle.lsp_jobs.specs.Ends.{Outcome}
use Rattle.lsp_message.specs.ErrorCode.{number_of}
use Rattle.lsp_message.specs.Message.{ErrorObject}
use Rattle.lsp_message.specs.declared.msg.code.ErrorCode.TheVariants.{InvalidParams}
use Rattle.lsp_text.specs.Lines.{LinedText}
use Rattle.lsp_text.specs.Places.{position_of}
use Rattle.lsp_text.specs.declared.position.PositionEncoding.{PositionEncoding}
use Rattle.lsp_types.specs.declared.documents.Location.{Location}
use Rattle.lsp_types.specs.declared.symbols.WorkspaceSymbol.{WorkspaceSymbol}
use Rattle.lsp_types.specs.declared.symbols.WorkspaceSymbolLocation.TheVariants.{Place}
use Rattle.toml_outline.specs.Keys.{Key}
use Rattle.toml_outline.specs.Names.{name_of}
use Rattle.toml_outline.specs.Reading.{IsOutlineOf}
use Rattle.toml_outline.specs.Scanned.{keys_of}
use Rattle.toml_outline.specs.declared.outline.Outline.{Outline}

-- the word that a request searches for, if it gives one
abbrev pub word_in : Data → Option (List ℕ)
word_in params = option_and_then as_str (get (codes "query") params)

-- the error for a search without a word
abbrev pub no_query : ErrorObject
no_query = record { code = number_of InvalidParams; message = codes "no `query`"; details = None }

-- A symbol shows a key of a text: it has the key's name, and stands at the key, under the URI of the text.
pub record IsSymbolOf (encoding : PositionEncoding) (uri : List ℕ) (text : LinedText) (called : List ℕ) (key : Key)
    (symbol : WorkspaceSymbol) : Type 0 where
  pub name : string_bytes symbol.name ≡ called
  pub location : Location
  pub stands : symbol.location ≡ Place location
  pub under : string_bytes location.uri ≡ uri
  pub start : location.range.start ≡ position_of encoding text key.place.start
  pub end : location.range.end ≡ position_of encoding text key.place.end

module _ (encoding : PositionEncoding) (word : List ℕ) where
  -- These symbols show the keys whose names have the word, each once and in order. The names go by the keys' numbers.
  abbrev pub AreSymbolsOf : List ℕ → LinedText → (ℕ → List ℕ) → ℕ → List Key → List WorkspaceSymbol → Type 0
  AreSymbolsOf uri text name at [] symbols = symbols ≡ []
  AreSymbolsOf uri text name at (key ∷ keys) symbols =
      (HasSubslice (name at) word × (symbol : WorkspaceSymbol) × (others : List WorkspaceSymbol)
      × (symbols ≡ symbol ∷ others) × IsSymbolOf encoding uri text (name at) key symbol
      × AreSymbolsOf uri text name (at + 1) keys others)
      ⊎ (¬ (HasSubslice (name at) word) × AreSymbolsOf uri text name (at + 1) keys symbols)

  -- These symbols show all keys of a text whose names have the word.
  abbrev pub FindsKeys : List ℕ → LinedText → List WorkspaceSymbol → Type 0
  FindsKeys uri text symbols = (outline : Outline) × IsOutlineOf text.bytes outline
      × AreSymbolsOf uri text (name_of text.bytes (keys_of outline)) 0 (keys_of outline) symbols

  -- They are those of all texts, text after text. A text stands beside its URI.
  abbrev pub AreFound : List (List ℕ × LinedText) → List WorkspaceSymbol → Type 0
  AreFound [] symbols = symbols ≡ []
  AreFound (t ∷ texts) symbols =
      (first : List WorkspaceSymbol) × (others : List WorkspaceSymbol) × (symbols ≡ first ++ others)
      × FindsKeys t.0 t.1 first × AreFound texts others

-- `written` is how symbols are written.
module _ (written : WorkspaceSymbol → Data) where
  -- the tree is a list of such symbols
  abbrev pub FindsSymbols : PositionEncoding → List ℕ → List (List ℕ × LinedText) → Data → Type 0
  FindsSymbols encoding word texts tree = (symbols : List WorkspaceSymbol)
      × (tree ≡ array (items_of (map written symbols))) × AreFound encoding word texts symbols

  -- A request with these params is answered with the symbols that a search of these texts for its word finds.
  abbrev pub AnswersSearch : List (List ℕ × LinedText) → Data → Outcome → Type 0
  AnswersSearch texts params outcome = (encoding : PositionEncoding) × (word : List ℕ) × (tree : Data)
      × (word_in params ≡ Some word) × (outcome ≡ Ok tree) × FindsSymbols encoding word texts tree

  -- The same, or the error for a search without a word.
  abbrev pub AnswersOrRefuses : List (List ℕ × LinedText) → Data → Outcome → Type 0
  AnswersOrRefuses texts params outcome =
      AnswersSearch texts params outcome ⊎ ((word_in params ≡ None) × (outcome ≡ Err no_query))
