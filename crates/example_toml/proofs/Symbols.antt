-- The keys that were found so far.
use Rattle.std.proofs.Common.{◌≡◌, ◌∙◌, refl, sym, ap, subst, inl, inr, ℕ, zero, suc, ◌+◌, List, [], ◌∷◌, ◌++◌}
use Rattle.std.proofs.Common.{append-nil, append_assoc}
use Rattle.std.proofs.Common.{length, arith}
use Rattle.std.proofs.Common.{Ok, Err, Result}
use Rattle.std.specs.Global.{Vec}
use Rattle.std.specs.Prelude.{IfOk}
use Rattle.std.specs.Str.Iter.{HasSubslice}
use Rattle.lsp_jobs.specs.declared.job.Interrupted.{Interrupted}
use Rattle.lsp_text.specs.Lines.{LinedText}
use Rattle.lsp_text.specs.declared.position.PositionEncoding.{PositionEncoding}
use Rattle.lsp_types.specs.declared.symbols.WorkspaceSymbol.{WorkspaceSymbol}
use Rattle.toml_outline.specs.Keys.{Key}
use Rattle.toml_outline.specs.Names.{name_of}
use Rattle.toml_outline.specs.Reading.{IsOutlineOf}
use Rattle.toml_outline.specs.Scanned.{keys_of}
use Rattle.toml_outline.specs.declared.outline.Outline.{Outline}
use Rattle.example_toml.specs.Searches.{AreFound, AreSymbolsOf, FindsKeys, IsSymbolOf}

-- one text more
pub found_more : (encoding : PositionEncoding) (word : List ℕ) (texts : List (List ℕ × LinedText))
    (t : List ℕ × LinedText) (symbols more : List WorkspaceSymbol) → AreFound encoding word texts symbols
    → FindsKeys encoding word t.0 t.1 more → AreFound encoding word (texts ++ t ∷ []) (symbols ++ more)
found_more encoding word [] t symbols more none are =
    (more, [], ap (λ (l : List WorkspaceSymbol). l ++ more) none ∙ sym (append-nil more), are, refl)
found_more encoding word (s ∷ texts) t symbols more found are = (
  found.0,
  found.1 ++ more,
  ap (λ (l : List WorkspaceSymbol). l ++ more) found.2 ∙ append_assoc found.0 found.1 more,
  found.3,
  found_more encoding word texts t found.1 more found.4 are,
)

-- the symbols of an outline are those of its text
pub finds_keys : (encoding : PositionEncoding) (word uri : List ℕ) (text : LinedText) (outline : Outline)
    → IsOutlineOf text.bytes outline → (result : Result (Vec WorkspaceSymbol) Interrupted)
    → IfOk result (λ found. AreSymbolsOf encoding word uri text (name_of outline.text.now (keys_of outline)) 0
    (keys_of outline) found.items)
    → IfOk result (λ found. FindsKeys encoding word uri text found.items)
finds_keys encoding word uri text outline is (Ok found) are = (
  outline,
  is,
  subst (λ (t : List ℕ). AreSymbolsOf encoding word uri text (name_of t (keys_of outline)) 0 (keys_of outline)
      found.items) is.read.same are,
)
finds_keys encoding word uri text outline is (Err e) are = tt

module _ (encoding : PositionEncoding) (word uri : List ℕ) (text : LinedText) (name : ℕ → List ℕ) where
  -- one key more, which has the word
  pub symbol_more : (at : ℕ) (keys : List Key) (symbols : List WorkspaceSymbol) (key : Key) (symbol : WorkspaceSymbol)
      → AreSymbolsOf encoding word uri text name at keys symbols → HasSubslice (name (at + length keys)) word
      → IsSymbolOf encoding uri text (name (at + length keys)) key symbol
      → AreSymbolsOf encoding word uri text name at (keys ++ key ∷ []) (symbols ++ symbol ∷ [])
  symbol_more at [] symbols key symbol none has is =
      let here : at + 0 ≡ at = omega arith in
      inl (
        subst (λ (i : ℕ). HasSubslice (name i) word) here has,
        symbol,
        [],
        ap (λ (l : List WorkspaceSymbol). l ++ symbol ∷ []) none,
        subst (λ (i : ℕ). IsSymbolOf encoding uri text (name i) key symbol) here is,
        refl,
      )
  symbol_more at (first ∷ keys) symbols key symbol are has is =
      let next : at + length (first ∷ keys) ≡ at + 1 + length keys = omega arith in
      let has_next : HasSubslice (name (at + 1 + length keys)) word =
      subst (λ (i : ℕ). HasSubslice (name i) word) next has in
      let is_next : IsSymbolOf encoding uri text (name (at + 1 + length keys)) key symbol =
      subst (λ (i : ℕ). IsSymbolOf encoding uri text (name i) key symbol) next is in
      elim are [
        | inl found ↦ inl (
          found.0,
          found.1,
          found.2 ++ symbol ∷ [],
          ap (λ (l : List WorkspaceSymbol). l ++ symbol ∷ []) found.3,
          found.4,
          symbol_more (at + 1) keys found.2 key symbol found.5 has_next is_next,
        )
        | inr others ↦ inr (others.0, symbol_more (at + 1) keys symbols key symbol others.1 has_next is_next)
      ]

  -- one key more, which has it not
  pub symbol_none : (at : ℕ) (keys : List Key) (symbols : List WorkspaceSymbol) (key : Key)
      → AreSymbolsOf encoding word uri text name at keys symbols → (HasSubslice (name (at + length keys)) word → ⊥)
      → AreSymbolsOf encoding word uri text name at (keys ++ key ∷ []) symbols
  symbol_none at [] symbols key none lacks =
      let here : at + 0 ≡ at = omega arith in
      inr (subst (λ (i : ℕ). HasSubslice (name i) word → ⊥) here lacks, none)
  symbol_none at (first ∷ keys) symbols key are lacks =
      let next : at + length (first ∷ keys) ≡ at + 1 + length keys = omega arith in
      let lacks_next : HasSubslice (name (at + 1 + length keys)) word → ⊥ =
      subst (λ (i : ℕ). HasSubslice (name i) word → ⊥) next lacks in
      elim are [
        | inl found ↦ inl (
          found.0,
          found.1,
          found.2,
          found.3,
          found.4,
          symbol_none (at + 1) keys found.2 key found.5 lacks_next,
        )
        | inr others ↦ inr (others.0, symbol_none (at + 1) keys symbols key others.1 lacks_next)
      ]
