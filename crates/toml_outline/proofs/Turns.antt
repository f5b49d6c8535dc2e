-- A turn of each loop.
use Rattle.std.proofs.Common.{◌≡◌, refl, ℕ, zero, suc, ◌+◌, ◌-◌, ◌<◌, true, false, ◌==◌, List, [], ◌∷◌, ◌++◌}
use Rattle.std.proofs.Common.{length, get_or, drop, Option, None, Some, arith}
use Rattle.std.proofs.lemmas.List.{drop_more}
use Rattle.toml_parser.specs.Lexical.{first, skip_ws}
use Rattle.toml_outline.specs.declared.outline.Span.{Span}
use Rattle.toml_outline.specs.Keys.{Key, fails, goes, part, parts_from, skip_part}
use Rattle.toml_outline.specs.Lines.{after_newline, ends, faults, keys_from, line, reads}
use Rattle.toml_outline.specs.Values.{Inside, turn, turns}

pub newline_here : (text : List ℕ) (i : ℕ) → i < length text → (get_or text i 0 == 10) ≡ true
    → after_newline (drop i text) ≡ drop (i + 1) text
newline_here text i below is = rw (drop_more text i 0 below, is)

pub newline_later : (text : List ℕ) (i : ℕ) → i < length text → (get_or text i 0 == 10) ≡ false
    → after_newline (drop i text) ≡ after_newline (drop (i + 1) text)
newline_later text i below is = rw (drop_more text i 0 below, is)

module _ (text : List ℕ) where
  pub parts_more : (n : ℕ) (found : List Span) (rest end : List ℕ) → 0 < n → skip_part rest ≡ Some end
      → (first (skip_ws end) == 46) ≡ true
      → parts_from text n found rest
      ≡ parts_from text (n - 1) (found ++ part text rest end ∷ []) (skip_ws (drop 1 (skip_ws end)))
  unfolding parts_from
  parts_more zero found rest end some read dotted = absurd (omega arith)
  parts_more (suc n) found rest end some read dotted =
      let less : suc n - 1 ≡ n = omega arith in
      rw (read, dotted, less)

  pub parts_done : (n : ℕ) (found : List Span) (rest end : List ℕ) → 0 < n → skip_part rest ≡ Some end
      → (first (skip_ws end) == 46) ≡ false
      → parts_from text n found rest ≡ Some (found ++ part text rest end ∷ [], end, skip_ws end)
  unfolding parts_from
  parts_done zero found rest end some read last = absurd (omega arith)
  parts_done (suc n) found rest end some read last = rw (read, last)

  pub parts_bad : (n : ℕ) (found : List Span) (rest : List ℕ) → skip_part rest ≡ None
      → parts_from text n found rest ≡ None
  unfolding parts_from
  parts_bad zero found rest bad = refl
  parts_bad (suc n) found rest bad = rw bad

  pub parts_many : (found : List Span) (rest : List ℕ) → parts_from text 0 found rest ≡ None
  unfolding parts_from
  parts_many found rest = refl

  pub turns_more : (n : ℕ) (inside : Inside) (next : Option Inside) (rest rest2 : List ℕ) (keys keys2 : List Key)
      → 0 < n → turn text inside.1 inside.0 rest keys ≡ goes next rest2 keys2
      → turns text n (Some inside) rest keys ≡ turns text (n - 1) next rest2 keys2
  unfolding turns
  turns_more zero inside next rest rest2 keys keys2 some read = absurd (omega arith)
  turns_more (suc n) inside next rest rest2 keys keys2 some read =
      let less : suc n - 1 ≡ n = omega arith in
      rw (read, less)

  pub turns_bad : (n : ℕ) (inside : Inside) (rest : List ℕ) (keys keys2 : List Key) → 0 < n
      → turn text inside.1 inside.0 rest keys ≡ fails keys2 → turns text n (Some inside) rest keys ≡ fails keys2
  unfolding turns
  turns_bad zero inside rest keys keys2 some bad = absurd (omega arith)
  turns_bad (suc n) inside rest keys keys2 some bad = rw bad

  pub turns_none : (inside : Option Inside) (rest : List ℕ) (keys : List Key)
      → turns text 0 inside rest keys ≡ goes inside rest keys
  unfolding turns
  turns_none inside rest keys = refl

  pub turns_over : (n : ℕ) (rest : List ℕ) (keys : List Key) → turns text n None rest keys ≡ goes None rest keys
  unfolding turns
  turns_over zero rest keys = refl
  turns_over (suc n) rest keys = refl

  pub lines_over : (n : ℕ) (above : Option ℕ) (rest : List ℕ) (keys : List Key) (places : List ℕ)
      → line text above rest keys ≡ ends → keys_from text (suc n) above rest keys places ≡ keys
  unfolding keys_from
  lines_over n above rest keys places over = rw over

  pub lines_more : (n : ℕ) (above above2 : Option ℕ) (rest rest2 : List ℕ) (keys keys2 : List Key) (places : List ℕ)
      → line text above rest keys ≡ reads above2 rest2 keys2
      → keys_from text (suc n) above rest keys places ≡ keys_from text n above2 rest2 keys2 places
  unfolding keys_from
  lines_more n above above2 rest rest2 keys keys2 places read = rw read

  pub lines_bad : (n : ℕ) (above above2 : Option ℕ) (rest : List ℕ) (keys keys2 : List Key) (place : ℕ)
      (places : List ℕ)
      → line text above rest keys ≡ faults above2 keys2
      → keys_from text (suc n) above rest keys (place ∷ places)
      ≡ keys_from text n above2 (after_newline (drop place text)) keys2 places
  unfolding keys_from
  lines_bad n above above2 rest keys keys2 place places bad = rw bad
