use Rattle.std.proofs.Common.{◌≡◌, ◌∙◌, refl, sym, ap, subst, ℕ, ◌<◌, ◌+◌, take, true, false, List, [], ◌∷◌, ◌++◌}
use Rattle.std.proofs.Common.{length, map, string_bytes}
use Rattle.std.proofs.Common.{arith}
use Rattle.std.proofs.lemmas.Grind.{take_at_read}
use Rattle.std.proofs.lemmas.List.{length-map, length-take-le, map_push}
use Rattle.std.proofs.lemmas.Str.Pattern.{contains_text}
use Rattle.std.specs.Arc.{arc_value}
use Rattle.std.specs.Str.Iter.{HasSubslice}
use Rattle.toml_outline.specs.Keys.{Key, key_of}
use Rattle.toml_outline.specs.Names.{name_of}
use Rattle.toml_outline.specs.Scanned.{keys_of}
use Rattle.toml_outline.specs.declared.outline.Entry.{Entry}
use Rattle.example_toml.specs.Searches.{AreSymbolsOf, IsSymbolOf}
use Rattle.example_toml.proofs.Symbols.{symbol_more, symbol_none}
use Rattle.example_toml.proofs.work.Search.symbols_in.Goals as goal
use Rattle.example_toml.proofs.work.Search.symbols_in.Goals.{then-contains+in_ok-symbol+in_ok-push, else-contains}

pub loop-index-preserved : goal.loop-index-preserved
loop-index-preserved g c =
    let self = c.args.self.now in
    let source = c.args.source.now in
    let outline = c.args.outline.now in
    let word = string_bytes self.query in
    let uri = string_bytes source.uri in
    let text = arc_value source.text in
    let name : ℕ → List ℕ = name_of outline.text.now (keys_of outline) in
    let i = c.loop-index.index in
    let entries = c.as_slice-entries.result.now in
    let x = c.index-entries-index.result in
    let found = c.loop-index.found.items in
    let below : i < length entries = omega arith in
    let taken : map key_of (take (i + 1) entries) ≡ map key_of (take i entries) ++ key_of x ∷ [] =
    ap (λ (l : List Entry). map key_of l) ((take_at_read entries i x below).1
    ∙ ap (λ (y : Entry). take i entries ++ y ∷ []) (sym c.index-entries-index.is))
    ∙ map_push key_of (take i entries) x in
    let many : 0 + length (map key_of (take i entries)) ≡ i =
    omega (arith, length-map (take i entries) key_of, length-take-le i entries) in
    let called : string_bytes c.in_ok-name.name ≡ name (0 + length (map key_of (take i entries))) =
    c.in_ok-name.ensures ∙ ap name (sym many) in
    let has = contains_text c.contains.result _ _ c.contains.ensures.cases in
    rw taken (elim c.if-contains.branch [
      | then-contains+in_ok-symbol+in_ok-push w ↦
          let stands : HasSubslice (name (0 + length (map key_of (take i entries)))) word =
          rw (← called) (rw (c.as_str.ensures.value, c.as_str-in-loop-index.ensures.value) at
          (has.0 w.if-contains.true)) in
          let is : IsSymbolOf self.encoding uri text (name (0 + length (map key_of (take i entries)))) (key_of x)
          w.in_ok-symbol.field-0 = rw (← called) w.in_ok-symbol.ensures in
          rw (w.found-is, w.in_ok-push.ensures.items) (symbol_more self.encoding word uri text name 0
          (map key_of (take i entries)) found (key_of x) w.in_ok-symbol.field-0 c.loop-index.invariant stands is)
      | else-contains w ↦
          let lacks : HasSubslice (name (0 + length (map key_of (take i entries)))) word → ⊥ = λ h.
          let wrong : c.contains.result ≡ true = has.1 (rw (
            c.as_str.ensures.value,
            c.as_str-in-loop-index.ensures.value,
            called,
          ) h) in
          absurd (cc (wrong, w.if-contains.false)) in
          rw w.found-is (symbol_none self.encoding word uri text name 0 (map key_of (take i entries)) found (key_of x)
          c.loop-index.invariant lacks)
    ])
