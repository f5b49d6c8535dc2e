-- What stays of the entries, and what a value gives them.
use Rattle.std.proofs.Common.{◌≡◌, ◌∙◌, refl, ap, subst, ℕ, zero, suc, ◌<◌, ◌≤◌, List, [], ◌∷◌, length, get_or, map}
use Rattle.std.proofs.Common.{set, arith}
use Rattle.toml_outline.specs.declared.outline.Entry.{Entry}
use Rattle.toml_outline.specs.declared.outline.Kind.{Kind}
use Rattle.toml_outline.specs.declared.scanner.Scanner.{Scanner}
use Rattle.toml_outline.specs.Keys.{Key, key_of}
use Rattle.toml_outline.specs.Scanned.{KeepsKeys, KeepsRest, KeepsText}
use Rattle.toml_outline.specs.Values.{with_kind}

-- the entry of this number gets a kind
pub keys_with_kind : (entries : List Entry) (at : ℕ) (new old : Entry) (kind : Kind) → at < length entries
    → old ≡ get_or entries at old → key_of new ≡ record (key_of old) { kind = kind }
    → map key_of (set entries at new) ≡ with_kind at kind (map key_of entries)
keys_with_kind [] at new old kind below is made = absurd (omega arith)
keys_with_kind (entry ∷ entries) zero new old kind below is made =
    let here : key_of new ≡ record (key_of entry) { kind = kind } =
    subst (λ (e : Entry). key_of new ≡ record (key_of e) { kind = kind }) is made in
    ap (λ (k : Key). k ∷ map key_of entries) here
keys_with_kind (entry ∷ entries) (suc at) new old kind below is made =
    ap (λ (ks : List Key). key_of entry ∷ ks) (keys_with_kind entries at new old kind (omega arith) is made)

-- there is no entry of this number
pub with_kind_past : (keys : List Key) (at : ℕ) (kind : Kind) → length keys ≤ at → with_kind at kind keys ≡ keys
with_kind_past [] at kind past = refl
with_kind_past (key ∷ keys) zero kind past = absurd (omega arith)
with_kind_past (key ∷ keys) (suc at) kind past =
    ap (λ (ks : List Key). key ∷ ks) (with_kind_past keys at kind (omega arith))

pub keeps_rest : (scanner : Scanner) → KeepsRest scanner scanner
keeps_rest scanner = record {
  kept = record { kept = record { text = refl; header = refl; problems = refl }; keys = refl };
  rest = refl;
}

pub keeps_rest_then : (a b c : Scanner) → KeepsRest a b → KeepsRest b c → KeepsRest a c
keeps_rest_then a b c one two = record {
  kept = record {
    kept = record {
      text = two.kept.kept.text ∙ one.kept.kept.text;
      header = two.kept.kept.header ∙ one.kept.kept.header;
      problems = two.kept.kept.problems ∙ one.kept.kept.problems;
    };
    keys = two.kept.keys ∙ one.kept.keys;
  };
  rest = two.rest ∙ one.rest;
}

pub keeps_text : (scanner : Scanner) → KeepsText scanner scanner
keeps_text scanner = record { text = refl; header = refl; problems = refl }

pub keeps_text_then : (a b c : Scanner) → KeepsText a b → KeepsText b c → KeepsText a c
keeps_text_then a b c one two = record {
  text = two.text ∙ one.text;
  header = two.header ∙ one.header;
  problems = two.problems ∙ one.problems;
}

pub keeps_keys_then : (a b c : Scanner) → KeepsKeys a b → KeepsKeys b c → KeepsKeys a c
keeps_keys_then a b c one two = record {
  kept = keeps_text_then a b c one.kept two.kept;
  keys = two.keys ∙ one.keys;
}
