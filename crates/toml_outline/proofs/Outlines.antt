-- What a reader has read.
use Rattle.std.proofs.Common.{◌≡◌, ◌↔◌, ◌∙◌, refl, sym, ap, subst, ℕ, zero, suc, ◌-◌, ◌<◌, Bool, true, false, List}
use Rattle.std.proofs.Common.{[], ◌++◌, append-nil}
use Rattle.std.proofs.Common.{append_assoc, length, None, Result, Ok, Err, arith}
use Rattle.std.specs.Prelude.{IfOk, IsSome, if◌then◌else◌}
use Rattle.std.specs.declared.alloc.AllocError.{AllocError}
use Rattle.toml.specs.Parse.{parse_document, skip_bom}
use Rattle.toml_outline.specs.declared.outline.Outline.{Outline}
use Rattle.toml_outline.specs.declared.reader.Reader.{Reader}
use Rattle.toml_outline.specs.declared.scanner.Scanner.{Scanner}
use Rattle.toml_outline.specs.Lines.{keys_from, keys_in}
use Rattle.toml_outline.specs.Reading.{AreFaults, HasKeysOf, HasRead, IsOutlineOf, ReadsOn}
use Rattle.toml_outline.specs.Scanned.{ReadsLine, keys_left, keys_next, keys_of, places_of}

-- no line is left
pub none_left : (scanner : Scanner) (places : List ℕ) → keys_left scanner 0 places ≡ keys_of scanner.outline
unfolding keys_from
none_left scanner places = refl

next_left : (scanner : Scanner) (there : Bool) (n : ℕ) (places : List ℕ)
    → keys_next scanner there n places ≡ keys_left scanner (if there then n else 0) places
next_left scanner true n places = refl
next_left scanner false n places = sym (none_left scanner places)

-- a line more is read
pub reads_on : (result : Result Bool AllocError) (old new : Reader) → new.text ≡ old.text
    → IfOk result (ReadsLine old.scanner new.scanner) → IfOk result (ReadsOn old new)
reads_on (Ok there) old new same line = λ text n has. record {
  same = ap (λ r. r.now) same ∙ has.same;
  outlined = line.text ∙ has.outlined;
  keys = λ later. rw (line.places, append_assoc (places_of old.scanner.outline) line.found later)
      (has.keys (line.found ++ later) ∙ line.keys n later ∙ next_left new.scanner there n later);
}
reads_on (Err e) old new same line = tt

-- what is made of a text that is read
pub has_keys : (text : List ℕ) (reader : Reader) (outline : Outline) → HasRead text 0 reader
    → outline.text.now ≡ reader.scanner.outline.text.now → keys_of outline ≡ keys_of reader.scanner.outline
    → AreFaults text outline (places_of reader.scanner.outline) → HasKeysOf text outline
has_keys text reader outline has same keys are = record {
  same = same ∙ has.outlined;
  faults = places_of reader.scanner.outline;
  are = are;
  keys = keys ∙ sym (none_left reader.scanner []) ∙ sym (has.keys [])
      ∙ ap (λ (l : List ℕ). keys_in text l) (append-nil (places_of reader.scanner.outline));
}

pub is_outline : (text : List ℕ) (reader : Reader) (result : Result Outline AllocError) → HasRead text 0 reader
    → IfOk result (λ outline. outline.problems.items ≡ [] ↔ IsSome (parse_document reader.text.now))
    → (HasRead reader.text.now 0 reader → IfOk result (HasKeysOf reader.text.now)) → IfOk result (IsOutlineOf text)
is_outline text reader (Err e) has document keys = tt
is_outline text reader (Ok outline) has document keys =
    let same = has.same in
    record {
      read = subst (λ (t : List ℕ). HasRead t 0 reader → HasKeysOf t outline) same keys has;
      document = subst (λ (t : List ℕ). outline.problems.items ≡ [] ↔ IsSome (parse_document t)) same document;
    }

-- a line is read, or none
pub reads_more : (old new : Reader) (there : Bool) (text : List ℕ) (n : ℕ) → ReadsOn old new there → there ≡ true
    → 0 < n → HasRead text n old → HasRead text (n - 1) new
reads_more old new there text zero reads is some has = absurd (omega arith)
reads_more old new false text (suc n) reads is some has = absurd (cc (is))
reads_more old new true text (suc n) reads is some has =
    let less : suc n - 1 ≡ n = omega arith in
    rw less (reads text n has)

pub reads_last : (old new : Reader) (there : Bool) (text : List ℕ) (n : ℕ) → ReadsOn old new there → there ≡ false
    → 0 < n → HasRead text n old → HasRead text 0 new
reads_last old new there text zero reads is some has = absurd (omega arith)
reads_last old new true text (suc n) reads is some has = absurd (cc (is))
reads_last old new false text (suc n) reads is some has = reads text n has

-- no line is read yet
pub has_begun : (text : List ℕ) (reader : Reader) → reader.text.now ≡ text
    → reader.scanner.outline.text.now ≡ text → reader.scanner.rest.now ≡ skip_bom text
    → reader.scanner.header ≡ None → keys_of reader.scanner.outline ≡ []
    → reader.scanner.outline.problems.items ≡ [] → HasRead text (suc (length text)) reader
has_begun text reader same outlined rest header keys problems = record {
  same = same;
  outlined = outlined;
  keys = λ later. rw (problems, outlined, rest, header, keys) refl;
}
