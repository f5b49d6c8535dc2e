-- What the scanner and the reader have read.
use Rattle.std.specs.Prelude.{◌≡◌, ℕ, suc, Bool, true, false, List, [], ◌∷◌, ◌++◌, drop, map, Option, None, Some}
use Rattle.std.specs.Prelude.{MatchResult, Result}
use Rattle.std.specs.Global.{Vec}
use Rattle.toml_parser.specs.declared.error.ParseError.{ParseError}
use Rattle.toml_parser.specs.declared.error.ParseError.TheVariants.{OutOfMemory}
use Rattle.toml_outline.specs.declared.outline.Outline.{Outline}
use Rattle.toml_outline.specs.declared.outline.Problem.{Problem}
use Rattle.toml_outline.specs.declared.outline.Span.{Span}
use Rattle.toml_outline.specs.declared.scanner.Scanner.{Scanner}
use Rattle.toml_outline.specs.Keys.{Key, Step, dotted_key, fails, goes, key_of, offset}
use Rattle.toml_outline.specs.Lines.{Line, after_newline, ends, faults, reads, keys_from}

-- the keys of an outline, and where its problems begin
abbrev pub keys_of : Outline → List Key
keys_of outline = map key_of outline.entries.items

abbrev pub place_of : Problem → ℕ
place_of problem = problem.span.start

abbrev pub places_of : Outline → List ℕ
places_of outline = map place_of outline.problems.items

-- All but the tokens and the keys stay, and how far the text is read.
pub record KeepsText (old new : Scanner) : Type 0 where
  pub text : new.outline.text.now ≡ old.outline.text.now
  pub header : new.header ≡ old.header
  pub problems : new.outline.problems.items ≡ old.outline.problems.items

-- The keys stay too.
pub record KeepsKeys (old new : Scanner) : Type 0 where
  pub kept : KeepsText old new
  pub keys : keys_of new.outline ≡ keys_of old.outline

-- All stays but the tokens.
pub record KeepsRest (old new : Scanner) : Type 0 where
  pub kept : KeepsKeys old new
  pub rest : new.rest.now ≡ old.rest.now

-- the result is what can be read and the rest, unless memory ran out
abbrev pub Skips : {A B : Type 0} → (A → B) → Result A ParseError → Scanner → Option (B × List ℕ) → Type 0
Skips see result new expected = MatchResult result
    (λ a. expected ≡ Some (see a, new.rest.now)) (λ e. (e ≡ OutOfMemory → ⊥) → expected ≡ None)

-- the result is this step, unless memory ran out
abbrev pub Steps : {A B : Type 0} → (A → B) → Result A ParseError → Scanner → Step B → Type 0
Steps see result new expected = MatchResult result
    (λ a. expected ≡ goes (see a) new.rest.now (keys_of new.outline))
    (λ e. (e ≡ OutOfMemory → ⊥) → expected ≡ fails (keys_of new.outline))

-- the result is a dotted key and where its last part ends, unless memory ran out
abbrev pub ReadsKey : Result (Vec Span × ℕ) ParseError → Scanner → Scanner → Type 0
ReadsKey result old new =
    let text = old.outline.text.now in
    MatchResult result
    (λ read. (end : List ℕ) × (dotted_key text old.rest.now ≡ Some (read.0.items, end, new.rest.now))
    × (read.1 ≡ offset text end))
    (λ e. (e ≡ OutOfMemory → ⊥) → dotted_key text old.rest.now ≡ None)

-- the result says whether there is a line, which is read, unless memory ran out
abbrev pub IsLine : Line → List Key → Scanner → Bool → Type 0
IsLine line keys new true = line ≡ reads new.header new.rest.now (keys_of new.outline)
IsLine line keys new false = (line ≡ ends) × (keys_of new.outline ≡ keys)

abbrev pub ReadsExpression : Line → List Key → Scanner → Result Bool ParseError → Type 0
ReadsExpression line keys new result = MatchResult result (IsLine line keys new)
    (λ e. (e ≡ OutOfMemory → ⊥) → line ≡ faults new.header (keys_of new.outline))

-- The scanner has noted a problem, and goes on after its line.
pub record NotesProblem (old new : Scanner) : Type 0 where
  pub problem : Problem
  pub problems : new.outline.problems.items ≡ old.outline.problems.items ++ problem ∷ []
  pub rest : new.rest.now ≡ after_newline (drop problem.span.start old.outline.text.now)
  pub header : new.header ≡ old.header
  pub text : new.outline.text.now ≡ old.outline.text.now
  pub keys : keys_of new.outline ≡ keys_of old.outline

-- the keys of at most n lines from where the scanner stands
abbrev pub keys_left : Scanner → ℕ → List ℕ → List Key
keys_left scanner n places =
    keys_from scanner.outline.text.now n scanner.header scanner.rest.now (keys_of scanner.outline) places

abbrev pub keys_next : Scanner → Bool → ℕ → List ℕ → List Key
keys_next scanner true n places = keys_left scanner n places
keys_next scanner false n places = keys_of scanner.outline

-- The scanner has read a line, if there is one. It has noted where the line's fault stands, if the line has one.
pub record ReadsLine (old new : Scanner) (there : Bool) : Type 0 where
  pub text : new.outline.text.now ≡ old.outline.text.now
  pub found : List ℕ
  pub places : places_of new.outline ≡ places_of old.outline ++ found
  pub keys : (n : ℕ) (later : List ℕ) → keys_left old (suc n) (found ++ later) ≡ keys_next new there n later
