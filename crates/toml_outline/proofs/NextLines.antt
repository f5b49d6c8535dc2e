-- The next line is read.
use Rattle.std.proofs.Common.{◌≡◌, ◌∙◌, refl, sym, ap, Bool, true, false, List, [], ◌∷◌, append-nil, map}
use Rattle.std.proofs.Common.{Result, Ok, Err}
use Rattle.std.proofs.lemmas.List.{map_push}
use Rattle.toml_parser.specs.declared.error.ParseError.{ParseError}
use Rattle.toml_parser.specs.declared.error.ParseError.TheVariants.{OutOfMemory}
use Rattle.toml_outline.specs.declared.outline.Problem.{Problem}
use Rattle.toml_outline.specs.declared.scanner.Scanner.{Scanner}
use Rattle.toml_outline.specs.Keys.{Key}
use Rattle.toml_outline.specs.Lines.{Line, faults, line}
use Rattle.toml_outline.specs.Scanned.{IsLine, KeepsRest, NotesProblem, ReadsExpression, ReadsLine}
use Rattle.toml_outline.specs.Scanned.{keys_of, place_of, places_of}
use Rattle.toml_outline.proofs.Turns.{lines_bad, lines_more, lines_over}

pub line_is_read : (old read new : Scanner) (there : Bool) → read.outline.text.now ≡ old.outline.text.now
    → read.outline.problems.items ≡ old.outline.problems.items
    → IsLine (line old.outline.text.now old.header old.rest.now (keys_of old.outline)) (keys_of old.outline) read there
    → KeepsRest read new → ReadsLine old new there
line_is_read old read new true text problems is kept = record {
  text = kept.kept.kept.text ∙ text;
  found = [];
  places = ap (λ (l : List Problem). map place_of l) (kept.kept.kept.problems ∙ problems)
      ∙ sym (append-nil (places_of old.outline));
  keys = λ n later. rw (kept.kept.kept.text, text, kept.kept.kept.header, kept.rest, kept.kept.keys)
      (lines_more old.outline.text.now n old.header read.header old.rest.now read.rest.now (keys_of old.outline)
      (keys_of read.outline) later is);
}
line_is_read old read new false text problems is kept = record {
  text = kept.kept.kept.text ∙ text;
  found = [];
  places = ap (λ (l : List Problem). map place_of l) (kept.kept.kept.problems ∙ problems)
      ∙ sym (append-nil (places_of old.outline));
  keys = λ n later. rw (kept.kept.keys, is.1)
      (lines_over old.outline.text.now n old.header old.rest.now (keys_of old.outline) later is.0);
}

-- what is said of an expression that cannot be read
pub fault_of : (result : Result Bool ParseError) (e : ParseError) (line : Line) (keys : List Key) (new : Scanner)
    → ReadsExpression line keys new result → result ≡ Err e → (e ≡ OutOfMemory → ⊥)
    → line ≡ faults new.header (keys_of new.outline)
fault_of (Ok there) e line keys new reads is other = absurd (cc (is))
fault_of (Err y) e line keys new reads is other = reads (λ m. other (cc (is, m)))

pub line_has_fault : (old read kept new : Scanner) → read.outline.text.now ≡ old.outline.text.now
    → read.outline.problems.items ≡ old.outline.problems.items
    → line old.outline.text.now old.header old.rest.now (keys_of old.outline)
    ≡ faults read.header (keys_of read.outline)
    → KeepsRest read kept → NotesProblem kept new → ReadsLine old new true
line_has_fault old read kept new text problems bad keeps noted = record {
  text = noted.text ∙ keeps.kept.kept.text ∙ text;
  found = noted.problem.span.start ∷ [];
  places = rw (
    noted.problems,
    map_push place_of kept.outline.problems.items noted.problem,
    keeps.kept.kept.problems,
    problems,
  ) refl;
  keys = λ n later. rw (
    noted.text,
    noted.rest,
    noted.header,
    noted.keys,
    keeps.kept.kept.text,
    text,
    keeps.kept.kept.header,
    keeps.kept.keys,
  )
      (lines_bad old.outline.text.now n old.header read.header old.rest.now (keys_of old.outline)
      (keys_of read.outline) noted.problem.span.start later bad);
}
