-- What each step is, by what stands there.
use Rattle.std.proofs.Common.{◌≡◌, refl, ℕ, true, false, ◌==◌, nat_le, List, [], ◌∷◌, ◌++◌, length, drop}
use Rattle.std.proofs.Common.{Option, None, Some, Result, Ok, Err}
use Rattle.std.specs.Result.{IsErrAnd, MatchResult, OnOk}
use Rattle.toml_parser.specs.declared.error.ParseError.{ParseError}
use Rattle.toml_parser.specs.declared.error.ParseError.TheVariants.{OutOfMemory}
use Rattle.toml_parser.specs.Lexical.{first, skip_blank, skip_ws}
use Rattle.toml_outline.specs.declared.outline.Kind.{Kind}
use Rattle.toml_outline.specs.declared.outline.Kind.TheVariants.{Unreadable}
use Rattle.toml_outline.specs.declared.outline.Span.{Span}
use Rattle.toml_outline.specs.declared.scanner.Awaited.TheVariants.{Value, Item, Member, End}
use Rattle.toml_outline.specs.declared.scanner.Frame.{Frame}
use Rattle.toml_outline.specs.declared.scanner.Scanner.{Scanner}
use Rattle.toml_outline.specs.Keys.{Key, Step, and_then, dotted_key, fails, goes, key_equals, offset, part}
use Rattle.toml_outline.specs.Lines.{after_brackets, after_opening, begins_array, content, ends, ends_line, faults}
use Rattle.toml_outline.specs.Lines.{header, header_kind, line, reads, value}
use Rattle.toml_outline.specs.Scanned.{Steps}
use Rattle.toml_outline.specs.Values.{after_comma, around, begin, close, closing, holder, next_item, next_member}
use Rattle.toml_outline.specs.Values.{scalar}
use Rattle.toml_outline.specs.Values.{separator, settle}

-- what is said of an error is said of the one that is handed on
pub on_error : {A : Type 0} (result : Result A ParseError) (P : A → Type 0) (Q : Type 0) (e : ParseError)
    (R : ParseError → Type 0) → IsErrAnd result R → ((y : ParseError) → R y → y ≡ e)
    → ((e ≡ OutOfMemory → ⊥) → Q) → MatchResult result P (λ y. (y ≡ OutOfMemory → ⊥) → Q)
on_error (Ok a) P Q e R h same refused = absurd h
on_error (Err y) P Q e R h same refused = λ other. refused (λ m. other (cc (same y h, m)))

-- the header is known once a step is done
pub steps_then : (result : Result (Unit {0}) ParseError) (new : Scanner) (expected : Step (Unit {0}))
    (header : Option ℕ) → Steps (λ _. tt) result new expected → OnOk result (new.header ≡ header)
    → Steps (λ _. new.header) result new (and_then expected (λ _. goes header))
steps_then (Ok a) new expected header step is = rw (step, is) refl
steps_then (Err e) new expected header step is = λ refused. rw (step refused) refl

pub on_ok : (result : Result (Unit {0}) ParseError) (P : Type 0) → P → OnOk result P
on_ok (Ok a) P p = p
on_ok (Err e) P p = tt

module _ (text : List ℕ) where
  pub key_bad : (parent : Option ℕ) (rest : List ℕ) (keys : List Key) → dotted_key text rest ≡ None
      → key_equals text parent rest keys ≡ fails keys
  unfolding key_equals
  key_bad parent rest keys bad = rw bad

  pub key_goes : (parent : Option ℕ) (rest : List ℕ) (keys : List Key) (parts : List Span) (end after : List ℕ)
      → dotted_key text rest ≡ Some (parts, end, after) → (first after == 61) ≡ true
      → key_equals text parent rest keys ≡ goes (length keys) (skip_ws (drop 1 after))
      (keys ++ record { parent = parent; parts = parts; kind = Unreadable; place = part text rest end } ∷ [])
  unfolding key_equals
  key_goes parent rest keys parts end after read is = rw (read, is)

  pub key_lacks : (parent : Option ℕ) (rest : List ℕ) (keys : List Key) (parts : List Span) (end after : List ℕ)
      → dotted_key text rest ≡ Some (parts, end, after) → (first after == 61) ≡ false
      → key_equals text parent rest keys
      ≡ fails (keys ++ record { parent = parent; parts = parts; kind = Unreadable; place = part text rest end } ∷ [])
  unfolding key_equals
  key_lacks parent rest keys parts end after read lacks = rw (read, lacks)

  pub begin_scalar : (owner : Option ℕ) (frames : List Frame) (rest : List ℕ) (keys : List Key) (kind : Kind)
      (end : List ℕ) → (first rest == 123) ≡ false → (first rest == 91) ≡ false → scalar rest ≡ Some (kind, end)
      → begin text owner frames rest keys ≡ goes (frames, End) end (settle owner kind keys)
  unfolding begin
  begin_scalar owner frames rest keys kind end table array read = rw (table, array, read)

  pub begin_bad : (owner : Option ℕ) (frames : List Frame) (rest : List ℕ) (keys : List Key)
      → (first rest == 123) ≡ false → (first rest == 91) ≡ false → scalar rest ≡ None
      → begin text owner frames rest keys ≡ fails keys
  unfolding begin
  begin_bad owner frames rest keys table array bad = rw (table, array, bad)

  pub deep_table : (owner : Option ℕ) (frames : List Frame) (rest : List ℕ) (keys : List Key)
      → (first rest == 123) ≡ true → nat_le 80 (length frames) ≡ true
      → begin text owner frames rest keys ≡ fails keys
  unfolding begin
  deep_table owner frames rest keys table deep = rw (table, deep)

  pub deep_array : (owner : Option ℕ) (frames : List Frame) (rest : List ℕ) (keys : List Key)
      → (first rest == 123) ≡ false → (first rest == 91) ≡ true → nat_le 80 (length frames) ≡ true
      → begin text owner frames rest keys ≡ fails keys
  unfolding begin
  deep_array owner frames rest keys table array deep = rw (table, array, deep)

  pub begin_table : (owner : Option ℕ) (frames : List Frame) (rest : List ℕ) (keys : List Key)
      → (first rest == 123) ≡ true → nat_le 80 (length frames) ≡ false
      → begin text owner frames rest keys
      ≡ goes (
        frames ++ record {
          is_table = first rest == 123;
          owner = owner;
          around = around owner frames;
          start = offset text rest;
        } ∷ [],
        Member None,
      ) (drop 1 rest) keys
  unfolding begin
  begin_table owner frames rest keys table deep = rw (table, deep)

  pub begin_array : (owner : Option ℕ) (frames : List Frame) (rest : List ℕ) (keys : List Key)
      → (first rest == 123) ≡ false → (first rest == 91) ≡ true → nat_le 80 (length frames) ≡ false
      → begin text owner frames rest keys
      ≡ goes (
        frames ++ record {
          is_table = first rest == 123;
          owner = owner;
          around = around owner frames;
          start = offset text rest;
        } ∷ [],
        Item,
      ) (drop 1 rest) keys
  unfolding begin
  begin_array owner frames rest keys table array deep = rw (table, array, deep)

  pub item_closes : (frames : List Frame) (rest : List ℕ) (keys : List Key) → (first (skip_blank rest) == 93) ≡ true
      → next_item text frames rest keys ≡ close frames (skip_blank rest) keys
  unfolding next_item
  item_closes frames rest keys is = rw is

  pub item_begins : (frames : List Frame) (rest : List ℕ) (keys : List Key) → (first (skip_blank rest) == 93) ≡ false
      → next_item text frames rest keys ≡ goes (frames, Value None) (skip_blank rest) keys
  unfolding next_item
  item_begins frames rest keys is = rw is

  pub member_closes : (frames : List Frame) (rest : List ℕ) (keys : List Key)
      → (first (skip_blank rest) == 125) ≡ true
      → next_member text frames rest keys ≡ close frames (skip_blank rest) keys
  unfolding next_member
  member_closes frames rest keys is = rw is

  pub member_goes : (frames : List Frame) (rest : List ℕ) (keys : List Key) (owner : ℕ) (rest2 : List ℕ)
      (keys2 : List Key) → (first (skip_blank rest) == 125) ≡ false
      → key_equals text (holder frames) (skip_blank rest) keys ≡ goes owner rest2 keys2
      → next_member text frames rest keys ≡ goes (frames, Value (Some owner)) rest2 keys2
  unfolding next_member
  member_goes frames rest keys owner rest2 keys2 is read = rw (is, read)

  pub member_bad : (frames : List Frame) (rest : List ℕ) (keys keys2 : List Key)
      → (first (skip_blank rest) == 125) ≡ false
      → key_equals text (holder frames) (skip_blank rest) keys ≡ fails keys2
      → next_member text frames rest keys ≡ fails keys2
  unfolding next_member
  member_bad frames rest keys keys2 is bad = rw (is, bad)

  pub comma_follows : (frame : Frame) (frames : List Frame) (rest : List ℕ) (keys : List Key)
      → (first (skip_blank rest) == 44) ≡ true
      → separator text frame frames rest keys
      ≡ goes (frames, after_comma frame.is_table (offset text (skip_blank rest))) (drop 1 (skip_blank rest)) keys
  unfolding separator
  comma_follows frame frames rest keys is = rw is

  pub bracket_follows : (frame : Frame) (frames : List Frame) (rest : List ℕ) (keys : List Key)
      → (first (skip_blank rest) == 44) ≡ false → (first (skip_blank rest) == closing frame.is_table) ≡ true
      → separator text frame frames rest keys ≡ close frames (skip_blank rest) keys
  unfolding separator
  bracket_follows frame frames rest keys comma is = rw (comma, is)

  pub nothing_follows : (frame : Frame) (frames : List Frame) (rest : List ℕ) (keys : List Key)
      → (first (skip_blank rest) == 44) ≡ false → (first (skip_blank rest) == closing frame.is_table) ≡ false
      → separator text frame frames rest keys ≡ fails keys
  unfolding separator
  nothing_follows frame frames rest keys comma is = rw (comma, is)

  pub header_bad : (start : List ℕ) (keys : List Key)
      → dotted_key text (skip_ws (after_opening (begins_array start) start)) ≡ None
      → header text start keys ≡ fails keys
  unfolding header
  header_bad start keys bad = rw bad

  pub header_open : (start : List ℕ) (keys : List Key) (parts : List Span) (end after : List ℕ)
      → dotted_key text (skip_ws (after_opening (begins_array start) start)) ≡ Some (parts, end, after)
      → after_brackets 93 (begins_array start) after ≡ None → header text start keys ≡ fails keys
  unfolding header
  header_open start keys parts end after read bad = rw (read, bad)

  pub header_goes : (start : List ℕ) (keys : List Key) (parts : List Span) (end after rest : List ℕ)
      → dotted_key text (skip_ws (after_opening (begins_array start) start)) ≡ Some (parts, end, after)
      → after_brackets 93 (begins_array start) after ≡ Some rest
      → header text start keys ≡ goes tt rest (keys ++ record {
        parent = None;
        parts = parts;
        kind = header_kind (begins_array start);
        place = part text start rest;
      } ∷ [])
  unfolding header
  header_goes start keys parts end after rest read closed = rw (read, closed)

  pub content_header : (above : Option ℕ) (start : List ℕ) (keys : List Key) → (first start == 91) ≡ true
      → content text above start keys ≡ and_then (header text start keys) (λ _. goes (Some (length keys)))
  unfolding content
  content_header above start keys is = rw is

  pub content_pair : (above : Option ℕ) (start : List ℕ) (keys : List Key) → (first start == 91) ≡ false
      → content text above start keys
      ≡ and_then (and_then (key_equals text above start keys) (value text)) (λ _. goes above)
  unfolding content
  content_pair above start keys is = rw is

  pub line_ends : (above : Option ℕ) (rest : List ℕ) (keys : List Key) → (length (skip_blank rest) == 0) ≡ true
      → line text above rest keys ≡ ends
  unfolding line
  line_ends above rest keys over = rw over

  pub line_bad : (above : Option ℕ) (rest : List ℕ) (keys keys2 : List Key) → (length (skip_blank rest) == 0) ≡ false
      → content text above (skip_blank rest) keys ≡ fails keys2 → line text above rest keys ≡ faults above keys2
  unfolding line
  line_bad above rest keys keys2 there bad = rw (there, bad)

  pub line_reads : (above above2 : Option ℕ) (rest rest2 : List ℕ) (keys keys2 : List Key)
      → (length (skip_blank rest) == 0) ≡ false → content text above (skip_blank rest) keys ≡ goes above2 rest2 keys2
      → ends_line (skip_ws rest2) ≡ true → line text above rest keys ≡ reads above2 (skip_ws rest2) keys2
  unfolding line
  line_reads above above2 rest rest2 keys keys2 there read ended = rw (there, read, ended)

  pub line_goes_on : (above above2 : Option ℕ) (rest rest2 : List ℕ) (keys keys2 : List Key)
      → (length (skip_blank rest) == 0) ≡ false → content text above (skip_blank rest) keys ≡ goes above2 rest2 keys2
      → ends_line (skip_ws rest2) ≡ false → line text above rest keys ≡ faults above2 keys2
  unfolding line
  line_goes_on above above2 rest rest2 keys keys2 there read ended = rw (there, read, ended)
