-- The tree that a text is read as, though no program read it: each of its strings is UTF-8 and is as short as the text,
-- each number is valid, and no array has more items than the text has bytes.
use Rattle.std.proofs.Common.{◌≡◌, ℕ, zero, suc, ◌+◌, ◌<◌, ◌≤◌, List, [], ◌∷◌, ◌++◌, length, Bool, true, false, ◌&&◌}
use Rattle.std.proofs.Common.{nat_lt, Option, Some, None, Vec, String, Global, IsUtf8, inl, inr, string_bytes}
use Rattle.std.proofs.Common.{refl, sym, ap, ◌∙◌, subst, arith, rules, append_assoc, append-nil, length-append}
use Rattle.std.proofs.Common.{ltb-true, string_cmp, neg_ℤ, pos, int_lt, ◌^◌, nat_le, slice_index, ◌==◌, drop}
use Rattle.std.proofs.Common.{option_map, ap₂}
use Rattle.std.proofs.Math.Seq.{take-append_seam, drop-append-add, get_or-append_seam}
use Rattle.std.proofs.lemmas.Bool.{and_parts, cases_lt, cond_both}
use Rattle.std.proofs.lemmas.Option.{cond_some, none-some, same_Some, option_and_then_some}
use Rattle.std.proofs.lemmas.Slice.Eq.{bytes_eq-Decides}
use Rattle.std.proofs.lemmas.Str.{IsUtf8-append, IsUtf8-take, IsUtf8-drop, IsUtf8-string_bytes}
use Rattle.std.proofs.lemmas.Grind.{merely}
use Rattle.std.proofs.lemmas.Str.{IsCharBoundary-before_ascii, IsCharBoundary-after_ascii}
use Rattle.json.specs.Print.{print_from, escape_byte, escape, quoted}
use Rattle.json.specs.Word.{after_number}
use Rattle.json.specs.Json as json
use Rattle.json.specs.Json.{if_last}
use Rattle.json.specs.Lex.{tokens}
use Rattle.json.specs.Token.{Token, begin_object, end_object, begin_array, end_array, key, string, number, boolean}
use Rattle.json.specs.Token.{null, bad}
use Rattle.json.specs.Tree.{json_tokens, items_tokens, members_tokens}
use Rattle.json.specs.Print.{print, token_text, separator, ends, IsPrintable, ArePrintable}
use Rattle.json.proofs.Printed.Strings.{escape_byte_plain}
use Rattle.json.proofs.Numbered.{value-HasNumbers, ArePrintableOrBad-tokens}
use Rattle.json.proofs.Printed.Trees.{ArePrintable-json_tokens}
use Rattle.std.specs.Float.Numeral.{minus, Parts, scan_numeral, numeral_digits, nearest_float}
use Rattle.std.specs.BTreeMap.{insert_entry}
use Rattle.std.specs.Float.{binary64, float_is_finite}
use Rattle.std_collections.specs.Layout.BTreeMap.{btree_map}
use Rattle.serde_json.specs.Data as datum
use Rattle.serde_json.specs.Data.{Data, Num, Items, Members, unsigned, negative, float, item, put}
use Rattle.serde_json.specs.Read.{read, max_depth}
use Rattle.json.proofs.Unique.Spelling.{value-json_tokens_back}
use Rattle.std.specs.Prelude.{option_and_then, bytes_eq}
use Rattle.serde_json.specs.Read.{number_of, number_from, float_of, is_integer, of_json, of_items, of_members}
use Rattle.serde_json.specs.View.{view, number_view, items_view, members_view}
use Rattle.serde_json.specs.declared.number.N.TheVariants.{PosInt, NegInt, Float}
use Rattle.serde_json.specs.declared.number.Number.{Number}
use Rattle.serde_json.specs.declared.value.Value as value
use Rattle.serde_json.specs.declared.value.Value.{Value, the_lemmas}
use Rattle.serde_json.proofs.Views.{Entry, members_view-insert_entry, view-Array, view-Object}
use Rattle.json.proofs.Printed.Utf8.{are_ascii, IsUtf8-are_ascii}

-- ---- what stands in quotes in a text that is UTF-8 is UTF-8

-- a text may be cut at an ASCII byte
cut_at : (front back : List ℕ) (x : ℕ) → x < 128 → IsUtf8 (front ++ x ∷ back) → IsUtf8 front × IsUtf8 back
cut_at front back x low u =
    let all = front ++ x ∷ back in
    let within : length front < length all = omega (arith, length-append front (x ∷ back)) in
    let at = get_or-append_seam front x back 0 in (
      subst IsUtf8 (take-append_seam front (x ∷ back)) (IsUtf8-take all (length front) u
          (IsCharBoundary-before_ascii all (length front) within (omega (arith, at, low)))),
      subst IsUtf8 (drop-append-add front (x ∷ back) 1) (IsUtf8-drop all (length front + 1) u
          (IsCharBoundary-after_ascii all (length front) u within (omega (arith, at, low)))),
    )

-- some bytes, all of them ASCII
abbrev some_ascii : List ℕ → Bool
some_ascii [] = false
some_ascii (x ∷ xs) = nat_lt x 128 && are_ascii xs

after_ascii : (xs back : List ℕ) → are_ascii xs ≡ true → IsUtf8 (xs ++ back) → IsUtf8 back
after_ascii [] back e u = u
after_ascii (x ∷ xs) back e u =
    let p = and_parts _ _ e in
    after_ascii xs back p.1 (cut_at [] (xs ++ back) x (ltb-true _ _ p.0) u).1

cut_around : (front xs back : List ℕ) → some_ascii xs ≡ true → IsUtf8 (front ++ (xs ++ back))
    → IsUtf8 front × IsUtf8 back
cut_around front [] back e u = absurd (search rules)
cut_around front (x ∷ xs) back e u =
    let p = and_parts _ _ e in
    let cut = cut_at front (xs ++ back) x (ltb-true _ _ p.0) u in (cut.0, after_ascii xs back p.1 cut.1)

-- the escapes of the bytes below n are ASCII
abbrev escapes_below : ℕ → Bool
escapes_below zero = true
escapes_below (suc n) = some_ascii (escape_byte n) && escapes_below n

escape_below : (n : ℕ) → escapes_below n ≡ true → (x : ℕ) → x < n → some_ascii (escape_byte x) ≡ true
escape_below zero e x h = absurd (omega arith)
escape_below (suc n) e x h =
    let p = and_parts (some_ascii (escape_byte n)) (escapes_below n) e in
    elim (cases_lt x n) [
      | inl below ↦ escape_below n p.1 x below
      | inr above ↦ let same : x ≡ n = omega (arith, above, h) in rw same p.0
    ]

all_escapes : escapes_below 128 ≡ true
unfolding escape_byte
all_escapes = refl

escape_high : (x : ℕ) → 128 ≤ x → escape_byte x ≡ x ∷ []
escape_high x high = escape_byte_plain x (λ e. omega arith) (λ e. omega arith) (omega arith)

unescaped : (front s : List ℕ) → IsUtf8 (front ++ escape s) → IsUtf8 (front ++ s)
unescaped front [] u = u
unescaped front (x ∷ s) u =
    elim (cases_lt x 128) [
      | inl low ↦
          let cut = cut_around front (escape_byte x) (escape s) (escape_below 128 all_escapes x low) u in
          let first = IsUtf8-are_ascii (x ∷ []) (search (rules, low)) in
          IsUtf8-append front (x ∷ s) cut.0 (IsUtf8-append (x ∷ []) s first (unescaped [] s cut.1))
      | inr high ↦
          let joined : front ++ (escape_byte x ++ escape s) ≡ (front ++ x ∷ []) ++ escape s =
          ap (λ l. front ++ (l ++ escape s)) (escape_high x high) ∙ sym (append_assoc front (x ∷ []) (escape s)) in
          subst IsUtf8 (append_assoc front (x ∷ []) s) (unescaped (front ++ x ∷ []) s (subst IsUtf8 joined u))
    ]

some_byte : (x : ℕ) → 0 < length (escape_byte x)
some_byte x = elim (cases_lt x 128) [
  | inl low ↦ some_length (escape_byte x) (escape_below 128 all_escapes x low)
  | inr high ↦ let e = escape_high x high in rw e (omega arith)
]
  where
    some_length : (xs : List ℕ) → some_ascii xs ≡ true → 0 < length xs
    some_length [] e = absurd (search rules)
    some_length (x ∷ xs) e = omega arith

longer : (s : List ℕ) → length s ≤ length (escape s)
longer [] = omega arith
longer (x ∷ s) = omega (arith, some_byte x, longer s, length-append (escape_byte x) (escape s))

-- ---- each token of such a text has a text that a `String` can hold

-- a `String` can hold it in so much room
record IsHeld (room : ℕ) (s : List ℕ) : Type 0 where
  utf8 : IsUtf8 s
  fits : length s ≤ room

abbrev HasText : ℕ → Token → Type 0
HasText room begin_object = Unit {0}
HasText room end_object = Unit {0}
HasText room begin_array = Unit {0}
HasText room end_array = Unit {0}
HasText room (key s) = IsHeld room s
HasText room (string s) = IsHeld room s
HasText room (number s) = Unit {0}
HasText room (boolean b) = Unit {0}
HasText room null = Unit {0}
HasText room bad = Unit {0}

abbrev HaveTexts : ℕ → List Token → Type 0
HaveTexts room [] = Unit {0}
HaveTexts room (t ∷ ts) = HasText room t × HaveTexts room ts

held : (room : ℕ) (front s back : List ℕ) → IsUtf8 (front ++ (quoted s ++ back)) → length (quoted s) ≤ room
    → IsHeld room s
held room front s back u fits =
    let inside = (cut_at front ((escape s ++ 34 ∷ []) ++ back) 34 (omega arith) u).1 in
    let joined = append_assoc (escape s) (34 ∷ []) back in
    let split = cut_at (escape s) back 34 (omega arith) (subst IsUtf8 joined inside) in
    record {
      utf8 = unescaped [] s split.0;
      fits = omega (arith, fits, longer s, length-append (escape s) (34 ∷ []));
    }

token_has : (room : ℕ) (front : List ℕ) (t : Token) (back : List ℕ) → IsUtf8 (front ++ (token_text t ++ back))
    → length (token_text t) ≤ room → HasText room t
token_has room front begin_object back u fits = tt
token_has room front end_object back u fits = tt
token_has room front begin_array back u fits = tt
token_has room front end_array back u fits = tt
token_has room front (key s) back u fits =
    held room front s (58 ∷ back) (subst (λ l. IsUtf8 (front ++ l)) (append_assoc (quoted s) (58 ∷ []) back) u)
    (omega (arith, fits, length-append (quoted s) (58 ∷ [])))
token_has room front (string s) back u fits = held room front s back u fits
token_has room front (number s) back u fits = tt
token_has room front (boolean b) back u fits = tt
token_has room front null back u fits = tt
token_has room front bad back u fits = tt

tokens_have : (room : ℕ) (front : List ℕ) (c : Bool) (ts : List Token) → IsUtf8 (front ++ print_from c ts)
    → length (print_from c ts) ≤ room → HaveTexts room ts
unfolding print_from
tokens_have room front c [] u fits = tt
tokens_have room front c (t ∷ ts) u fits =
    let rest = print_from (ends t) ts in
    let before = front ++ separator c t in
    let at : IsUtf8 (before ++ (token_text t ++ rest)) = subst IsUtf8 (sym (append_assoc front (separator c t) _)) u in
    let all = length-append (separator c t) (token_text t ++ rest) in
    let both = length-append (token_text t) rest in (
      token_has room before t rest at (omega (arith, fits, all, both)),
      tokens_have room (before ++ token_text t) (ends t) ts (subst IsUtf8 (sym (append_assoc before _ rest)) at)
          (omega (arith, fits, all, both)),
    )

-- each token takes a byte at least
token_byte : (t : Token) → IsPrintable t → 0 < length (token_text t)
unfolding after_number
token_byte begin_object h = omega arith
token_byte end_object h = omega arith
token_byte begin_array h = omega arith
token_byte end_array h = omega arith
token_byte (key s) h = omega arith
token_byte (string s) h = omega arith
token_byte (number []) h = absurd (none-some [] h)
token_byte (number (x ∷ xs)) h = omega arith
token_byte (boolean true) h = omega arith
token_byte (boolean false) h = omega arith
token_byte null h = omega arith
token_byte bad h = absurd h

tokens_fit : (c : Bool) (ts : List Token) → ArePrintable ts → length ts ≤ length (print_from c ts)
unfolding print_from ArePrintable
tokens_fit c [] h = omega arith
tokens_fit c (t ∷ ts) h =
    let rest = print_from (ends t) ts in
    omega (
      arith,
      token_byte t h.0,
      tokens_fit (ends t) ts h.1,
      length-append (separator c t) (token_text t ++ rest),
      length-append (token_text t) rest,
    )

texts_front : (room : ℕ) (ts us : List Token) → HaveTexts room (ts ++ us) → HaveTexts room ts × HaveTexts room us
texts_front room [] us h = (tt, h)
texts_front room (t ∷ ts) us h = let later = texts_front room ts us h.1 in ((h.0, later.0), later.1)

-- ---- a number that is read is one that a `Number` holds

abbrev IsNumberFor : Num → Type 0
IsNumberFor n = (x : Number) × (number_view x ≡ n)

float_for : (sign : Bool) (p : Parts) (n : Num) → float_of sign p ≡ Some n → IsNumberFor n
float_for sign p n e =
    let c = cond_some (float_is_finite (nearest_float binary64 sign p)) _ n e in
    (record { n = Float (nearest_float binary64 sign p); valid = c.0 }, c.1)

below_zero : (n : ℕ) → 0 < n → int_lt (neg_ℤ (pos n)) (pos 0) ≡ true
below_zero zero h = absurd (omega arith)
below_zero (suc n) h = refl

number_for : (sign : Bool) (p : Parts) (n : Num) → number_from sign p ≡ Some n → IsNumberFor n
number_for false p n e =
    cond_both (is_integer p && nat_lt (numeral_digits p) (2 ^ 64)) (Some (unsigned (numeral_digits p)))
    (float_of false p)
    (λ o. o ≡ Some n → IsNumberFor n)
    (λ small same. (record { n = PosInt (numeral_digits p); valid = refl }, same_Some _ n same))
    (λ big. float_for false p n)
    e
number_for true p n e =
    let z = neg_ℤ (pos (numeral_digits p)) in
    cond_both (is_integer p && nat_lt 0 (numeral_digits p) && nat_le (numeral_digits p) (2 ^ 63)) (Some (negative z))
    (float_of true p)
    (λ o. o ≡ Some n → IsNumberFor n)
    (λ small same.
    let some = ltb-true 0 (numeral_digits p) (and_parts (is_integer p) _ (and_parts _ _ small).0).1 in
    (record { n = NegInt z; valid = below_zero (numeral_digits p) some }, same_Some _ n same))
    (λ big. float_for true p n)
    e

number_read : (s : List ℕ) (n : Num) → number_of s ≡ Some n → IsNumberFor n
unfolding number_of
number_read s n e =
    cond_both (slice_index s 0 == minus) (number_from true (scan_numeral (drop 1 s)))
    (number_from false (scan_numeral s))
    (λ o. o ≡ Some n → IsNumberFor n)
    (λ below. number_for true (scan_numeral (drop 1 s)) n)
    (λ above. number_for false (scan_numeral s) n)
    e

-- ---- the tree, in memory such as the text has

map_some : {A B : Type 0} (f : A → B) (o : Option A) (y : B) → option_map f o ≡ Some y → (x : A) × (o ≡ Some x)
    × (f x ≡ y)
map_some f None y e = absurd (none-some y e)
map_some f (Some x) y e = (x, refl, same_Some (f x) y e)

-- a value that nothing follows
only : (p : json.Json × List Token) (j : json.Json) → if_last p.0 p.1 ≡ Some j
    → ◌≡◌ {A = Option (json.Json × List Token)}
    (Some p) (Some (j, []))
only (i, []) j e = ap (λ x. Some (x, [])) (same_Some i j e)
only (i, t ∷ ts) j e = absurd (none-some j e)

some_token : (j : json.Json) → 0 < length (json_tokens j)
some_token json.null = omega arith
some_token (json.boolean b) = omega arith
some_token (json.number s) = omega arith
some_token (json.string s) = omega arith
some_token (json.array js) = omega arith
some_token (json.object ms) = omega arith

view-Null : view value.Null ≡ datum.null
view-Null = search (rules, the_lemmas)

view-Bool : (b : Bool) → view (value.Bool b) ≡ datum.boolean b
view-Bool b = search (rules, the_lemmas)

view-Number : (x : Number) → view (value.Number x) ≡ datum.number (number_view x)
view-Number x = search (rules, the_lemmas)

view-String : (s : String Global) → view (value.String s) ≡ datum.string (string_bytes s)
view-String s = search (rules, the_lemmas)

module _ (text : String Global) where
  abbrev room : ℕ
  room = text.bytes.cap

  abbrev string_for : (s : List ℕ) → IsHeld room s → String Global
  string_for s h =
      record {
        bytes =
            record {
              ptr = text.bytes.ptr;
              len = length s;
              cap = room;
              alloc = text.bytes.alloc;
              items = s;
              ok = (refl, h.fits);
              small = text.bytes.small;
            };
        ok = merely h.utf8;
      }

  abbrev list_for : (vs : List Value) → length vs ≤ room → Vec Value Global
  list_for vs fits =
      record {
        ptr = text.bytes.ptr;
        len = length vs;
        cap = room;
        alloc = text.bytes.alloc;
        items = vs;
        ok = (refl, fits);
        small = text.bytes.small;
      }

  abbrev IsTreeFor : Data → Type 0
  IsTreeFor d = (v : Value) × (view v ≡ d)

  mutual
    tree_for : (j : json.Json) (d : Data) → HaveTexts room (json_tokens j) → length (json_tokens j) ≤ room
        → of_json j ≡ Some d → IsTreeFor d
    tree_for json.null d h fits e = (value.Null, view-Null ∙ same_Some _ d e)
    tree_for (json.boolean b) d h fits e = (value.Bool b, view-Bool b ∙ same_Some _ d e)
    tree_for (json.number s) d h fits e =
        let m = map_some datum.number (number_of s) d e in
        let x = number_read s m.0 m.1 in
        (value.Number x.0, view-Number x.0 ∙ ap datum.number x.1 ∙ m.2)
    tree_for (json.string s) d h fits e =
        (value.String (string_for s h.0), view-String (string_for s h.0) ∙ same_Some _ d e)
    tree_for (json.array js) d h fits e =
        let m = map_some datum.array (of_items js) d e in
        let vs = list_of js m.0 h.1 (omega (arith, fits)) m.1 in
        let few : length vs.0 ≤ room = omega (arith, vs.2, fits) in
        let array = list_for vs.0 few in
        (value.Array array, view-Array array ∙ ap datum.array vs.1 ∙ m.2)
    tree_for (json.object ms) d h fits e =
        let m = map_some datum.object (of_members ms datum.no_members) d e in
        let es = members_for ms [] m.0 h.1 (omega (arith, fits)) m.1 in
        let object = btree_map es.0 (inl tt) in
        (value.Object object, view-Object object ∙ ap datum.object es.1 ∙ m.2)

    list_of : (js : json.Items) (ds : Items) → HaveTexts room (items_tokens js) → length (items_tokens js) ≤ room
        → of_items js ≡ Some ds → (vs : List Value) × (items_view vs ≡ ds) × (length vs ≤ length (items_tokens js))
    list_of json.no_items ds h fits e = ([], same_Some _ ds e, omega arith)
    list_of (json.item j js) ds h fits e =
        let both = length-append (json_tokens j) (items_tokens js) in
        let apart = texts_front room (json_tokens j) (items_tokens js) h in
        option_and_then_some (λ d. option_map (item d) (of_items js)) (of_json j) ds e (λ d first more.
        let m = map_some (item d) (of_items js) ds more in
        let v = tree_for j d apart.0 (omega (arith, both, fits)) first in
        let vs = list_of js m.0 apart.1 (omega (arith, both, fits)) m.1 in
        (v.0 ∷ vs.0, ap₂ item v.1 vs.1 ∙ m.2, omega (arith, both, vs.2, some_token j)))

    members_for : (ms : json.Members) (es : List Entry) (ds : Members) → HaveTexts room (members_tokens ms)
        → length (members_tokens ms) ≤ room
        → of_members ms (members_view es) ≡ Some ds → (all : List Entry) × (members_view all ≡ ds)
    members_for json.no_members es ds h fits e = (es, same_Some _ ds e)
    members_for (json.member k j ms) es ds h fits e =
        let both = length-append (json_tokens j) (members_tokens ms) in
        let apart = texts_front room (json_tokens j) (members_tokens ms) h.1 in
        option_and_then_some (λ d. of_members ms (put k d (members_view es))) (of_json j) ds e (λ d first more.
        let v = tree_for j d apart.0 (omega (arith, both, fits)) first in
        let name = string_for k h.0 in
        let next = insert_entry string_cmp es name v.0 in
        let same : members_view next ≡ put k d (members_view es) = members_view-insert_entry es name v.0
        ∙ ap (λ x. put k x (members_view es)) v.1 in
        members_for ms next ds apart.1 (omega (arith, both, fits)) (ap (of_members ms) same ∙ more))

  tree_read : (d : Data) → string_bytes text ≡ print (tokens (string_bytes text)) → read (string_bytes text) ≡ Some d
      → IsTreeFor d
  tree_read d compact reads =
      let bytes = string_bytes text in
      option_and_then_some of_json (option_and_then (λ p. if_last p.0 p.1) (json.value max_depth (tokens bytes))) d
      reads
      (λ j whole means.
      option_and_then_some (λ p. if_last p.0 p.1) (json.value max_depth (tokens bytes)) j whole (λ p first last.
      let found : json.value max_depth (tokens bytes) ≡ Some (j, []) = first ∙ only p j last in
      let spelled : tokens bytes ≡ json_tokens j = value-json_tokens_back max_depth (tokens bytes) [] j found
      ∙ append-nil _ in
      let printed : bytes ≡ print (json_tokens j) = compact ∙ ap print spelled in
      let numbers = value-HasNumbers max_depth (tokens bytes) [] j (ArePrintableOrBad-tokens bytes) found in
      let fits : length (print (json_tokens j)) ≤ room =
      omega (arith, text.bytes.ok.0, text.bytes.ok.1, ap (λ (l : List ℕ). length l) printed) in
      let few = tokens_fit false (json_tokens j) (ArePrintable-json_tokens j numbers) in
      tree_for j d
      (tokens_have room [] false (json_tokens j) (subst IsUtf8 printed (IsUtf8-string_bytes text)) fits)
      (omega (arith, fits, few)) means))

-- it is what the text is read as, if that is compact
abbrev pub IsTreeOf : String Global → Value → Type 0
IsTreeOf text tree = (d : Data) → string_bytes text ≡ print (tokens (string_bytes text))
    → read (string_bytes text) ≡ Some d → view tree ≡ d

-- A compact text has a tree. Any other text has null.
pub tree_of_text : (text : String Global) → (tree : Value) × IsTreeOf text tree
tree_of_text text = choose (read bytes) (bytes_eq bytes (print (tokens bytes))) refl refl
  where
    bytes : List ℕ
    bytes = string_bytes text

    choose : (o : Option Data) (b : Bool) → read bytes ≡ o → bytes_eq bytes (print (tokens bytes)) ≡ b
        → (tree : Value) × IsTreeOf text tree
    choose None b none e = (value.Null, λ d compact reads. absurd (none-some d (sym none ∙ reads)))
    choose (Some c) true reads e =
        let t = tree_read text c ((bytes_eq-Decides bytes (print (tokens bytes))).0 e) reads in
        (t.0, λ d compact again. t.1 ∙ same_Some c d (sym reads ∙ again))
    choose (Some c) false reads e =
        let same = bytes_eq-Decides bytes (print (tokens bytes)) in
        (value.Null, λ d compact again. absurd (search (rules, same, compact, e)))
