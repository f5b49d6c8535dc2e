-- What does not overlap the range of several edits overlaps none of them.
use Rattle.std.proofs.Common.{◌≡◌, ◌∙◌, Bool, true, false, ◌&&◌, ◌||◌, Option, Some, None, List, [], ◌∷◌, ◌++◌}
use Rattle.std.proofs.Common.{refl, ap, arith, codes}
use Rattle.serde_json.specs.Data.{Data}
use Rattle.serde_json.specs.View.{view, items_view}
use Rattle.serde_json.specs.declared.value.Value.{Value}
use Rattle.lsp_model.specs.Spans.{span_in, is_before, overlap, earlier, later, hull, overlaps_one, any_overlap}
use Rattle.lsp_model.specs.declared.spans.Place.{Place}
use Rattle.lsp_model.specs.declared.spans.Span.{Span}

-- ---- truth values

or_assoc : (a b c : Bool) → (a || (b || c)) ≡ ((a || b) || c)
or_assoc true b c = refl
or_assoc false b c = refl

or_mixed : (a b c d : Bool) → ((a || d) || (b || c)) ≡ ((a || b) || (d || c))
or_mixed true b c d = refl
or_mixed false true c true = refl
or_mixed false true c false = refl
or_mixed false false c d = refl

pub or_false : {a b : Bool} → a ≡ false → b ≡ false → (a || b) ≡ false
or_false {a} {b} first second = ap (λ t. t || b) first ∙ second

or_grows : (a b c d : Bool) → (a ≡ true → c ≡ true) → (b ≡ true → d ≡ true) → (a || b) ≡ true → (c || d) ≡ true
or_grows a b c d first second is = grind arith

none_of_either : (a b c d : Bool) → ((a || b) && (c || d)) ≡ false → ((a && c) ≡ false) × ((b && d) ≡ false)
none_of_either a b c d none = grind arith

-- ---- ranges

-- what begins before one of two ends begins before the later one
before_later : (x a b : Place) → (is_before x a || is_before x b) ≡ is_before x (later a b)
before_later x a b = grind arith

after_earlier : (x a b : Place) → (is_before a x || is_before b x) ≡ is_before (earlier a b) x
after_earlier x a b = grind arith

pub none_of_two : (x a b : Option Span) → overlap x (hull a b) ≡ false → (overlap x a ≡ false) × (overlap x b ≡ false)
none_of_two None a b none = (refl, refl)
none_of_two (Some x) None b none = (refl, none)
none_of_two (Some x) (Some a) None none = (none, refl)
none_of_two (Some x) (Some a) (Some b) none =
    none_of_either (is_before x.start a.end) (is_before x.start b.end) (is_before a.start x.end)
    (is_before b.start x.end)
    (ap (λ t. t && (is_before a.start x.end || is_before b.start x.end)) (before_later x.start a.end b.end)
    ∙ ap (λ t. is_before x.start (later a.end b.end) && t) (after_earlier x.end a.start b.start) ∙ none)

overlap_swapped : (x y : Option Span) → overlap x y ≡ overlap y x
overlap_swapped None None = refl
overlap_swapped None (Some y) = refl
overlap_swapped (Some x) None = refl
overlap_swapped (Some x) (Some y) = grind arith

-- ---- one more edit

pub overlaps_one_more : (d : Data) (vs : List Value) (v : Value)
    → overlaps_one d (items_view (vs ++ v ∷ []))
    ≡ (overlaps_one d (items_view vs) || overlap (span_in (codes "range") d) (span_in (codes "range") (view v)))
overlaps_one_more d [] v = grind arith
overlaps_one_more d (e ∷ es) v =
    let first = overlap (span_in (codes "range") d) (span_in (codes "range") (view e)) in
    ap (λ t. first || t) (overlaps_one_more d es v)
    ∙ or_assoc first (overlaps_one d (items_view es))
    (overlap (span_in (codes "range") d) (span_in (codes "range") (view v)))

pub any_overlap_more : (vs : List Value) (v : Value)
    → any_overlap (items_view (vs ++ v ∷ [])) ≡ (any_overlap (items_view vs) || overlaps_one (view v) (items_view vs))
any_overlap_more [] v = refl
any_overlap_more (e ∷ es) v =
    let one = span_in (codes "range") (view e) in
    let other = span_in (codes "range") (view v) in
    let firsts = overlaps_one (view e) (items_view es) in
    let rest = any_overlap (items_view es) in
    let lasts = overlaps_one (view v) (items_view es) in
    ap (λ t. t || any_overlap (items_view (es ++ v ∷ []))) (overlaps_one_more (view e) es v)
    ∙ ap (λ t. (firsts || overlap one other) || t) (any_overlap_more es v)
    ∙ ap (λ t. (firsts || t) || (rest || lasts)) (overlap_swapped one other)
    ∙ or_mixed firsts rest lasts (overlap other one)

-- ---- edits that overlap do so in a longer list

overlaps_one_longer : (d : Data) (vs ws : List Value) → overlaps_one d (items_view vs) ≡ true
    → overlaps_one d (items_view (vs ++ ws)) ≡ true
overlaps_one_longer d [] ws is = absurd (grind arith)
overlaps_one_longer d (e ∷ es) ws is =
    let first = overlap (span_in (codes "range") d) (span_in (codes "range") (view e)) in
    or_grows first (overlaps_one d (items_view es)) first (overlaps_one d (items_view (es ++ ws))) (λ t. t)
    (overlaps_one_longer d es ws) is

pub any_overlap_longer : (vs ws : List Value) → any_overlap (items_view vs) ≡ true
    → any_overlap (items_view (vs ++ ws)) ≡ true
any_overlap_longer [] ws is = absurd (grind arith)
any_overlap_longer (e ∷ es) ws is =
    or_grows (overlaps_one (view e) (items_view es)) (any_overlap (items_view es))
    (overlaps_one (view e) (items_view (es ++ ws))) (any_overlap (items_view (es ++ ws)))
    (overlaps_one_longer (view e) es ws) (any_overlap_longer es ws) is
