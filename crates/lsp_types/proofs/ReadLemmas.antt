-- How numbers of lines, lists and maps are read.
use Rattle.std.proofs.Common.{◌≡◌, ℕ, List, [], ◌∷◌, ◌++◌, sym, ap, ◌∙◌}
use Rattle.std.proofs.Common.{subst, refl, append_assoc, append-nil, inl, inr, true, false, true≢false, is_some}
use Rattle.std.proofs.Common.{Result, Ok, Err, Option, Some, None, ℤ, option_and_then, String, Global, string_bytes}
use Rattle.std.proofs.Common.{string_cmp, nat_cmp, Less, Greater}
use Rattle.std.specs.BTreeMap.{insert_entry}
use Rattle.std.specs.Cmp.Lexicographic.{slice_cmp}
use Rattle.std.specs.List.{AllByRecursion}
use Rattle.std.specs.List.Sorted.{IsStrictlySortedBy}
use Rattle.std.specs.Map.{keys_of}
use Rattle.std.specs.Ordering.{ordering_reverse}
use Rattle.std.proofs.lemmas.Option.{none-some}
use Rattle.std.proofs.Common.{of_z, to_z, w32}
use Rattle.std.proofs.lemmas.Int.{to_z-of_z}
use Rattle.std.proofs.lemmas.Cmp.{nat_list_cmp_total}
use Rattle.serde_json.specs.Data.{Data, Num, unsigned, negative, float, null, boolean, number, string, array, object}
use Rattle.serde_json.specs.Find.{as_i64, as_null, as_u64, get}
use Rattle.serde_json.specs.View.{members_view, view}
use Rattle.serde_json.specs.declared.value.Value.{Value}
use Rattle.lsp_types.specs.declared.json.reading.Misfit.{Misfit}
use Rattle.lsp_types.specs.Reads.{Adds, Both, EachMember, Fits, IsInt, NoneReads, Puts, but_null}
use Rattle.lsp_types.specs.Reads.{ReadSoFar, ReadsAs, ReadsMore, ReadsSome, Required, line_of}

-- what is read of the same JSON
pub of_same : {T : Type 0} (reads : Data → T → Type 0) {json other : Data} (result : Result T Misfit) → json ≡ other
    → ReadsAs (reads json) result → ReadsAs (reads other) result
of_same reads result same read = subst (λ json. ReadsAs (reads json) result) same read

-- null counts as missing
pub null_is_missing : (json : Data) → is_some (as_null json) ≡ true → but_null (Some json) ≡ None
null_is_missing null is = refl
null_is_missing (boolean b) is = absurd (true≢false (sym is))
null_is_missing (number n) is = absurd (true≢false (sym is))
null_is_missing (string s) is = absurd (true≢false (sym is))
null_is_missing (array ds) is = absurd (true≢false (sym is))
null_is_missing (object ms) is = absurd (true≢false (sym is))

-- another value does not
pub other_is_present : (json : Data) → is_some (as_null json) ≡ false → but_null (Some json) ≡ Some json
other_is_present null is = absurd (true≢false is)
other_is_present (boolean b) is = refl
other_is_present (number n) is = refl
other_is_present (string s) is = refl
other_is_present (array ds) is = refl
other_is_present (object ms) is = refl

abbrev pub Entry : Type 0
Entry = String Global × Value

-- a key is above those before it
below : (first : Entry) (done : List Entry) (e : Entry) (more : List Entry)
    → AllByRecursion (λ key. string_cmp first.0 key ≡ Less) (keys_of (done ++ e ∷ more)) → string_cmp first.0 e.0 ≡ Less
below first [] e more all = all.0
below first (next ∷ done) e more all = below first done e more all.1

pub above : (first : Entry) (done : List Entry) (e : Entry) (more : List Entry)
    → AllByRecursion (λ key. string_cmp first.0 key ≡ Less) (keys_of (done ++ e ∷ more))
    → slice_cmp nat_cmp (string_bytes e.0) (string_bytes first.0) ≡ Greater
above first done e more all = nat_list_cmp_total.antisymm (string_bytes e.0) (string_bytes first.0)
    ∙ ap ordering_reverse (below first done e more all)

-- one more member, whose key goes last
pub member_more : {T : Type 0} (reads : Data → T → Type 0) (done : List Entry) (e : Entry) (more : List Entry)
    (xs : List (String Global × T)) (name : String Global) (x : T)
    → IsStrictlySortedBy string_cmp (keys_of (done ++ e ∷ more)) → string_bytes name ≡ string_bytes e.0
    → EachMember reads (members_view done) xs → reads (view e.1) x
    → EachMember reads (members_view (done ++ e ∷ [])) (insert_entry string_cmp xs name x)
unfolding IsStrictlySortedBy
member_more reads [] e more [] name x sorted same each one = (same, one, tt)
member_more reads [] e more (y ∷ xs) name x sorted same each one = absurd each
member_more reads (first ∷ done) e more [] name x sorted same each one = absurd each
member_more reads (first ∷ done) e more (y ∷ xs) name x sorted same each one =
    let higher : slice_cmp nat_cmp (string_bytes name) (string_bytes y.0) ≡ Greater =
    ap (λ key. slice_cmp nat_cmp key (string_bytes y.0)) same
    ∙ ap (λ key. slice_cmp nat_cmp (string_bytes e.0) key) each.0
    ∙ above first done e more sorted.0 in
    rw higher (each.0, each.1, member_more reads done e more xs name x sorted.1 same each.2 one)

-- the value of a member
pub member_at : {T : Type 0} (reads : Data → T → Type 0) (done : List Entry) (e : Entry) (more : List Entry)
    (xs : List (String Global × T)) → EachMember reads (members_view (done ++ e ∷ more)) xs
    → (x : T) × reads (view e.1) x
member_at reads [] e more [] each = absurd each
member_at reads [] e more (y ∷ xs) each = (y.1, each.1)
member_at reads (first ∷ done) e more [] each = absurd each
member_at reads (first ∷ done) e more (y ∷ xs) each = member_at reads done e more xs each.2

-- of all members those before the rest are read
abbrev pub ReadUpTo : {T : Type 0} → (Data → T → Type 0) → List Entry → List Entry → List (String Global × T) → Type 0
ReadUpTo reads all rest xs = (done : List Entry) × (all ≡ done ++ rest) × EachMember reads (members_view done) xs

pub up_to_more : {T : Type 0} (reads : Data → T → Type 0) (all rest left : List Entry) (e : Entry)
    (old new : List (String Global × T)) (key : List ℕ) (x : T) → IsStrictlySortedBy string_cmp (keys_of all)
    → ReadUpTo reads all rest old → rest ≡ e ∷ left → key ≡ string_bytes e.0 → Puts key x old new → reads (view e.1) x
    → ReadUpTo reads all left new
up_to_more reads all rest left e old new key x sorted before step named puts one =
    let parts : all ≡ before.0 ++ e ∷ left = before.1 ∙ ap (λ es. before.0 ++ es) step in (
      before.0 ++ e ∷ [],
      parts ∙ sym (append_assoc before.0 (e ∷ []) left),
      subst (λ es. EachMember reads (members_view (before.0 ++ e ∷ [])) es) (sym puts.2)
          (member_more reads before.0 e left old puts.0 x
          (subst (λ es. IsStrictlySortedBy string_cmp (keys_of es)) parts sorted) (puts.1 ∙ named) before.2 one),
    )

pub up_to_all : {T : Type 0} (reads : Data → T → Type 0) (all rest : List Entry) (xs : List (String Global × T))
    → ReadUpTo reads all rest xs → rest ≡ [] → EachMember reads (members_view all) xs
up_to_all reads all rest xs before none =
    subst (λ es. EachMember reads (members_view es) xs)
    (sym (before.1 ∙ ap (λ es. before.0 ++ es) none ∙ append-nil before.0)) before.2

pub up_to_unfit : {T : Type 0} (reads : Data → T → Type 0) (all rest left : List Entry) (e : Entry)
    (old xs : List (String Global × T)) → ReadUpTo reads all rest old → rest ≡ e ∷ left
    → ((x : T) → ¬ reads (view e.1) x) → ¬ EachMember reads (members_view all) xs
up_to_unfit reads all rest left e old xs before step unfit each =
    let found = member_at reads before.0 e left xs (subst (λ es. EachMember reads (members_view es) xs)
    (before.1 ∙ ap (λ es. before.0 ++ es) step) each) in
    unfit found.0 found.1

pub whole_line : (n : ℕ) (found : Option Num) → option_and_then as_u64 found ≡ Some n
    → option_and_then line_of found ≡ Some n
whole_line n (Some (unsigned m)) is = is
whole_line n (Some (negative z)) is = absurd (none-some _ is)
whole_line n (Some (float x)) is = absurd (none-some _ is)
whole_line n None is = absurd (none-some _ is)

pub negative_line : (z : ℤ) (found : Option Num) → option_and_then as_u64 found ≡ None
    → option_and_then as_i64 found ≡ Some z → option_and_then line_of found ≡ Some 0
negative_line z (Some (unsigned m)) none is = absurd (none-some _ (sym none))
negative_line z (Some (negative y)) none is = refl
negative_line z (Some (float x)) none is = absurd (none-some _ is)
negative_line z None none is = absurd (none-some _ is)

pub no_line : (found : Option Num) → option_and_then as_u64 found ≡ None → option_and_then as_i64 found ≡ None
    → option_and_then line_of found ≡ None
no_line (Some (unsigned m)) none nor = absurd (none-some _ (sym none))
no_line (Some (negative y)) none nor = absurd (none-some _ (sym nor))
no_line (Some (float x)) none nor = refl
no_line None none nor = refl

more : {A T : Type 0} (reads : A → Type 0) (adds : T → Type 0) (old : Result A Misfit) (new : Result (A × T) Misfit)
    → ReadsAs reads old → Adds adds old new → ReadsAs (λ both. reads both.0 × adds both.1) new
more reads adds old (Ok both) read one = (subst (λ r. ReadsAs reads r) one.0 read, one.1)
more reads adds old (Err misfit) read (inl same) =
    λ fits both holds. subst (λ r. ReadsAs reads r) same read fits both.0 holds.0
more reads adds old (Err misfit) read (inr unfit) = λ fits both holds. unfit fits both.1 holds.1

infixl 20 ◌then◌
-- what was read after one member more
pub ◌then◌ : {A T : Type 0} {json before after : Data} {reads : A → Type 0} {adds : Data → T → Type 0}
    {old : Result A Misfit} {new : Result (A × T) Misfit}
    → ReadSoFar json reads before old → ReadsMore adds before old after new
    → ReadSoFar json (λ both. reads both.0 × adds json both.1) after new
◌then◌ {reads = reads} {adds = adds} {old = old} {new = new} read step = record {
  same = step.same ∙ read.same;
  read_as = more reads _ old new read.read_as (subst (λ json. Adds (adds json) old new) read.same step.adds);
}

infixl 20 ◌ends◌
-- what was read at the end
pub ◌ends◌ : {A : Type 0} {json object : Data} {reads : A → Type 0} {read result : Result A Misfit}
    → ReadSoFar json reads object read → result ≡ read → ReadsAs reads result
◌ends◌ {reads = reads} read same = subst (λ r. ReadsAs reads r) (sym same) read.read_as

-- nothing fits where none was found
unfit : {T : Type 0} (reads : Data → T → Type 0) (json : Data) (found : Option T)
    → Fits reads json found → found ≡ None → NoneReads reads json
unfit reads json found fits none = subst (λ found. Fits reads json found) none fits

pub not_read : {T : Type 0} (reads : Data → T → Type 0) (json : Data) (found : Option T)
    → Fits reads json found → found ≡ None → (it : T) → ¬ reads json it
unfolding NoneReads
not_read reads json found fits none = unfit reads json found fits none

pub added : {A T : Type 0} (reads : T → Type 0) (read : Result A Misfit) (more : Result T Misfit)
    (new : Result (A × T) Misfit) → Both read more new → ReadsAs reads more → Adds reads read new
added reads read more (Ok both) same is = (same.0, subst (λ r. ReadsAs reads r) same.1 is)
added reads read more (Err misfit) (inl same) is = inl same
added reads read more (Err misfit) (inr same) is = inr (subst (λ r. ReadsAs reads r) same is)

kept_some : (found : Option Data) (z : ℤ) → ReadsSome IsInt found (Some z)
    → ReadsSome IsInt found (Some (to_z w32 (of_z w32 z)))
kept_some (Some json) z one = subst (λ n. IsInt json n) (sym (to_z-of_z w32 z one.1)) one
kept_some None z one = absurd one

-- a number of 32 bits is kept as its bits
pub kept : (key : List ℕ) (json : Data) (z : ℤ) → Required IsInt key json z
    → Required IsInt key json (to_z w32 (of_z w32 z))
unfolding Required
kept key json z one = kept_some (get key json) z one
