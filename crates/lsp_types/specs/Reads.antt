-- What is read of JSON.
use Rattle.std.specs.Prelude.{◌≡◌, ◌≢◌, ◌≤◌, ◌<◌, ◌^◌, ℕ, ℤ, List, [], ◌∷◌, ⊤, Option, Some, None, Result, Ok, Err}
use Rattle.std.specs.Prelude.{◌⊎◌, Bool, bytes_eq, if◌then◌else◌, option_map, true, is_some}
use Rattle.std.specs.List.{list_any}
use Rattle.std.specs.Prelude.{String, Vec, codes, string_bytes, option_and_then, unwrap_or, FitsSigned}
use Rattle.std.specs.BTreeMap.{insert_entry}
use Rattle.std.specs.Int.{w32}
use Rattle.std.specs.String.{string_cmp}
use Rattle.std.specs.declared.alloc.Global.{Global}
use Rattle.serde_json.specs.Data.{Data, Num, unsigned, negative, float, null, boolean, number, string, array, object}
use Rattle.serde_json.specs.Data.{Items, no_items, item, Members, no_members, member, put}
use Rattle.serde_json.specs.Find.{get, as_array, as_object, as_str, as_number, as_u64, as_i64}
use Rattle.serde_json.specs.View.{view}
use Rattle.serde_json.specs.declared.value.Value.{Value}
use Rattle.lsp_text.specs.Documents.{Change}
use Rattle.lsp_text.specs.declared.position.Position.{Position}
use Rattle.lsp_text.specs.declared.position.Range.{Range}
use Rattle.lsp_types.specs.declared.json.reading.Misfit.{Misfit}
use Rattle.lsp_types.specs.declared.json.reading.Misfit.TheVariants.{Memory}

infixl 20 ◌and◌
-- both facts
abbrev pub ◌and◌ : Type 0 → Type 0 → Type 0
first and second = first × second

-- a value that was read, or why there is none: an allocation failed, or no value fits
abbrev pub ReadsAs : {T : Type 0} → (T → Type 0) → Result T Misfit → Type 0
ReadsAs reads (Ok it) = reads it
ReadsAs {T} reads (Err misfit) = misfit ≢ Memory → (it : T) → ¬ reads it

-- the value of JSON that there may be, and none of none
abbrev pub ReadsSome : {T : Type 0} → (Data → T → Type 0) → Option Data → Option T → Type 0
ReadsSome reads None None = ⊤
ReadsSome reads (Some json) (Some it) = reads json it
ReadsSome reads None (Some it) = ⊥
ReadsSome reads (Some json) None = ⊥

-- no value fits
unfoldable pub NoneReads : {T : Type 0} → (Data → T → Type 0) → Data → Type 0
NoneReads {T} reads json = (it : T) → ¬ reads json it

-- a value if one fits
abbrev pub Fits : {T : Type 0} → (Data → T → Type 0) → Data → Option T → Type 0
Fits reads json (Some it) = reads json it
Fits reads json None = NoneReads reads json

-- the same of the JSON that there may be
abbrev pub FitsSome : {T : Type 0} → (Data → T → Type 0) → Option Data → Option T → Type 0
FitsSome reads None None = ⊤
FitsSome reads None (Some it) = ⊥
FitsSome reads (Some json) it = Fits reads json it

-- JSON that is there and not null
abbrev pub but_null : Option Data → Option Data
but_null None = None
but_null (Some null) = None
but_null (Some (boolean b)) = Some (boolean b)
but_null (Some (number n)) = Some (number n)
but_null (Some (string s)) = Some (string s)
but_null (Some (array ds)) = Some (array ds)
but_null (Some (object ms)) = Some (object ms)

-- an object
abbrev pub IsObject : Data → Type 0
IsObject json = is_some (as_object json) ≡ true

-- a member that has to be there
unfoldable pub Required : {T : Type 0} → (Data → T → Type 0) → List ℕ → Data → T → Type 0
Required reads key json it = ReadsSome reads (get key json) (Some it)

-- a member that may be missing or null
unfoldable pub Optional : {T : Type 0} → (Data → T → Type 0) → List ℕ → Data → Option T → Type 0
Optional reads key json it = IsObject json × ReadsSome reads (but_null (get key json)) it

-- a member that may be missing or null, and is passed over if it does not fit
unfoldable pub IfFits : {T : Type 0} → (Data → T → Type 0) → List ℕ → Data → Option T → Type 0
IfFits reads key json it = IsObject json × FitsSome reads (but_null (get key json)) it

-- a member that is a text, and counts as the empty one if it is none
unfoldable pub TextOrEmpty : List ℕ → Data → String Global → Type 0
TextOrEmpty key json it = IsObject json × (string_bytes it ≡ unwrap_or (option_and_then as_str (get key json)) [])

-- a member that is this text
unfoldable pub Named : List ℕ → List ℕ → Data → Type 0
Named key name json = option_and_then as_str (get key json) ≡ Some name

-- what a list or an object has in it, if the JSON is one
abbrev pub InSome : {A : Type 0} → (A → Type 0) → Option A → Type 0
InSome holds (Some found) = holds found
InSome holds None = ⊥

-- each value is that of the item at its place
abbrev pub EachItem : {T : Type 0} → (Data → T → Type 0) → Items → List T → Type 0
EachItem reads no_items [] = ⊤
EachItem reads (item json rest) (it ∷ more) = reads json it × EachItem reads rest more
EachItem reads no_items (it ∷ more) = ⊥
EachItem reads (item json rest) [] = ⊥

-- the values are those of the items that fit, in their order
abbrev pub FittingItems : {T : Type 0} → (Data → T → Type 0) → Items → List T → Type 0
FittingItems reads no_items values = values ≡ []
FittingItems {T} reads (item json rest) values =
    ((it : T) × (more : List T) × (values ≡ it ∷ more) × reads json it × FittingItems reads rest more)
    ⊎ (NoneReads reads json × FittingItems reads rest values)

-- a member that is a list, without the items that do not fit
unfoldable pub ThoseThatFit : {T : Type 0} → (Data → T → Type 0) → List ℕ → Data → Vec T Global → Type 0
ThoseThatFit reads key json values =
    InSome (λ items. FittingItems reads items values.items) (option_and_then as_array (get key json))

-- each entry has the key and the value of the member at its place
abbrev pub EachMember : {T : Type 0} → (Data → T → Type 0) → Members → List (String Global × T) → Type 0
EachMember reads no_members [] = ⊤
EachMember reads (member key json rest) (entry ∷ more) =
    (string_bytes entry.0 ≡ key) × reads json entry.1 × EachMember reads rest more
EachMember reads no_members (entry ∷ more) = ⊥
EachMember reads (member key json rest) [] = ⊥

-- whether a key is one of these
abbrev pub is_named : List (List ℕ) → List ℕ → Bool
is_named keys key = list_any (λ named. bytes_eq named key) keys

-- the members that have other keys than these, in their order
abbrev pub others : List (List ℕ) → Members → Members
others keys no_members = no_members
others keys (member key json rest) = if is_named keys key then others keys rest else member key json (others keys rest)

-- the members, with one more if its key is none of these
abbrev pub with_other : List (List ℕ) → List ℕ → Data → Members → Members
with_other keys key json members = if is_named keys key then members else put key json members

-- the object with these members, if there is one
abbrev pub object_if : Members → Option Data
object_if no_members = None
object_if (member key json rest) = Some (object (member key json rest))

-- what an object has beside the members of these keys: an object, or none if there is nothing
unfoldable pub Beside : List (List ℕ) → Data → Option Value → Type 0
Beside keys json it = InSome (λ members. option_map view it ≡ object_if (others keys members)) (as_object json)

-- a whole number of 32 bits, from 0
abbrev pub IsWhole : Data → ℕ → Type 0
IsWhole json n = (option_and_then as_u64 (as_number json) ≡ Some n) × (n < 2 ^ 32)

-- a whole number from one to another
abbrev pub IsWithin : ℕ → ℕ → Data → ℕ → Type 0
IsWithin least most json n = IsWhole json n × (least ≤ n) × (n ≤ most)

-- the number of a line: a negative one counts as 0
abbrev pub line_of : Num → Option ℕ
line_of (unsigned n) = Some n
line_of (negative z) = Some 0
line_of (float x) = None

-- the number of a line, of 32 bits
abbrev pub IsLine : Data → ℕ → Type 0
IsLine json n = (option_and_then line_of (as_number json) ≡ Some n) × (n < 2 ^ 32)

-- a whole number of 32 bits, which may be negative
abbrev pub IsInt : Data → ℤ → Type 0
IsInt json z = (option_and_then as_i64 (as_number json) ≡ Some z) × FitsSigned w32 z

-- null, or what is read of other JSON
abbrev pub ReadsOrNull : {T : Type 0} → (Data → T → Type 0) → Data → Option T → Type 0
ReadsOrNull reads json it = ReadsSome reads (but_null (Some json)) it

-- a value is put at a key
abbrev pub Puts : {T : Type 0} → List ℕ → T → List (String Global × T) → List (String Global × T) → Type 0
Puts key value old new =
    (name : String Global) × (string_bytes name ≡ key) × (new ≡ insert_entry string_cmp old name value)

-- a place in a text (LSP 3.17, "Position")
abbrev pub IsPosition : Data → Position → Type 0
IsPosition json it = Required IsLine (codes "line") json it.line
    × Required IsWhole (codes "character") json it.character

-- a part of a text (LSP 3.17, "Range")
abbrev pub IsRange : Data → Range → Type 0
IsRange json it = Required IsPosition (codes "start") json it.start × Required IsPosition (codes "end") json it.end

-- a change of a document (LSP 3.17, "TextDocumentContentChangeEvent")
abbrev pub IsChange : Data → Change → Type 0
IsChange json it = Optional IsRange (codes "range") json it.range
    × (option_and_then as_str (get (codes "text") json) ≡ Some it.text)

-- the text that there is, or why it was not read: an allocation failed, or there is none
abbrev pub TextAs : Option (List ℕ) → Result (String Global) Misfit → Type 0
TextAs found (Ok text) = found ≡ Some (string_bytes text)
TextAs found (Err misfit) = misfit ≢ Memory → found ≡ None

-- both, or why not
abbrev pub Both : {A T : Type 0} → Result A Misfit → Result T Misfit → Result (A × T) Misfit → Type 0
Both read more (Ok both) = (read ≡ Ok both.0) × (more ≡ Ok both.1)
Both read more (Err misfit) = (read ≡ Err misfit) ⊎ (more ≡ Err misfit)

-- one more beside what was read before, or why not
abbrev pub Adds : {A T : Type 0} → (T → Type 0) → Result A Misfit → Result (A × T) Misfit → Type 0
Adds reads before (Ok both) = (before ≡ Ok both.0) × reads both.1
Adds {A} {T} reads before (Err misfit) = (before ≡ Err misfit) ⊎ (misfit ≢ Memory → (it : T) → ¬ reads it)

-- what was read so far of the members of an object, which is this JSON
pub record ReadSoFar {A : Type 0} (json : Data) (reads : A → Type 0) (object : Data) (read : Result A Misfit)
    : Type 0 where
  pub same : object ≡ json
  pub read_as : ReadsAs reads read

-- a step that reads one member more of the same object
pub record ReadsMore {A T : Type 0} (reads : Data → T → Type 0) (before : Data) (old : Result A Misfit)
    (after : Data) (new : Result (A × T) Misfit) : Type 0 where
  pub same : after ≡ before
  pub adds : Adds (reads before) old new
