-- What a sink of JSON has taken, and what each call adds.
use Rattle.std.specs.Prelude.{ℕ, List, Bool, true, false, ◌&&◌, Option, Some, None, IfSome, if◌then◌else◌}
use Rattle.std.specs.Ordering.{nat_cmp, match_ordering}
use Rattle.std.specs.Cmp.Lexicographic.{slice_cmp}
use Rattle.serde_json.specs.Data.{Data, array, object, Items, no_items, item, Members, no_members, member, put}

-- `nothing` is before the first call. Arrays and objects may be open, one inside another. The innermost is named first.
pub data Taken : Type 0 where
  nothing : Taken
  whole : Data → Taken
  open_array : Items → Taken → Taken
  open_object : Members → Taken → Taken
  -- an object is open, and the value of this key comes next
  open_member : List ℕ → Members → Taken → Taken

-- the items with one more at the end
abbrev pub add_item : Items → Data → Items
add_item no_items d = item d no_items
add_item (item e ds) d = item e (add_item ds d)

-- one more value, where one may stand
abbrev pub with_value : Data → Taken → Option Taken
with_value d nothing = Some (whole d)
with_value d (whole e) = None
with_value d (open_array ds outer) = Some (open_array (add_item ds d) outer)
with_value d (open_object ms outer) = None
with_value d (open_member k ms outer) = Some (open_object (put k d ms) outer)

-- the first key stands before the second one
abbrev pub precedes : List ℕ → List ℕ → Bool
precedes k l = match_ordering (slice_cmp nat_cmp k l) true false false

-- each of the members has a key before this one
abbrev pub are_before : List ℕ → Members → Bool
are_before k no_members = true
are_before k (member l d ms) = precedes l k && are_before k ms

-- one more key, which stands after those of the members before it
abbrev pub with_key : List ℕ → Taken → Option Taken
with_key k nothing = None
with_key k (whole e) = None
with_key k (open_array ds outer) = None
with_key k (open_object ms outer) = if are_before k ms then Some (open_member k ms outer) else None
with_key k (open_member l ms outer) = None

abbrev pub with_array : Taken → Option Taken
with_array t = Some (open_array no_items t)

abbrev pub with_object : Taken → Option Taken
with_object t = Some (open_object no_members t)

-- the array that is open is one value
abbrev pub array_ended : Taken → Option Taken
array_ended nothing = None
array_ended (whole e) = None
array_ended (open_array ds outer) = with_value (array ds) outer
array_ended (open_object ms outer) = None
array_ended (open_member k ms outer) = None

-- the object that is open is one value
abbrev pub object_ended : Taken → Option Taken
object_ended nothing = None
object_ended (whole e) = None
object_ended (open_array ds outer) = None
object_ended (open_object ms outer) = with_value (object ms) outer
object_ended (open_member k ms outer) = None

-- A call did this step: a sink that had taken `t` has taken what the step makes of it, where the step may be done.
abbrev pub Steps : {S : Type 0} → (S → Taken → Type 0) → (Taken → Option Taken) → S → S → Type 0
Steps holds step old new = (t : Taken) → holds old t → IfSome (step t) (holds new)
