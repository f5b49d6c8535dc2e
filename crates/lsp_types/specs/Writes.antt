-- How an object is written, member after member.
use Rattle.std.specs.Prelude.{ℕ, List, [], ◌∷◌, Bool, true, ◌&&◌, IsTrue, Option}
use Rattle.serde_json.specs.Data.{Data, Members}
use Rattle.lsp_json_write.specs.Taken.{Taken, are_before, open_object, precedes}
use Rattle.lsp_types.specs.Json.{with_member}

-- a key stands after the last of these, which is the first in the list
abbrev pub is_after : List ℕ → List (List ℕ) → Bool
is_after key [] = true
is_after key (last ∷ keys) = precedes last key

-- each of these keys stands after those before it, which are behind it in the list
abbrev pub are_in_order : List (List ℕ) → Bool
are_in_order [] = true
are_in_order (key ∷ keys) = is_after key keys && are_in_order keys

-- An object is open in `outer`, and these members are in it, if the keys that were written are in order.
pub record HasMembers {S : Type 0} (holds : S → Taken → Type 0) (keys : List (List ℕ)) (members : Members)
    (outer : Taken) (now : S) : Type 0 where
  pub written : IsTrue (are_in_order keys) → holds now (open_object members outer)
  pub before : IsTrue (are_in_order keys) → (key : List ℕ) → IsTrue (is_after key keys)
      → IsTrue (are_before key members)

-- a call wrote this member, if it has a value, to the object that is open
pub record WritesMember {S : Type 0} (holds : S → Taken → Type 0) (key : List ℕ) (value : Option Data) (old new : S)
    : Type 0 where
  pub adds : (keys : List (List ℕ)) (members : Members) (outer : Taken) → HasMembers holds keys members outer old
      → HasMembers holds (key ∷ keys) (with_member members (key, value)) outer new
