-- What a quick look at a content part tells: that it is not the message `exit`.
use Rattle.json.specs.Json.{Json, string, Members, no_members, member, members, value}
use Rattle.json.specs.Token.{Token}
use Rattle.json.specs.Token as token
use Rattle.std.specs.Prelude.{◌≡◌, ◌<◌, ℕ, false, List, ◌∷◌, length, Some, Ok, codes}
use Rattle.std.specs.Str.{bytes_eq}
use Rattle.lsp_message.specs.Frame.{body_means}
use Rattle.lsp_message.specs.Message.{Message}
use Rattle.lsp_message.specs.Methods.{is_exit}

-- whatever message the content part is, it is not `exit`
abbrev pub IsNoExit : List ℕ → Type 0
IsNoExit content = (m : Message) → body_means content ≡ Ok m → is_exit m ≡ false

-- ---- for private clauses

-- a text other than `exit`
abbrev pub IsOtherText : Json → Type 0
IsOtherText (string s) = bytes_eq s (codes "exit") ≡ false
IsOtherText j = ⊥

-- each member `method` is a text other than `exit`
abbrev pub HasNoExit : Members → Type 0
HasNoExit no_members = Unit {0}
HasNoExit (member name j rest) = (name ≡ codes "method" → IsOtherText j) × HasNoExit rest

-- the members that these tokens begin with, if they do; a member's value nests at most so deep in a message
abbrev pub BeginsNoExit : ℕ → List Token → Type 0
BeginsNoExit turns tokens = (ms : Members) (rest : List Token)
    → members (value 126) turns tokens ≡ Some (ms, rest) → HasNoExit ms

-- the value of a member with this name was passed over
abbrev pub PassesValue : List ℕ → List Token → List Token → Type 0
PassesValue name old new = (j : Json) × (value 126 old ≡ Some (j, new))
    × (name ≡ codes "method" → IsOtherText j) × (length new < length old)

-- a text other than `exit` was passed over
abbrev pub PassesOther : List Token → List Token → Type 0
PassesOther old new = (s : List ℕ) × (old ≡ token.string s ∷ new) × IsOtherText (string s)

-- they begin with an object that is not `exit`
abbrev pub ObjectNoExit : List Token → Type 0
ObjectNoExit tokens = (rest : List Token) × (tokens ≡ token.begin_object ∷ rest)
    × BeginsNoExit (length rest) rest
