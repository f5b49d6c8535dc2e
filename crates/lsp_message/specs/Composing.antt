-- Words of the private clauses on composing a message's tree and its text.
use Rattle.std.specs.Prelude.{◌≡◌, ℕ, List, ◌++◌, Bool, not, ◌&&◌, ◌==◌, nat_le, Option, Some, None, codes}
use Rattle.serde_json.specs.Data.{Data, Members, put}
use Rattle.lsp_message.specs.Meaning.{unless_null}

-- the byte stands for itself between quotes (RFC 8259, section 7)
abbrev pub is_plain_byte : ℕ → Bool
is_plain_byte b = nat_le 32 b && (not (b == 34) && not (b == 92))

-- such a text was added
abbrev pub Adds : (List ℕ → Type 0) → List ℕ → List ℕ → Type 0
Adds Is old new = (text : List ℕ) × Is text × (new ≡ old ++ text)

abbrev with_member : List ℕ → Option Data → Members → Members
with_member name None ms = ms
with_member name (Some d) ms = put name d ms

-- the members, with the params unless they are null
abbrev pub with_params : Data → Members → Members
with_params params ms = with_member (codes "params") (unless_null (Some params)) ms
