-- Ids and tokens by their values (JSON-RPC 2.0, section 4): a text, or a number.
use Rattle.std.specs.Float.{Float, binary64, float_to_signed}
use Rattle.std.specs.Float.Ieee.{of_int, le}
use Rattle.std.specs.Int.{w64}
use Rattle.std.specs.Prelude.{ℕ, ℤ, pos, ◌+◌, List, Bool, ◌&&◌, Option, Some, None, unwrap_or, option_and_then}
use Rattle.std.specs.Prelude.{if◌then◌else◌, int_lt, to_bits}
use Rattle.serde_json.specs.Data.{Num, unsigned, negative, float, Data, number, string}
use Rattle.serde_json.specs.Find.{get}
use Rattle.lsp_message.specs.Id as id
use Rattle.lsp_message.specs.Id.{Id}

-- the float is this integer of 64 bits
abbrev pub is_float_of : ℤ → Float → Bool
is_float_of z x = le (of_int binary64 z) x && (le x (of_int binary64 z) && int_lt z (pos 9223372036854775807))

-- `1.0` is 1, and `-0` is 0
abbrev pub whole_number : Num → Option ℤ
whole_number (unsigned n) = Some (pos n)
whole_number (negative z) = Some z
whole_number (float x) = if is_float_of (float_to_signed w64 x) x then Some (float_to_signed w64 x) else None

-- A number that is not whole has the number of its 64 bits, counted from 2^64 on: no integer of 64 bits lies there.
-- JSON-RPC 2.0 allows such an id ("SHOULD NOT").
abbrev pub bits_number : Num → ℤ
bits_number (unsigned n) = pos n
bits_number (negative z) = z
bits_number (float x) = pos (18446744073709551616 + to_bits binary64 x)

abbrev pub number_key : Num → ℤ
number_key n = unwrap_or (whole_number n) (bits_number n)

abbrev pub key_of : Data → Option Id
key_of (number n) = Some (id.number (number_key n))
key_of (string s) = Some (id.text s)
key_of d = None

-- the id or token that a member is
abbrev pub key_in : List ℕ → Data → Option Id
key_in name d = option_and_then key_of (get name d)
