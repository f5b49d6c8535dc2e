-- What a connection has read and nobody has taken, by weight. For private clauses.
use Rattle.std.specs.Prelude.{◌≡◌, ◌⊎◌, ◌+◌, ◌-◌, ◌*◌, ◌≤◌, ◌==◌, ℕ, List, [], count_by, drop, length, min, sum}

-- the greatest weight
abbrev pub greatest : ℕ
greatest = 18446744073709551615

-- a weight that is too great for 64 bits counts as the greatest
abbrev pub capped : ℕ → ℕ
capped weight = min weight greatest

-- the last so many weights
abbrev pub newest : ℕ → List ℕ → List ℕ
newest count weights = drop (length weights - count) weights

-- A message of this weight may be sent: nothing is unread, or with it all that is unread weighs no more than the bound.
-- The greatest bound is none.
abbrev pub HasRoom : List ℕ → ℕ → ℕ → Type 0
HasRoom weights weight bound = (weights ≡ []) ⊎ (sum weights + weight ≤ bound) ⊎ (greatest ≤ bound)

-- an estimate of the memory that the message of a content part takes: a byte for each byte, more if a list or an object
-- opens, and for each further item
abbrev pub content_weight : List ℕ → ℕ
content_weight content =
    length content
    + 208 * (count_by (λ byte. byte == 44) content + count_by (λ byte. byte == 91) content)
    + 900 * count_by (λ byte. byte == 123) content
