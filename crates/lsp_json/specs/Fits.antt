-- Which tokens serde_json reads: those that do not nest too deep, and whose numbers are not too large.
use Rattle.std.specs.Prelude.{ℕ, zero, suc, List, [], ◌∷◌, Option, Some, None, option_map, option_and_then}
use Rattle.json.specs.Token.{Token}
use Rattle.serde_json.specs.Read.{number_of}

abbrev pub one_less : ℕ → Option ℕ
one_less zero = None
one_less (suc left) = Some left

-- how much deeper the values after the token may nest, if those before it may nest so much deeper
abbrev pub left_after : ℕ → Token → Option ℕ
left_after left Token.begin_object = one_less left
left_after left Token.end_object = Some (suc left)
left_after left Token.begin_array = one_less left
left_after left Token.end_array = Some (suc left)
left_after left (Token.key s) = Some left
left_after left (Token.string s) = Some left
left_after left (Token.number s) = option_map (λ n. left) (number_of s)
left_after left (Token.boolean b) = Some left
left_after left Token.null = Some left
left_after left Token.bad = Some left

-- the same, after all the tokens
unfoldable pub left_after_all : List Token → ℕ → Option ℕ
left_after_all [] left = Some left
left_after_all (t ∷ ts) left = option_and_then (left_after_all ts) (left_after left t)
