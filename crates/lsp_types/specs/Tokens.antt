-- The numbers that stand for semantic tokens (LSP 3.17, "Integer Encoding for Tokens").
use Rattle.std.specs.Prelude.{ℕ, ◌-◌, Bool, true, ◌||◌, ◌&&◌, ◌==◌, nat_lt, nat_le, cond, List, [], ◌∷◌, ◌++◌}
use Rattle.lsp_types.specs.declared.tokens.SemanticToken.{SemanticToken}

-- a token stands behind a place, or at it
abbrev pub is_behind : ℕ → ℕ → SemanticToken → Bool
is_behind line start t = nat_lt line t.line || (line == t.line && nat_le start t.start)

-- each token stands behind the one before it, and the first one behind a place
abbrev pub are_behind : ℕ → ℕ → List SemanticToken → Bool
are_behind line start [] = true
are_behind line start (t ∷ ts) = is_behind line start t && are_behind t.line t.start ts

-- the five numbers of a token: how many lines it stands behind a place, how many units behind it if it is on that line,
-- or behind the line's start, its length, its type and its modifiers
abbrev pub five_behind : ℕ → ℕ → SemanticToken → List ℕ
five_behind line start t =
    (t.line - line) ∷ cond (line == t.line) (t.start - start) t.start
    ∷ t.length ∷ t.token_type ∷ t.token_modifiers ∷ []

-- the numbers of tokens: of each those behind the one before it, and of the first those behind a place
abbrev pub numbers_behind : ℕ → ℕ → List SemanticToken → List ℕ
numbers_behind line start [] = []
numbers_behind line start (t ∷ ts) = five_behind line start t ++ numbers_behind t.line t.start ts
