-- An option that asks for no channel is passed over.
use Rattle.std.proofs.Common.{◌≡◌, ℕ, ◌-◌, ◌≤◌, true, false, List, [], ◌∷◌, map, length, string_bytes, codes, refl, ap}
use Rattle.std.proofs.Common.{sym, ◌∙◌, arith, Global}
use Rattle.std.specs.Prelude.{String, take, drop, get_or}
use Rattle.std.specs.Str.{bytes_eq}
use Rattle.std.proofs.lemmas.Bool.{false_from_ne_true}
use Rattle.std.proofs.lemmas.Slice.Eq.{bytes_eq-Decides}
use Rattle.lsp_server.specs.Words.{is_option, option_name, channel_of}

differs : (a b : List ℕ) → (a ≡ b → ⊥) → bytes_eq a b ≡ false
differs a b other = false_from_ne_true (bytes_eq a b) (λ same. other ((bytes_eq-Decides a b).0 same))

passed_over : (word : List ℕ) (rest : List (List ℕ)) → is_option word ≡ true
    → (option_name word ≡ codes "--node-ipc" → ⊥) → (option_name word ≡ codes "--pipe" → ⊥)
    → (option_name word ≡ codes "--socket" → ⊥) → (option_name word ≡ codes "--port" → ⊥)
    → (option_name word ≡ codes "--clientProcessId" → ⊥)
    → channel_of (word ∷ rest) ≡ channel_of rest
passed_over word rest option node pipe socket port process =
    rw (option, differs _ _ node, differs _ _ pipe, differs _ _ socket, differs _ _ port, differs _ _ process) refl

all : (words : List (String Global)) → take (length words) words ≡ words
all [] = refl
all (word ∷ rest) = ap (λ l. word ∷ l) (all rest)

behind : (first : String Global) (rest : List (String Global)) → take (length (first ∷ rest) - 1) (drop 1 (first
    ∷ rest)) ≡ rest
behind first rest = let count : length (first ∷ rest) - 1 ≡ length rest = omega arith in ap (λ n. take n rest) count
    ∙ all rest

-- the same of the words as a function has them
pub passed_words : (words : List (String Global)) (word : String Global) (text name : List ℕ) → 1 ≤ length words
    → word ≡ get_or words 0 word → text ≡ string_bytes word → name ≡ option_name text → true ≡ is_option text
    → (name ≡ codes "--node-ipc" → ⊥) → (name ≡ codes "--pipe" → ⊥) → (name ≡ codes "--socket" → ⊥)
    → (name ≡ codes "--port" → ⊥) → (name ≡ codes "--clientProcessId" → ⊥)
    → channel_of (map string_bytes (take (length words - 1) (drop 1 words))) ≡ channel_of (map string_bytes words)
passed_words [] word text name few e te ne option node pipe socket port process = absurd (omega arith)
passed_words (first ∷ rest) word text name few e te ne option node pipe socket port process =
    let at : text ≡ string_bytes first = te ∙ ap string_bytes e in
    let named : option_name (string_bytes first) ≡ name = sym (ne ∙ ap option_name at) in
    ap (λ l. channel_of (map string_bytes l)) (behind first rest)
    ∙ sym (passed_over (string_bytes first) (map string_bytes rest) (sym (option ∙ ap is_option at))
    (λ f. node (sym named ∙ f)) (λ f. pipe (sym named ∙ f)) (λ f. socket (sym named ∙ f)) (λ f. port (sym named ∙ f))
    (λ f. process (sym named ∙ f)))
