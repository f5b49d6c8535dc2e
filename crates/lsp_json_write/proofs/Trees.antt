-- How a tree grows, part by part.
use Rattle.std.proofs.Common.{◌≡◌, List, [], ◌∷◌, ◌++◌, Option, Some, None, Bool, true, false, true≢false, fold}
use Rattle.std.proofs.Common.{sym, ap, ◌∙◌, unwrap_or}
use Rattle.std.proofs.lemmas.List.Sums.{fold-append}
use Rattle.serde_json.specs.Data.{Data}
use Rattle.serde_json.specs.View.{view}
use Rattle.serde_json.specs.declared.value.Value.{Value}
use Rattle.lsp_json_write.specs.Taken.{Taken, nothing, whole, open_array, open_object, open_member}
use Rattle.lsp_json_write.specs.Tree.{root_taken, within}
use Rattle.lsp_json_write.specs.declared.tree_writer.Level.{Level}
use Rattle.lsp_json_write.specs.declared.tree_writer.Level.TheVariants.{Array, Member, Object}

-- the innermost level is in what the others are
pub innermost : (root : Taken) (levels rest : List Level) (level : Level) → levels ≡ rest ++ level ∷ []
    → fold within root levels ≡ within (fold within root rest) level
innermost root levels rest level split =
    ap (fold within root) split ∙ fold-append within root rest (level ∷ [])

-- what was taken has this innermost level
pub innermost_taken : (root : Taken) (levels rest : List Level) (level : Level) (t : Taken)
    → levels ≡ rest ++ level ∷ [] → fold within root levels ≡ t → within (fold within root rest) level ≡ t
innermost_taken root levels rest level t split h = sym (innermost root levels rest level split) ∙ h

abbrev is_whole : Taken → Bool
is_whole nothing = false
is_whole (whole d) = true
is_whole (open_array ds outer) = false
is_whole (open_object ms outer) = false
is_whole (open_member k ms outer) = false

abbrev data_or : Data → Taken → Data
data_or e nothing = e
data_or e (whole d) = d
data_or e (open_array ds outer) = e
data_or e (open_object ms outer) = e
data_or e (open_member k ms outer) = e

-- no value is whole within a level
not_whole : (t : Taken) (level : Level) (d : Data) → within t level ≡ whole d → ⊥
not_whole t (Array items) d h = true≢false (sym (ap is_whole h))
not_whole t (Object members) d h = true≢false (sym (ap is_whole h))
not_whole t (Member members key) d h = true≢false (sym (ap is_whole h))

no_level : (t : Taken) (levels : List Level) (d : Data) → fold within t levels ≡ whole d → t ≡ whole d
no_level t [] d h = h
no_level t (level ∷ levels) d h = absurd (not_whole t level d (no_level (within t level) levels d h))

-- what was taken as one value is the value at the root
pub whole_root : (root : Option Value) (other : Value) (levels : List Level) (d : Data)
    → fold within (root_taken root) levels ≡ whole d → view (unwrap_or root other) ≡ d
whole_root None other levels d h = absurd (true≢false (sym (ap is_whole (no_level nothing levels d h))))
whole_root (Some v) other levels d h = ap (data_or d) (no_level (whole (view v)) levels d h)
