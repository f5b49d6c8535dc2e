-- The changes of a notification, read one after another.
use Rattle.std.specs.Prelude.{if◌then◌else◌, List, [], ◌∷◌, ◌++◌, Option, Some, option_map, is_none}
use Rattle.lsp_text.specs.Documents.{Change}

-- one change more, if those before it could be read. A whole text replaces them, whether they could or not
abbrev pub with_more : Option (List Change) → Change → Option (List Change)
with_more done c = if is_none c.range then Some (c ∷ []) else option_map (λ cs. cs ++ (c ∷ [])) done
