-- How many lines each open document has (LSP 3.17, "Text Document Synchronization").
use Rattle.std.specs.BTreeMap.{get_by_text}
use Rattle.std.specs.Prelude.{◌≡◌, ℕ, List, [], ◌∷◌, Option, Some, None}
use Rattle.std.specs.Prelude.{option_and_then, option_map, if◌then◌else◌, codes}
use Rattle.serde_json.specs.Data.{Data}
use Rattle.serde_json.specs.Find.{get, as_array}
use Rattle.lsp_watch.specs.Documents.{deed_in, document_in, is_text, params_in, uri_in}
use Rattle.lsp_watch.specs.Log.{Log}
use Rattle.lsp_watch.specs.declared.documents.Deed.{Deed}
use Rattle.lsp_watch.specs.declared.documents.Deed.TheVariants.{Opens, Changes, Closes}
use Rattle.lsp_model.specs.Lines.{after_changes, lines_of, text_in}
use Rattle.lsp_model.specs.declared.line_counts.Counted.{Counted}
use Rattle.lsp_model.specs.declared.line_counts.LineCounts.{LineCounts}

-- the lines of the document that a client opens with these params
abbrev pub opened_lines : Data → Option ℕ
opened_lines params = option_and_then lines_of (option_and_then text_in (document_in params))

-- the lines of a document that a client changes with these params
abbrev pub changed_lines : Option ℕ → Data → Option ℕ
changed_lines lines params =
    option_and_then (after_changes lines) (option_and_then as_array (get (codes "contentChanges") params))

abbrev pub changed_at : ℕ → Data → Counted → Counted
changed_at place params before = record { lines = changed_lines before.lines params; changed = place }

-- a document after the client did this with it
abbrev pub after_deed : Option Deed → ℕ → Data → Option Counted → Option Counted
after_deed None place params before = before
after_deed (Some Opens) place params before = Some (record { lines = opened_lines params; changed = place })
after_deed (Some Changes) place params before = option_map (changed_at place params) before
after_deed (Some Closes) place params before = None

-- the document of a URI after a message with these params, by which the client does this
abbrev pub counted_after : List ℕ → Option Deed → ℕ → Data → Option Counted → Option Counted
counted_after uri deed place params before =
    if is_text uri (uri_in params) then after_deed deed place params before else before

-- the document of a URI, if it is open: the number of its lines, and which message changed it last
abbrev pub counted_of : List ℕ → Log → Option Counted
counted_of uri [] = None
counted_of uri (p ∷ before) =
    counted_after uri (deed_in p.direction p.message) p.place (params_in p.message) (counted_of uri before)

abbrev pub counted_in : LineCounts → List ℕ → Option Counted
counted_in c uri = get_by_text c.documents uri

-- the documents that are kept are those that are open
abbrev pub Counts : LineCounts → Log → Type 0
Counts c log = (uri : List ℕ) → counted_in c uri ≡ counted_of uri log
