-- What the params of a notification say (LSP 3.17, "DidOpenTextDocumentParams" and the ones after it), and the encoding
-- that a client offers ("GeneralClientCapabilities").
use Rattle.std.specs.Prelude.{ℕ, ℤ, pos, nat_lt, int_lt, Bool, false, if◌then◌else◌, List, [], ◌∷◌, Option, Some, None}
use Rattle.std.specs.Prelude.{option_map, option_and_then, unwrap_or, codes, is_some, is_none, ◌||◌}
use Rattle.std.specs.Str.{bytes_eq}
use Rattle.serde_json.specs.Data.{Data, null, Items, no_items, item}
use Rattle.serde_json.specs.Find.{get, as_str, as_number, as_u64, as_i64, as_array}
use Rattle.lsp_message.specs.Meaning.{as_i32}
use Rattle.lsp_text.specs.Documents.{Change}
use Rattle.lsp_text.specs.declared.position.Position.{Position}
use Rattle.lsp_text.specs.declared.position.Range.{Range}
use Rattle.lsp_text.specs.declared.position.PositionEncoding.{PositionEncoding}
use Rattle.lsp_text.specs.declared.position.PositionEncoding.TheVariants.{Utf8, Utf16, Utf32}
use Rattle.lsp_documents.specs.Notices.{Notice, Item, text_item, opens, edits, saves, closes}

-- ---- members

abbrev pub text_in : List ℕ → Data → Option (List ℕ)
text_in name d = option_and_then as_str (get name d)

-- how many lines or units, if 32 bits hold the number
abbrev pub small : ℕ → Option ℕ
small n = if nat_lt n 0x1_0000_0000 then Some n else None

abbrev pub count_in : List ℕ → Data → Option ℕ
count_in name d =
    option_and_then small (option_and_then as_u64 (option_and_then as_number (get name d)))

-- whether a number is an integer below 0, if the value is one
abbrev pub is_negative : Option Data → Bool
is_negative d =
    unwrap_or (option_map (λ z. int_lt z (pos 0))
    (option_and_then as_i64 (option_and_then as_number d))) false

-- the line of a position: a negative one counts as 0
abbrev pub line_in : Data → Option ℕ
line_in d = if is_negative (get (codes "line") d) then Some 0 else count_in (codes "line") d

-- a version, if it is a number that 32 bits hold. Another value is none, as the text does not depend on it
abbrev pub version_in : Data → Option ℤ
version_in d =
    option_and_then as_i32 (option_and_then as_number (get (codes "version") d))

-- ---- changes

abbrev pub position_from : Data → Option Position
position_from d =
    option_and_then (λ line.
    option_map (λ character. record { line = line; character = character })
    (count_in (codes "character") d)) (line_in d)

abbrev pub range_from : Data → Option Range
range_from d = option_and_then (λ start.
    option_map (λ end. record { start = start; end = end })
    (option_and_then position_from (get (codes "end") d)))
    (option_and_then position_from (get (codes "start") d))

-- the range of a change. None may be given, and `null` is none
abbrev pub given_range : Option Data → Option (Option Range)
given_range None = Some None
given_range (Some null) = Some None
given_range (Some d) = option_map Some (range_from d)

abbrev pub change_in : Data → Option Change
change_in d =
    option_and_then (λ text.
    option_map (λ range. record { range = range; text = text })
    (given_range (get (codes "range") d))) (text_in (codes "text") d)

abbrev pub changes_in : Items → Option (List Change)
changes_in no_items = Some []
changes_in (item d ds) =
    option_and_then (λ c. option_map (λ cs. c ∷ cs) (changes_in ds)) (change_in d)

-- whether a change that was read, if one was, is of the whole text
abbrev pub is_whole : Option Change → Bool
is_whole None = false
is_whole (Some c) = is_none c.range

abbrev pub whole_among : Items → Bool
whole_among no_items = false
whole_among (item d ds) = is_whole (change_in d) || whole_among ds

-- the values that decide: those from the last whole text on, or all if there is none. What stands before it is
-- replaced, whether it can be read or not
abbrev pub values_since_whole : Items → Items
values_since_whole no_items = no_items
values_since_whole (item d ds) = if whole_among ds then values_since_whole ds else item d ds

-- ---- params

abbrev pub document_in : Data → Option Data
document_in params = get (codes "textDocument") params

abbrev pub uri_from : Data → Option (List ℕ)
uri_from params = option_and_then (text_in (codes "uri")) (document_in params)

-- the document that `textDocument/didOpen` tells of. A language that is no text is the empty one
abbrev pub item_in : Data → Option Item
item_in d =
    option_map (text_item (unwrap_or (text_in (codes "languageId") d) []) (version_in d))
    (text_in (codes "text") d)

abbrev pub opened_in : Data → Option Item
opened_in params = option_and_then item_in (document_in params)

abbrev pub did_open_in : Data → Option Notice
did_open_in params =
    option_and_then (λ uri.
    option_map (λ d. opens uri d.language_id d.version d.text) (opened_in params))
    (uri_from params)

-- the values that are listed as changes, and of these the ones that decide
abbrev pub values_given : Data → Option Items
values_given params =
    option_map values_since_whole (option_and_then as_array (get (codes "contentChanges") params))

abbrev pub changes_given : Data → Option (List Change)
changes_given params = option_and_then changes_in (values_given params)

abbrev pub did_change_in : Data → Option Notice
did_change_in params =
    option_and_then (λ uri.
    option_map (edits uri (option_and_then version_in (document_in params))) (changes_given params))
    (uri_from params)

abbrev pub did_save_in : Data → Option Notice
did_save_in params = option_map (λ uri. saves uri (text_in (codes "text") params)) (uri_from params)

abbrev pub did_close_in : Data → Option Notice
did_close_in params = option_map closes (uri_from params)

-- ---- the encoding

abbrev pub encoding_named : List ℕ → Option PositionEncoding
encoding_named name =
    if bytes_eq name (codes "utf-8") then Some Utf8
    else (if bytes_eq name (codes "utf-16") then Some Utf16
    else (if bytes_eq name (codes "utf-32") then Some Utf32 else None))

-- the first of the encodings that is one of the three
abbrev pub first_named : Items → Option PositionEncoding
first_named no_items = None
first_named (item d ds) = if is_some (option_and_then encoding_named (as_str d))
    then option_and_then encoding_named (as_str d) else first_named ds

-- what a client offers that has these capabilities
abbrev pub offered_by : Data → Option Items
offered_by client =
    option_and_then as_array
    (option_and_then (get (codes "positionEncodings")) (get (codes "general") client))

-- the encoding that is agreed on with it: UTF-16 if it offers none of the three
abbrev pub encoding_of : Data → PositionEncoding
encoding_of client = unwrap_or (option_and_then first_named (offered_by client)) Utf16

-- the same by the params of `initialize`
abbrev pub encoding_in : Data → PositionEncoding
encoding_in params = unwrap_or (option_map encoding_of (get (codes "capabilities") params)) Utf16
