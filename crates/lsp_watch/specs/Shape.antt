-- The rules of the shape of one message (JSON-RPC 2.0, sections 4 and 5; LSP 3.17, "Base Protocol").
use Rattle.std.specs.Prelude.{◌≡◌, ◌⊎◌, ℕ, ℤ, List, [], ◌∷◌, ◌++◌, Bool, true, false, not, ◌&&◌, Option, Some, None}
use Rattle.std.specs.Prelude.{option_map, option_and_then, is_some, codes}
use Rattle.std.specs.Str.{bytes_eq, IsUtf8}
use Rattle.serde_json.specs.Data.{Data, number, string, array, object}
use Rattle.serde_json.specs.Find.{get, as_str, as_number, as_integer, as_null}
use Rattle.serde_json.specs.View.{view}
use Rattle.lsp_message.specs.Meaning.{is_i32, unless_null}
use Rattle.lsp_watch.specs.Entries.{entry_view, entry_in}
use Rattle.lsp_watch.specs.Keys.{whole_number}
use Rattle.lsp_watch.specs.Methods.{is_request, is_notification}
use Rattle.lsp_watch.specs.declared.logged.LoggedMessage.{LoggedMessage}
use Rattle.lsp_watch.specs.declared.rule.Rule.{Rule}
use Rattle.lsp_watch.specs.declared.rule.Rule.TheVariants.{Batch, NoObject, BadVersion, NoMessage, BadMethod, BadId}
use Rattle.lsp_watch.specs.declared.rule.Rule.TheVariants.{WideId, BadParams, BothOutcomes, NoOutcome, BadError}
use Rattle.lsp_watch.specs.declared.rule.Rule.TheVariants.{NeedsId, TakesNoId, NotUtf8, NotJson, Unreadable}

abbrev pub when : Bool → Rule → List Rule
when true rule = rule ∷ []
when false rule = []

-- it is there, and such
abbrev pub has : (Data → Bool) → Option Data → Bool
has such None = false
has such (Some d) = such d

abbrev pub is_text : List ℕ → Option (List ℕ) → Bool
is_text text None = false
is_text text (Some t) = bytes_eq t text

abbrev pub is_version : Data → Bool
is_version d = is_text (codes "2.0") (option_and_then as_str (get (codes "jsonrpc") d))

-- an integer or a text
abbrev pub is_id : Data → Bool
is_id (string s) = true
is_id (number n) = is_some (whole_number n)
is_id d = false

-- an integer, and none of 32 bits
abbrev pub is_beyond : Option ℤ → Bool
is_beyond None = false
is_beyond (Some z) = not (is_i32 z)

abbrev pub is_wide : Data → Bool
is_wide d = is_beyond (option_and_then whole_number (as_number d))

abbrev pub is_structure : Data → Bool
is_structure (array ds) = true
is_structure (object ms) = true
is_structure d = false

-- an integer `code` and a text `message` (section 5.1)
abbrev pub is_error : Data → Bool
is_error d = is_some (option_and_then as_integer (option_and_then as_number (get (codes "code") d)))
    && is_some (option_and_then as_str (get (codes "message") d))

-- ---- a call (section 4)

-- of a method of LSP, by whether there is an id
abbrev pub known_faults : Bool → List ℕ → List Rule
known_faults has_id method = when (not has_id && is_request method) NeedsId
    ++ when (has_id && is_notification method) TakesNoId

abbrev pub method_faults : Option Data → Option (List ℕ) → List Rule
method_faults id None = BadMethod ∷ []
method_faults id (Some method) = known_faults (is_some id) method

abbrev pub call_faults : Data → Data → List Rule
call_faults d method = let id : Option Data = get (codes "id") d in
    when (has (λ i. not (is_id i)) id) BadId
    ++ (when (has is_wide id) WideId
    ++ (when (has (λ params. not (is_structure params)) (get (codes "params") d)) BadParams
    ++ method_faults id (as_str method)))

-- ---- a reply (section 5): the id is null only in an error

abbrev pub outcome_faults : Data → Option Data → Option Data → List Rule
outcome_faults id result error = let failure : Option Data = unless_null error in
    when (not (is_some (as_null id) && (is_some failure && not (is_some result))) && not (is_id id)) BadId
    ++ (when (is_wide id) WideId
    ++ (when (is_some result && is_some error) BothOutcomes
    ++ (when (not (is_some result) && not (is_some failure)) NoOutcome
    ++ when (has (λ e. not (is_error e)) failure) BadError)))

abbrev pub reply_faults : Data → Option Data → List Rule
reply_faults d None = NoMessage ∷ []
reply_faults d (Some id) = outcome_faults id (get (codes "result") d) (get (codes "error") d)

-- ---- a message

abbrev pub named_faults : Data → Option Data → List Rule
named_faults d None = reply_faults d (get (codes "id") d)
named_faults d (Some method) = call_faults d method

abbrev pub object_faults : Data → List Rule
object_faults d = when (not (is_version d)) BadVersion ++ named_faults d (get (codes "method") d)

-- the rules of its shape that a message breaks, in this order
abbrev pub faults_of : Data → List Rule
faults_of (object ms) = object_faults (object ms)
faults_of (array ds) = Batch ∷ []
faults_of d = NoObject ∷ []

-- the message was read from this tree
pub record IsReadAs (m : LoggedMessage) (d : Data) : Type 0 where
  pub entry_is : option_map entry_view m.entry ≡ entry_in d
  pub tree_is : option_map (λ e. view e.tree) m.entry ≡ option_map (λ x. d) (entry_in d)
  pub faults_are : m.faults.items ≡ faults_of d

-- What is said of a content that is no JSON to the reader: it is none, or it could not be read.
pub record IsUnread (m : LoggedMessage) : Type 0 where
  pub no_entry : m.entry ≡ None
  pub why : (m.faults.items ≡ NotJson ∷ []) ⊎ (m.faults.items ≡ Unreadable ∷ [])

abbrev pub ReadsAs : LoggedMessage → Option Data → Type 0
ReadsAs m None = IsUnread m
ReadsAs m (Some d) = IsReadAs m d

-- the bytes are no text
abbrev pub NoUtf8 : List ℕ → Type 0
NoUtf8 bytes = IsUtf8 bytes → ⊥

pub record IsNoText (m : LoggedMessage) : Type 0 where
  pub no_entry : m.entry ≡ None
  pub why : m.faults.items ≡ NotUtf8 ∷ []
