-- The documents that a client has opened, after any list of its notifications (LSP 3.17, "Text Document
-- Synchronization"): the client's own, and those that a server keeps, which may have missed some of what the client
-- did.
use Rattle.std.specs.Prelude.{◌≡◌, ◌⊎◌, ℕ, ℤ, int_le, int_lt, Bool, true, false, not, ◌&&◌, if◌then◌else◌, is_none}
use Rattle.std.specs.Prelude.{is_some, option_map, option_and_then, List, [], ◌∷◌, ◌++◌, Option, Some, None, IsSomeAnd}
use Rattle.std.specs.List.{list_any}
use Rattle.std.specs.Str.{bytes_eq}
use Rattle.lsp_text.specs.Documents.{Document, Change}
use Rattle.lsp_text.specs.Edits.{edited_by, past_by}
use Rattle.lsp_text.specs.Lines.{LinedText, lined}
use Rattle.lsp_text.specs.declared.position.PositionEncoding.{PositionEncoding}
use Rattle.lsp_documents.specs.declared.fault.DocumentFault.{DocumentFault}
use Rattle.lsp_documents.specs.declared.fault.DocumentFault.TheVariants.{Params, NotOpen, OutOfStep, OutOfOrder, Memory}
use Rattle.lsp_documents.specs.declared.fault.SyncWarning.{SyncWarning}
use Rattle.lsp_documents.specs.declared.fault.SyncWarning.TheVariants.{OpenAlready, VersionNotHigher, PastEnd}
use Rattle.lsp_documents.specs.declared.fault.SyncWarning.TheVariants.{SavedTextDiffers, WasNotOpen, BroughtBackBySave}
use Rattle.lsp_documents.specs.declared.negotiation.SyncOptions.{SyncOptions}
use Rattle.lsp_documents.specs.declared.kept.DocumentState.{DocumentState}
use Rattle.lsp_documents.specs.declared.kept.DocumentState.TheVariants.{Known, Lost}
use Rattle.lsp_documents.specs.declared.kept_document.Origin.{Origin}
use Rattle.lsp_documents.specs.declared.kept_document.Origin.TheVariants.{Told, BySave, BySaveChanged}
use Rattle.lsp_documents.specs.Remains.{remains, Kept, kept_as}

-- a document as a client has it. The language and the text are the bytes of their UTF-8, and the version is none if the
-- client gives none
pub record Item : Type 0 where
  pub language_id : List ℕ
  pub version : Option ℤ
  pub text : List ℕ

abbrev pub text_item : List ℕ → Option ℤ → List ℕ → Item
text_item language_id version text =
    record { language_id = language_id; version = version; text = text }

-- what a notification says of a document. One that it was saved may have the text
pub data NoticeKind : Type 0 where
  opened : Item → NoticeKind
  changed : Option ℤ → List Change → NoticeKind
  saved : Option (List ℕ) → NoticeKind
  closed : NoticeKind

-- a notification: the document's URI, and what it says
pub record Notice : Type 0 where
  pub uri : List ℕ
  pub kind : NoticeKind

abbrev pub opens : List ℕ → List ℕ → Option ℤ → List ℕ → Notice
opens uri language_id version text =
    record { uri = uri; kind = opened (text_item language_id version text) }

abbrev pub edits : List ℕ → Option ℤ → List Change → Notice
edits uri version list = record { uri = uri; kind = changed version list }

abbrev pub saves : List ℕ → Option (List ℕ) → Notice
saves uri text = record { uri = uri; kind = saved text }

abbrev pub closes : List ℕ → Notice
closes uri = record { uri = uri; kind = closed }

-- ---- the client's own document

-- whether one of the changes is of the whole text
abbrev pub has_whole : List Change → Bool
has_whole list = list_any (λ c. is_none c.range) list

-- the changes that decide: those from the last whole text on, or all if there is none
abbrev pub since_whole : List Change → List Change
since_whole [] = []
since_whole (c ∷ cs) = if has_whole cs then since_whole cs else c ∷ cs

-- a text whose lines end as was agreed on
abbrev pub text_by : SyncOptions → List ℕ → LinedText
text_by a text = lined a.options.line_ends text

-- what changes make of a client's text
abbrev pub edited_text : SyncOptions → List ℕ → List Change → List ℕ
edited_text a text list = (edited_by a.encoding (text_by a text) list).bytes

-- the client's document of a URI after what it tells of it. One that tells a whole text has it, whether it opened it or
-- not
abbrev pub told : SyncOptions → Option Item → NoticeKind → Option Item
told a before (opened c) = Some c
told a None (changed version list) =
    if has_whole list then Some (text_item [] version (edited_text a [] list)) else None
told a (Some c) (changed version list) =
    Some (text_item c.language_id version (edited_text a c.text list))
told a before (saved text) = before
told a before closed = None

abbrev pub told_all : SyncOptions → Option Item → List NoticeKind → Option Item
told_all a before [] = before
told_all a before (kind ∷ kinds) = told_all a (told a before kind) kinds

-- the text that comes with a save is the client's own, if the client was asked for it. Else it may be any
abbrev pub SavesOwn : SyncOptions → Option Item → NoticeKind → Type 0
SavesOwn a client (opened c) = Unit {0}
SavesOwn a client (changed version list) = Unit {0}
SavesOwn a client (saved None) = Unit {0}
SavesOwn a client (saved (Some text)) =
    a.include_text ≡ true → IsSomeAnd client (λ c. c.text ≡ text)
SavesOwn a client closed = Unit {0}

abbrev pub SavesItsText : SyncOptions → Option Item → List NoticeKind → Type 0
SavesItsText a client [] = Unit {0}
SavesItsText a client (kind ∷ kinds) = SavesOwn a client kind
    × SavesItsText a (told a client kind) kinds

-- ---- what a server keeps of it

abbrev pub document : List ℕ → Option ℤ → LinedText → Document
document language_id version text =
    record { language_id = language_id; version = version; text = text }

-- a client's document, as it is kept
abbrev pub kept_by : SyncOptions → Item → Document
kept_by a c = document c.language_id c.version (text_by a c.text)

-- the document that a server may look at: none if its text is lost
abbrev pub shown : DocumentState → Option Document
shown (Known k) = Some k.document
shown (Lost r) = None

-- a document that the client told whole
abbrev pub told_whole : Document → DocumentState
told_whole d = Known (kept_as d None Told)

-- whether a text is doubtful: a save brought it back, and no whole text came since. The client may save before it tells
-- changes that the saved text has already
abbrev pub is_by_save : Origin → Bool
is_by_save Told = false
is_by_save BySave = true
is_by_save BySaveChanged = true

-- the document that is shown, unless its text is doubtful
abbrev pub sure : DocumentState → Option Document
sure (Known k) = if is_by_save k.origin then None else Some k.document
sure (Lost r) = None

abbrev pub is_doubtful : DocumentState → Bool
is_doubtful (Known k) = is_by_save k.origin
is_doubtful (Lost r) = false

-- the same of a URI of which this is kept
abbrev pub has_doubt : Option DocumentState → Bool
has_doubt None = false
has_doubt (Some o) = is_doubtful o

abbrev pub language_of : DocumentState → List ℕ
language_of (Known k) = k.document.language_id
language_of (Lost r) = r.language_id

abbrev pub version_of : DocumentState → Option ℤ
version_of (Known k) = k.document.version
version_of (Lost r) = r.version

-- its text is lost: the language is left, and this version. One that is lost already stays as it is
abbrev pub lost_at : Option ℤ → DocumentState → DocumentState
lost_at version (Known k) = Lost (remains k.document.language_id version)
lost_at version (Lost r) = Lost r

-- the same where anything may have been missed: versions begin anew
abbrev pub lost : DocumentState → DocumentState
lost o = lost_at None o

-- the same where changes came out of order: versions go on
abbrev pub doubted : DocumentState → DocumentState
doubted o = lost_at (version_of o) o

abbrev pub changed_to : PositionEncoding → Document → Option ℤ → List Change → Document
changed_to e d version list = document d.language_id version (edited_by e d.text list)

-- a document that begins with changes, of which one is of the whole text
abbrev pub begun_by : SyncOptions → List ℕ → Option ℤ → List Change → Document
begun_by a language_id version list =
    document language_id version (edited_by a.encoding (text_by a []) list)

-- where the text is from after changes, where a whole text is among them or not
abbrev pub origin_after : Bool → Origin → Origin
origin_after whole Told = Told
origin_after whole BySave = if whole then Told else BySaveChanged
origin_after whole BySaveChanged = if whole then Told else BySaveChanged

-- what changes make of a document whose text is known. No saved text is left that is to be compared
abbrev pub changed_kept : SyncOptions → Kept → Option ℤ → List Change → Kept
changed_kept a k version list =
    kept_as (changed_to a.encoding k.document version list) None (origin_after (has_whole list) k.origin)

-- the same of one whose text may be lost: then they need a whole text among them
abbrev pub changed_in : SyncOptions → DocumentState → Option ℤ → List Change → DocumentState
changed_in a (Known k) version list = Known (changed_kept a k version list)
changed_in a (Lost r) version list =
    if has_whole list then told_whole (begun_by a r.language_id version list) else Lost r

-- a saved text that differs from this one, which is to be compared after the next notification
abbrev pub to_compare : LinedText → List ℕ → Option (List ℕ)
to_compare t text = if bytes_eq t.bytes text then None else Some text

-- what a text that was asked for and comes with a save makes of the document. If it differs from the known text, it is
-- compared after the next notification: some clients save before they tell their last changes. It is taken only if the
-- document's own text is lost. Which version it is nobody says
abbrev pub saved_in : SyncOptions → DocumentState → List ℕ → DocumentState
saved_in a (Known k) text = Known (kept_as k.document (to_compare k.document.text text) k.origin)
saved_in a (Lost r) text = Known (kept_as (document r.language_id None (text_by a text)) None BySave)

-- whether a version is the one before, or below it
abbrev pub is_not_higher : Option ℤ → Option ℤ → Bool
is_not_higher None before = false
is_not_higher (Some version) None = false
is_not_higher (Some version) (Some before) = int_le version before

-- whether a version is below the one before
abbrev pub is_lower : Option ℤ → Option ℤ → Bool
is_lower None before = false
is_lower (Some version) None = false
is_lower (Some version) (Some before) = int_lt version before

-- whether changes come late, where a whole text is among them or not: they have a lower version than the document, and
-- need the text that it had. The author may choose to make them all the same
abbrev pub is_late : SyncOptions → Option ℤ → Bool → Option ℤ → Bool
is_late a version whole before = not whole && (not a.options.applies_late && is_lower version before)

-- the same, and what late changes make of it: its text is lost, since it lacked them as those behind them were applied
abbrev pub changed_or_late : SyncOptions → DocumentState → Option ℤ → List Change → DocumentState
changed_or_late a o version list =
    if is_late a version (has_whole list) (version_of o) then doubted o else changed_in a o version list

-- why changes cannot be made in a document, where a whole text is among them or not
abbrev pub step_fault : DocumentState → Bool → Option DocumentFault
step_fault (Known k) whole = None
step_fault (Lost r) whole = if whole then None else Some OutOfStep

-- the same, if there is one, and they do not come late
abbrev pub change_fault : SyncOptions → Option DocumentState → Option ℤ → Bool → Option DocumentFault
change_fault a None version whole = if whole then None else Some NotOpen
change_fault a (Some o) version whole =
    if is_late a version whole (version_of o) then Some OutOfOrder else step_fault o whole

-- what a refusal of changes leaves: late ones leave the text lost
abbrev pub left_by : DocumentFault → Option DocumentState → Option DocumentState
left_by Params before = before
left_by NotOpen before = before
left_by OutOfStep before = before
left_by OutOfOrder before = option_map doubted before
left_by Memory before = before

-- why a notice of this kind cannot be made if that is kept of the URI
abbrev pub fault_of : SyncOptions → Option DocumentState → NoticeKind → Option DocumentFault
fault_of a before (opened c) = None
fault_of a before (changed version list) = change_fault a before version (has_whole list)
fault_of a None (saved text) = Some NotOpen
fault_of a (Some o) (saved text) = None
fault_of a None closed = Some NotOpen
fault_of a (Some o) closed = None

-- whether a position of the changes that decide lies past its line's end, or past the place behind the last line, in
-- the text that is known
abbrev pub is_past : PositionEncoding → DocumentState → List Change → Bool
is_past e (Known k) list = past_by e k.document.text (since_whole list)
is_past e (Lost r) list = false

-- what is said of a saved text that was to be compared, if this is the text now
abbrev pub compared : Option (List ℕ) → LinedText → Option SyncWarning
compared None t = None
compared (Some text) t = if bytes_eq t.bytes text then None else Some SavedTextDiffers

-- what is said of changes without a whole text: that they are the first since a save brought the text back, or that
-- they did not lead to the text that was saved before them
abbrev pub doubt_in : Origin → Option (List ℕ) → LinedText → Option SyncWarning
doubt_in Told before t = compared before t
doubt_in BySave before t = Some BroughtBackBySave
doubt_in BySaveChanged before t = compared before t

-- the same of any changes. After a whole text nothing is doubtful
abbrev pub doubt_after : SyncOptions → DocumentState → List Change → Option SyncWarning
doubt_after a (Known k) list = if has_whole list then None
    else doubt_in k.origin k.saved (edited_by a.encoding k.document.text list)
doubt_after a (Lost r) list = None

-- what is said of changes that were applied: first that the client's text has to be another one, or may be
abbrev pub change_remark : Bool → Option SyncWarning → Bool → Option SyncWarning
change_remark true doubt not_higher = Some PastEnd
change_remark false (Some doubt) not_higher = Some doubt
change_remark false None not_higher = if not_higher then Some VersionNotHigher else None

-- whether a text is to be compared already
abbrev pub is_compared : Option (List ℕ) → List ℕ → Bool
is_compared None text = false
is_compared (Some before) text = bytes_eq before text

-- what is said of a text that was asked for and came with a save: that the one which came before it still differs,
-- unless this is the same once more
abbrev pub save_remark : DocumentState → List ℕ → Option SyncWarning
save_remark (Known k) text = if is_compared k.saved text then None else compared k.saved k.document.text
save_remark (Lost r) text = None

-- what is said of changes of a document that is open
abbrev pub changes_remark : SyncOptions → DocumentState → Option ℤ → List Change → Option SyncWarning
changes_remark a o version list =
    change_remark (is_past a.encoding o list) (doubt_after a o list)
    (is_not_higher version (version_of o))

-- what LSP 3.17 forbids the client, though it can be made, or what shows that its text is another one than the text
-- that is kept
abbrev pub remark_of : SyncOptions → Option DocumentState → NoticeKind → Option SyncWarning
remark_of a None (opened c) = None
remark_of a None (changed version list) = Some WasNotOpen
remark_of a None (saved text) = None
remark_of a None closed = None
remark_of a (Some o) (opened c) = Some OpenAlready
remark_of a (Some o) (changed version list) = changes_remark a o version list
remark_of a (Some o) (saved None) = None
remark_of a (Some o) (saved (Some text)) = if a.include_text then save_remark o text else None
remark_of a (Some o) closed = None

-- what is kept of the URI after a notice of this kind: as it was where something is wrong, but for late changes, and if
-- a text came with a save that was not asked for
abbrev pub after : SyncOptions → Option DocumentState → NoticeKind → Option DocumentState
after a before (opened c) = Some (told_whole (kept_by a c))
after a None (changed version list) =
    if has_whole list then Some (told_whole (begun_by a [] version list)) else None
after a (Some o) (changed version list) = Some (changed_or_late a o version list)
after a before (saved None) = before
after a before (saved (Some text)) =
    if a.include_text then option_map (λ o. saved_in a o text) before else before
after a before closed = None

-- what is kept if what the client told was missed: never a text that the client may have left behind
abbrev pub missed : Option DocumentState → Option DocumentState
missed before = option_map lost before

-- the same of a notice that was not applied. A save changes no text of the client's
abbrev pub after_unmade : Option DocumentState → NoticeKind → Option DocumentState
after_unmade before (opened c) = missed before
after_unmade before (changed version list) = missed before
after_unmade before (saved text) = before
after_unmade before closed = missed before

abbrev pub has_changes : List Change → Bool
has_changes [] = false
has_changes (c ∷ cs) = true

-- whether memory is needed for a text that was asked for and comes with a save
abbrev pub is_needed : DocumentState → List ℕ → Bool
is_needed (Known k) text = is_some (to_compare k.document.text text)
is_needed (Lost r) text = true

-- whether memory is needed to make a notice in which nothing is wrong
abbrev pub needs_memory : SyncOptions → Option DocumentState → NoticeKind → Bool
needs_memory a before (opened c) = true
needs_memory a before (changed version list) = has_changes list
needs_memory a before (saved None) = false
needs_memory a None (saved (Some text)) = false
needs_memory a (Some o) (saved (Some text)) = a.include_text && is_needed o text
needs_memory a before closed = false

-- ---- notifications, as a server met them

-- one was applied; or one was not; or nothing of a notification is known, and the client may have told anything
pub data Sent : Type 0 where
  made : Notice → Sent
  unmade : Notice → Sent
  unread : List Notice → Sent

abbrev pub kept_after : SyncOptions → List ℕ → Option DocumentState → Sent → Option DocumentState
kept_after a uri before (made n) = if bytes_eq uri n.uri then after a before n.kind else before
kept_after a uri before (unmade n) = if bytes_eq uri n.uri then after_unmade before n.kind else before
kept_after a uri before (unread notices) = missed before

abbrev pub kept_after_all : SyncOptions → List ℕ → Option DocumentState → List Sent → Option DocumentState
kept_after_all a uri before [] = before
kept_after_all a uri before (s ∷ ss) = kept_after_all a uri (kept_after a uri before s) ss

-- what notifications say of one URI
abbrev pub kinds_in : List ℕ → List Notice → List NoticeKind
kinds_in uri [] = []
kinds_in uri (n ∷ ns) = if bytes_eq uri n.uri then n.kind ∷ kinds_in uri ns else kinds_in uri ns

abbrev pub notices_of : Sent → List Notice
notices_of (made n) = n ∷ []
notices_of (unmade n) = n ∷ []
notices_of (unread notices) = notices

abbrev pub kinds_of : List ℕ → List Sent → List NoticeKind
kinds_of uri [] = []
kinds_of uri (s ∷ ss) = kinds_in uri (notices_of s) ++ kinds_of uri ss

-- whether a document of this version stays open and in order
abbrev pub goes_on : SyncOptions → Option ℤ → NoticeKind → Bool
goes_on a before (opened c) = true
goes_on a before (changed version list) = not (is_late a version (has_whole list) before)
goes_on a before (saved text) = true
goes_on a before closed = false

-- and its version then
abbrev pub version_after : Option ℤ → NoticeKind → Option ℤ
version_after before (opened c) = c.version
version_after before (changed version list) = version
version_after before (saved text) = before
version_after before closed = before

-- whether all that was told of a URI was made, none of it late, and none of it closed the document, which had this
-- version before
abbrev pub is_current : SyncOptions → List ℕ → Option ℤ → List Sent → Bool
is_current a uri before [] = true
is_current a uri before (made n ∷ ss) =
    if bytes_eq uri n.uri
    then goes_on a before n.kind && is_current a uri (version_after before n.kind) ss
    else is_current a uri before ss
is_current a uri before (unmade n ∷ ss) = not (bytes_eq uri n.uri) && is_current a uri before ss
is_current a uri before (unread notices ∷ ss) = false

-- ---- what a server holds

-- what was agreed on, and what is kept of each URI that is open
pub record Documents : Type 0 where
  pub sync : SyncOptions
  pub held : List ℕ → Option DocumentState

-- nothing is changed
pub record Keeps (before now : Documents) : Type 0 where
  pub sync : now.sync ≡ before.sync
  pub held : (uri : List ℕ) → now.held uri ≡ before.held uri

-- this is kept of one URI, and each other one keeps its document
pub record Puts (before : Documents) (uri : List ℕ) (kept : Option DocumentState)
    (now : Documents) : Type 0 where
  pub sync : now.sync ≡ before.sync
  pub own : now.held uri ≡ kept
  pub others : (q : List ℕ) → bytes_eq q uri ≡ false → now.held q ≡ before.held q

-- a notification made of its document what it makes
abbrev pub Makes : Documents → Notice → Documents → Type 0
Makes before n now = Puts before n.uri (after before.sync (before.held n.uri) n.kind) now

-- what was told of one URI was missed
abbrev pub Misses : Documents → List ℕ → Documents → Type 0
Misses before uri now = Puts before uri (missed (before.held uri)) now

-- what was told was missed, of whatever URI
pub record MissesAll (before now : Documents) : Type 0 where
  pub sync : now.sync ≡ before.sync
  pub held : (uri : List ℕ) → now.held uri ≡ missed (before.held uri)

abbrev pub Takes : Documents → Sent → Documents → Type 0
Takes before (made n) now = Makes before n now
Takes before (unmade n) now = Puts before n.uri (after_unmade (before.held n.uri) n.kind) now
Takes before (unread notices) now = MissesAll before now

-- notifications were taken one after another
abbrev pub TakesAll : Documents → List Sent → Documents → Type 0
TakesAll before [] now = Keeps before now
TakesAll before (s ∷ ss) now = (next : Documents) × Takes before s next × TakesAll next ss now

-- a version that is kept is the client's
abbrev pub IsVersion : Option ℤ → Option ℤ → Type 0
IsVersion client None = Unit {0}
IsVersion client (Some version) = client ≡ Some version

-- a document that may be looked at has the client's text, and its version or none
abbrev pub IsClients : SyncOptions → Option Item → Option Document → Type 0
IsClients a client None = Unit {0}
IsClients a client (Some d) =
    IsSomeAnd client (λ c. (d.text ≡ text_by a c.text) × IsVersion c.version d.version)

abbrev pub Agrees : SyncOptions → Option Item → Option DocumentState → Type 0
Agrees a client kept = IsClients a client (option_and_then shown kept)

-- ---- what a call says

-- nothing was wrong with it, and it was made, with this warning
pub record Took (before : Documents) (n : Notice) (warning : Option SyncWarning)
    (now : Documents) : Type 0 where
  pub right : fault_of before.sync (before.held n.uri) n.kind ≡ None
  pub remarks : warning ≡ remark_of before.sync (before.held n.uri) n.kind
  pub makes : Makes before n now

-- memory ran out, if nothing was wrong and memory was needed
pub record Starved (before : Documents) (n : Notice) (fault : DocumentFault)
    (now : Documents) : Type 0 where
  pub why : fault ≡ Memory
  pub right : fault_of before.sync (before.held n.uri) n.kind ≡ None
  pub needed : needs_memory before.sync (before.held n.uri) n.kind ≡ true
  pub misses : Puts before n.uri (after_unmade (before.held n.uri) n.kind) now

-- a call refused a notification by name, which changes nothing but for late changes, or missed it for want of memory
abbrev pub Refused : Documents → Notice → DocumentFault → Documents → Type 0
Refused before n fault now =
    ((fault_of before.sync (before.held n.uri) n.kind ≡ Some fault) × Makes before n now)
    ⊎ Starved before n fault now

-- the same if the params may be of another shape: then what they tell of the URI that they name is missed; if they name
-- none they may tell of any
abbrev pub Failed : Documents → Option Notice → Option (List ℕ) → DocumentFault → Documents → Type 0
Failed before (Some n) uri fault now = Refused before n fault now
Failed before None (Some uri) fault now = (fault ≡ Params) × Misses before uri now
Failed before None None fault now = (fault ≡ Params) × MissesAll before now

-- the same of a save, which changes no text of the client's
abbrev pub FailedSave : Documents → Option Notice → DocumentFault → Documents → Type 0
FailedSave before (Some n) fault now = Refused before n fault now
FailedSave before None fault now = (fault ≡ Params) × Keeps before now

-- whether the text of a URI is known
abbrev pub is_known : Documents → List ℕ → Bool
is_known documents uri = is_some (option_and_then shown (documents.held uri))
