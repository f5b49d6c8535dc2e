-- Wrong runs that the definitions of the law refuse: each supposes one, and leads to a contradiction.
use Rattle.std.proofs.Common.{◌≡◌, ℕ, ℤ, Bool, true, false, List, [], Option, Some, None, refl, sym, ap, ◌∙◌, arith}
use Rattle.std.proofs.Common.{◌∷◌}
use Rattle.std.proofs.Common.{inl, inr, option_and_then, option_map}
use Rattle.std.specs.Prelude.{is_some, is_none, if◌then◌else◌}
use Rattle.std.specs.Str.{bytes_eq}
use Rattle.lsp_text.specs.Documents.{Document, Change}
use Rattle.lsp_text.specs.Edits.{edited_by, past_by}
use Rattle.lsp_text.specs.Lines.{LinedText}
use Rattle.lsp_text.specs.declared.position.PositionEncoding.{PositionEncoding}
use Rattle.serde_json.specs.Data.{Data, no_items, item}
use Rattle.lsp_documents.specs.Params.{change_in, changes_in, values_since_whole}
use Rattle.lsp_documents.specs.declared.fault.SyncWarning.{SyncWarning}
use Rattle.lsp_documents.specs.declared.fault.SyncWarning.TheVariants.{OpenAlready, VersionNotHigher, PastEnd}
use Rattle.lsp_documents.specs.declared.fault.SyncWarning.TheVariants.{SavedTextDiffers, WasNotOpen, BroughtBackBySave}
use Rattle.lsp_documents.specs.declared.kept_document.Origin.{Origin}
use Rattle.lsp_documents.specs.declared.kept_document.Origin.TheVariants.{Told, BySave}
use Rattle.lsp_documents.specs.declared.kept.DocumentState.{DocumentState}
use Rattle.lsp_documents.specs.declared.kept.DocumentState.TheVariants.{Known, Lost}
use Rattle.lsp_documents.specs.declared.fault.DocumentFault.{DocumentFault}
use Rattle.lsp_documents.specs.declared.fault.DocumentFault.TheVariants.{NotOpen, OutOfOrder, Memory}
use Rattle.lsp_documents.specs.declared.negotiation.SyncOptions.{SyncOptions}
use Rattle.lsp_documents.specs.Remains.{Remains, Kept, kept_as}
use Rattle.lsp_documents.specs.Notices.{text_item, begun_by, doubted, version_of, is_late, step_fault, NoticeKind}
use Rattle.lsp_documents.specs.Notices.{NoticeKind.opened, NoticeKind.changed, NoticeKind.saved, NoticeKind.closed}
use Rattle.lsp_documents.specs.Notices.{Notice, Sent.made, Sent.unmade, Sent.unread, Documents, Takes, Took, Refused}
use Rattle.lsp_documents.specs.Notices.{told_whole, compared, doubt_after, change_fault, after, missed, changed_in}
use Rattle.lsp_documents.specs.Notices.{saved_in, fault_of, needs_memory, remark_of}
use Rattle.lsp_documents.specs.Notices.{change_remark, is_not_higher, has_whole, since_whole, shown, opens, edits}
use Rattle.lsp_documents.specs.Notices.{saves, closes}
use Rattle.lsp_documents.specs.Sessions.{is_save}
use Rattle.lsp_documents.proofs.SessionLemmas.{no_save}

never : {P : Type 0} → false ≡ true → P
never h = grind (arith, h)

abbrev shows : Option DocumentState → Bool
shows kept = is_some (option_and_then shown kept)

missed_shows : (kept : Option DocumentState) → shows (missed kept) ≡ false
missed_shows None = refl
missed_shows (Some (Known d)) = refl
missed_shows (Some (Lost r)) = refl

-- a stale text that is shown: a notification of the document, which was no save, was missed, and its text is still
-- shown
stale_shown : (before now : Documents) (n : Notice) (d : Kept) → is_save n.kind ≡ false → Takes before (unmade n) now
    → now.held n.uri ≡ Some (Known d) → ⊥
stale_shown before now n d e h k = never (sym (missed_shows (before.held n.uri))
    ∙ ap shows (no_save (before.held n.uri) n.kind e ∙ sym h.own ∙ k))

-- the same after a message of which nothing was read
unread_shown : (before now : Documents) (notices : List Notice) (uri : List ℕ) (d : Kept)
    → Takes before (unread notices) now → now.held uri ≡ Some (Known d) → ⊥
unread_shown before now notices uri d h k = never (sym (missed_shows (before.held uri))
    ∙ ap shows (sym (h.held uri) ∙ k))

in_lost : (a : SyncOptions) (r : Remains) (version : Option ℤ) (list : List Change) (late w : Bool) → has_whole list ≡
    w → w
    ≡ false → shows (Some (if late then doubted (Lost r) else (if w then told_whole
    (begun_by a r.language_id version list)
    else Lost r))) ≡ false
in_lost a r version list true w e h = refl
in_lost a r version list false true e h = never (sym h)
in_lost a r version list false false e h = refl

-- an edit made in an older text: the text is lost, no change is of the whole text, and yet a text is shown
edited_older : (before now : Documents) (uri : List ℕ) (r : Remains) (version : Option ℤ) (list : List Change)
    (d : Kept) → before.held uri ≡ Some (Lost r) → has_whole list ≡ false
    → Takes before (made (edits uri version list)) now → now.held uri ≡ Some (Known d) → ⊥
edited_older before now uri r version list d b w h k =
    never (sym (in_lost before.sync r version list (is_late before.sync version (has_whole list) r.version)
    (has_whole list) refl w)
    ∙ ap shows (ap (λ o. after before.sync o (changed version list)) (sym b) ∙ sym h.own ∙ k))

late_shows : (late : Bool) (o next : DocumentState) → late ≡ true → shows (Some (if late then doubted o else next)) ≡
    false
late_shows true (Known d) next h = refl
late_shows true (Lost r) next h = refl
late_shows false o next h = never h

-- an older version taken over a newer one, by edits of the text that it had, where the author did not choose it; also
-- over one that was lost for that
older_taken : (before now : Documents) (uri : List ℕ) (version : Option ℤ) (list : List Change) (o : DocumentState)
    (d : Kept) → before.held uri ≡ Some o → is_late before.sync version (has_whole list) (version_of o)
    ≡ true
    → Takes before (made (edits uri version list)) now → now.held uri ≡ Some (Known d) → ⊥
older_taken before now uri version list o d b late h k =
    never (sym (late_shows (is_late before.sync version (has_whole list) (version_of o)) o (changed_in before.sync o
    version list) late) ∙ ap shows (ap (λ o. after before.sync o (changed version list)) (sym b) ∙ sym h.own ∙ k))

-- a whole text of a URI that is not open, of which nothing is kept
whole_unopened : (before now : Documents) (uri : List ℕ) (version : Option ℤ) (list : List Change) → before.held uri
    ≡ None → has_whole list ≡ true → Takes before (made (edits uri version list)) now → now.held uri ≡ None → ⊥
whole_unopened before now uri version list b w h k =
    never (ap shows (sym k ∙ h.own ∙ ap (λ o. after before.sync o (changed version list)) b
    ∙ ap (λ (t : Bool). if t then Some (told_whole (begun_by before.sync [] version list)) else None) w))

-- a text of another URI: a document is opened, and the text of another one is another
opened_other : (before now : Documents) (uri q l text : List ℕ) (version : Option ℤ) (d : Kept) → before.held q
    ≡ None → bytes_eq q uri ≡ false → Takes before (made (opens uri l version text)) now → now.held q
    ≡ Some (Known d) → ⊥
opened_other before now uri q l text version d b apart h k = never (ap shows (sym b ∙ sym (h.others q apart) ∙ k))

in_whole : (a : SyncOptions) (o : DocumentState) (version : Option ℤ) (list : List Change) (w : Bool) → w ≡ true →
    has_whole list ≡ w
    → shows (Some (if is_late a version w (version_of o) then doubted o else changed_in a o version list)) ≡ true
in_whole a (Known d) version list true h e = refl
in_whole a (Lost r) version list true h e = rw e refl
in_whole a o version list false h e = never h

never_late : (a : SyncOptions) (o : DocumentState) (version : Option ℤ) (w : Bool) → w ≡ true → change_fault a (Some o)
    version w
    ≡ Some OutOfOrder → ⊥
never_late a (Known d) version true h e = grind (arith, e)
never_late a (Lost r) version true h e = grind (arith, e)
never_late a o version false h e = never h

-- a document that stays out of step after a whole text, whatever its version is
whole_lost : (before now : Documents) (uri : List ℕ) (r : Remains) (o : DocumentState) (version : Option ℤ)
    (list : List Change)
    → before.held uri ≡ Some o → has_whole list ≡ true → Takes before (made (edits uri version list)) now → now.held uri
    ≡ Some (Lost r) → ⊥
whole_lost before now uri r o version list b w h k =
    never (ap shows (sym k ∙ h.own ∙ ap (λ o. after before.sync o (changed version list)) b) ∙ in_whole before.sync
    o version list (has_whole list) w refl)

-- a whole text that is refused for its version
whole_late : (a : SyncOptions) (o : DocumentState) (version : Option ℤ) (list : List Change) → has_whole list ≡ true
    → change_fault a (Some o) version (has_whole list) ≡ Some OutOfOrder → ⊥
whole_late a o version list w h = never_late a o version (has_whole list) w h

abbrev text_of : Option DocumentState → List ℕ
text_of None = []
text_of (Some (Known d)) = d.document.text.bytes
text_of (Some (Lost l)) = []

-- a second open that keeps the old text
opened_kept : (before now : Documents) (uri l text : List ℕ) (version : Option ℤ) (d : Kept)
    → Takes before (made (opens uri l version text)) now → now.held uri ≡ Some (Known d)
    → (d.document.text.bytes ≡ text → ⊥) → ⊥
opened_kept before now uri l text version d h k other = other (ap text_of (sym k ∙ h.own))

-- a closed document that is shown
closed_shown : (before now : Documents) (uri : List ℕ) (d : Kept) → Takes before (made (closes uri)) now
    → now.held uri ≡ Some (Known d) → ⊥
closed_shown before now uri d h k = never (ap shows (sym h.own ∙ k))

in_step : (a : SyncOptions) (asked : Bool) (d : Kept) (text : List ℕ) → text_of
    (if asked then option_map (λ o. saved_in a o
    text) (Some (Known d)) else Some (Known d)) ≡ d.document.text.bytes
in_step a true d text = refl
in_step a false d text = refl

-- a text in step that a save changes
saved_other : (before now : Documents) (uri text : List ℕ) (d o : Kept) → before.held uri ≡ Some (Known d)
    → Takes before (made (saves uri (Some text))) now → now.held uri ≡ Some (Known o) → (o.document.text.bytes
    ≡ d.document.text.bytes → ⊥) → ⊥
saved_other before now uri text d o b h k other =
    other (ap text_of (sym k ∙ h.own ∙ ap (λ x. after before.sync x (saved (Some text))) b) ∙ in_step before.sync
    before.sync.include_text d text)

unasked_lost : (a : SyncOptions) (asked : Bool) (r : Remains) (text : List ℕ) → asked ≡ false
    → shows (if asked then option_map (λ o. saved_in a o text) (Some (Lost r)) else Some (Lost r)) ≡ false
unasked_lost a true r text h = never (sym h)
unasked_lost a false r text h = refl

-- a text that was not asked for, taken from a save
unasked_taken : (before now : Documents) (uri text : List ℕ) (r : Remains) (d : Kept) → before.held uri
    ≡ Some (Lost r) → before.sync.include_text ≡ false → Takes before (made (saves uri (Some text))) now
    → now.held uri ≡ Some (Known d) → ⊥
unasked_taken before now uri text r d b asked h k =
    never (sym (unasked_lost before.sync before.sync.include_text r text asked)
    ∙ ap shows (ap (λ x. after before.sync x (saved (Some text))) (sym b) ∙ sym h.own ∙ k))

-- ---- what calls say

abbrev saved_of : Option DocumentState → Option (List ℕ)
saved_of None = None
saved_of (Some (Known k)) = k.saved
saved_of (Some (Lost r)) = None

abbrev no_remark : Option SyncWarning
no_remark = None

unsaid : (asked : Bool) → (if asked then no_remark else None) ≡ None
unsaid true = refl
unsaid false = refl

abbrev differs : Option SyncWarning → Bool
differs None = false
differs (Some OpenAlready) = false
differs (Some WasNotOpen) = false
differs (Some VersionNotHigher) = false
differs (Some PastEnd) = false
differs (Some SavedTextDiffers) = true
differs (Some BroughtBackBySave) = false

differs_not : (past whole not_higher : Bool) → differs (change_remark past (if whole then no_remark
    else None) not_higher)
    ≡ false
differs_not true whole not_higher = refl
differs_not false true true = refl
differs_not false true false = refl
differs_not false false true = refl
differs_not false false false = refl

-- a second open of which nothing is said
opened_unsaid : (before now : Documents) (uri l text : List ℕ) (version : Option ℤ) (o : DocumentState) → before.held
    uri
    ≡ Some o → Took before (opens uri l version text) None now → ⊥
opened_unsaid before now uri l text version o b h = never (ap is_some (h.remarks ∙ ap (λ k. remark_of before.sync k
    (opened (text_item l version text))) b))

-- a change past an end of the text that is known, of which nothing is said
past_unsaid : (before now : Documents) (uri : List ℕ) (version : Option ℤ) (list : List Change) (d : Kept)
    → before.held uri ≡ Some (Known d) → past_by before.sync.encoding d.document.text (since_whole list) ≡ true
    → Took before (edits uri version list) None now → ⊥
past_unsaid before now uri version list d b p h =
    never (ap is_some (h.remarks ∙ ap (λ k. remark_of before.sync k (changed version list)) b
    ∙ ap (λ w. change_remark w (doubt_after before.sync (Known d) list)
    (is_not_higher version d.document.version)) p))

-- a saved text that was asked for and differs from the one that is known, and is not to be compared later
saved_forgotten : (before now : Documents) (uri text : List ℕ) (d o : Kept) → before.held uri ≡ Some (Known d)
    → before.sync.include_text ≡ true → bytes_eq d.document.text.bytes text ≡ false
    → Takes before (made (saves uri (Some text))) now → now.held uri ≡ Some (Known o) → o.saved ≡ None → ⊥
saved_forgotten before now uri text d o b asked p h k none =
    never (ap is_some (sym none ∙ ap saved_of (sym k ∙ h.own ∙ ap (λ x. after before.sync x (saved (Some text))) b
    ∙ ap (λ (w : Bool). if w then option_map (λ o. saved_in before.sync o text) (Some (Known d)) else Some (Known d))
    asked) ∙ ap (λ (w : Bool). if w then None else Some text) p))

said : (past : Bool) (doubt : SyncWarning) (not_higher : Bool) → is_some (change_remark past (Some doubt) not_higher) ≡
    true
said true doubt not_higher = refl
said false doubt not_higher = refl

-- changes that do not lead to the text that was saved before them, of which nothing is said
saved_unsaid : (before now : Documents) (uri text : List ℕ) (version : Option ℤ) (list : List Change) (d : Document)
    → before.held uri ≡ Some (Known (kept_as d (Some text) Told)) → has_whole list ≡ false
    → bytes_eq (edited_by before.sync.encoding d.text list).bytes text ≡ false
    → Took before (edits uri version list) None now → ⊥
saved_unsaid before now uri text version list d b w p h =
    never (ap is_some (h.remarks ∙ ap (λ k. remark_of before.sync k (changed version list)) b
    ∙ ap (λ (w : Bool). change_remark (past_by before.sync.encoding d.text (since_whole list)) (if w then None else
    compared (Some text) (edited_by before.sync.encoding d.text list)) (is_not_higher version d.version)) w
    ∙ ap (λ (w : Bool). change_remark (past_by before.sync.encoding d.text (since_whole list)) (if w then None else
    Some SavedTextDiffers) (is_not_higher version d.version)) p)
    ∙ said (past_by before.sync.encoding d.text (since_whole list)) SavedTextDiffers
    (is_not_higher version d.version))

-- the first changes since a save brought the text back, of which nothing is said
brought_unsaid : (before now : Documents) (uri : List ℕ) (before_text : Option (List ℕ)) (version : Option ℤ)
    (list : List Change) (d : Document) → before.held uri ≡ Some (Known (kept_as d before_text BySave)) → has_whole list
    ≡ false → Took before (edits uri version list) None now → ⊥
brought_unsaid before now uri before_text version list d b w h =
    never (ap is_some (h.remarks ∙ ap (λ k. remark_of before.sync k (changed version list)) b
    ∙ ap (λ (w : Bool). change_remark (past_by before.sync.encoding d.text (since_whole list)) (if w then None else
    Some BroughtBackBySave) (is_not_higher version d.version)) w)
    ∙ said (past_by before.sync.encoding d.text (since_whole list)) BroughtBackBySave
    (is_not_higher version d.version))

-- a saved text that differs, of which something is said at once: the change that leads to it may come next
saved_early : (before now : Documents) (uri text : List ℕ) (d : Document) (origin : Origin) (warning : SyncWarning)
    → before.held uri ≡ Some (Known (kept_as d None origin)) → Took before (saves uri (Some text)) (Some warning) now →
    ⊥
saved_early before now uri text d origin warning b h =
    never (ap is_none (h.remarks ∙ ap (λ k. remark_of before.sync k (saved (Some text))) b
    ∙ unsaid before.sync.include_text))

-- changes that lead to the text that was saved before them, of which it is said that it differs
led_said : (before now : Documents) (uri text : List ℕ) (version : Option ℤ) (list : List Change) (d : Document)
    → before.held uri ≡ Some (Known (kept_as d (Some text) Told))
    → bytes_eq (edited_by before.sync.encoding d.text list).bytes text ≡ true
    → Took before (edits uri version list) (Some SavedTextDiffers) now → ⊥
led_said before now uri text version list d b p h =
    never (sym (differs_not (past_by before.sync.encoding d.text (since_whole list)) (has_whole list) (is_not_higher
    version d.version)) ∙ ap differs (sym (h.remarks ∙ ap (λ k. remark_of before.sync k (changed version list)) b
    ∙ ap (λ (w : Bool). change_remark (past_by before.sync.encoding d.text (since_whole list)) (if has_whole list then
    no_remark else (if w then None else Some SavedTextDiffers)) (is_not_higher version d.version)) p)))

no_memory_in : (o : DocumentState) (w : Bool) → step_fault o w ≡ Some Memory → ⊥
no_memory_in (Known d) w h = grind (arith, h)
no_memory_in (Lost r) true h = grind (arith, h)
no_memory_in (Lost r) false h = grind (arith, h)

no_memory_late : (late : Bool) (o : DocumentState) (w : Bool) → (if late then Some OutOfOrder else step_fault o w)
    ≡ Some Memory → ⊥
no_memory_late true o w h = grind (arith, h)
no_memory_late false o w h = no_memory_in o w h

no_memory_open : (w : Bool) → (if w then None else Some NotOpen) ≡ Some Memory → ⊥
no_memory_open true h = grind (arith, h)
no_memory_open false h = grind (arith, h)

no_memory : (a : SyncOptions) (before : Option DocumentState) (kind : NoticeKind) → fault_of a before kind ≡ Some
    Memory → ⊥
no_memory a before (opened c) h = grind (arith, h)
no_memory a None (changed version list) h = no_memory_open (has_whole list) h
no_memory a (Some o) (changed version list) h = no_memory_late (is_late a version (has_whole list)
    (version_of o)) o (has_whole list) h
no_memory a None (saved text) h = grind (arith, h)
no_memory a (Some o) (saved text) h = grind (arith, h)
no_memory a None closed h = grind (arith, h)
no_memory a (Some o) closed h = grind (arith, h)

-- `Memory` from a call that takes no memory
needless : (before now : Documents) (n : Notice) → needs_memory before.sync (before.held n.uri) n.kind ≡ false
    → Refused before n Memory now → ⊥
needless before now n h (inl f) = no_memory before.sync (before.held n.uri) n.kind f.0
needless before now n h (inr s) = never (sym h ∙ s.needed)

-- so at a close, at a save without a text, and at no changes
closed_memory : (before now : Documents) (uri : List ℕ) → Refused before (closes uri) Memory now → ⊥
closed_memory before now uri h = needless before now (closes uri) refl h

saved_memory : (before now : Documents) (uri : List ℕ) → Refused before (saves uri None) Memory now → ⊥
saved_memory before now uri h = needless before now (saves uri None) refl h

unchanged_memory : (before now : Documents) (uri : List ℕ) (version : Option ℤ) → Refused before (edits uri version [])
    Memory now → ⊥
unchanged_memory before now uri version h = needless before now (edits uri version []) refl h

-- `Memory` in the place of another fault
right_memory : (before now : Documents) (n : Notice) (fault : DocumentFault) → fault_of before.sync
    (before.held n.uri) n.kind ≡ Some fault → Refused before n Memory now → ⊥
right_memory before now n fault w (inl f) = no_memory before.sync (before.held n.uri) n.kind f.0
right_memory before now n fault w (inr s) = never (ap is_some (sym s.right ∙ w))

-- `Memory` at a change, and a text that is shown
memory_shown : (before now : Documents) (uri : List ℕ) (version : Option ℤ) (list : List Change) (d : Kept)
    → Refused before (edits uri version list) Memory now → now.held uri ≡ Some (Known d) → ⊥
memory_shown before now uri version list d (inl f) k =
    no_memory before.sync (before.held uri) (changed version list) f.0
memory_shown before now uri version list d (inr s) k =
    never (sym (missed_shows (before.held uri)) ∙ ap shows (sym s.misses.own ∙ k))

-- the same at an open
memory_opened : (before now : Documents) (uri l text : List ℕ) (version : Option ℤ) (d : Kept)
    → Refused before (opens uri l version text) Memory now → now.held uri ≡ Some (Known d) → ⊥
memory_opened before now uri l text version d (inl f) k =
    no_memory before.sync (before.held uri) (opened (text_item l version text)) f.0
memory_opened before now uri l text version d (inr s) k =
    never (sym (missed_shows (before.held uri)) ∙ ap shows (sym s.misses.own ∙ k))

-- `Memory` at a save that changes what is kept
memory_changed : (before now : Documents) (uri : List ℕ) (text : Option (List ℕ)) → Refused before (saves uri text)
    Memory now → (now.held uri ≡ before.held uri → ⊥) → ⊥
memory_changed before now uri text (inl f) k = no_memory before.sync (before.held uri) (saved text) f.0
memory_changed before now uri text (inr s) k = k s.misses.own

-- what stands before a whole text counts: a change past an end, or one that can't be read
before_past : (e : PositionEncoding) (t : LinedText) (c : Change) (text : List ℕ) → past_by e t (since_whole (c
    ∷ record { range = None; text = text } ∷ [])) ≡ true → ⊥
before_past e t c text h = never h

before_unread : (d : Data) (text : List ℕ) (whole : Data) → change_in whole
    ≡ Some (record { range = None; text = text })
    → changes_in (values_since_whole (item d (item whole no_items))) ≡ None → ⊥
before_unread d text whole w h = never (ap is_some (sym h) ∙ rw w (rw w refl))
