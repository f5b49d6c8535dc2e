-- What notifications make of what is kept of one URI, beside the client's own document.
use Rattle.std.proofs.Common.{◌≡◌, ℕ, ℤ, Bool, true, false, ◌||◌, List, [], ◌∷◌, ◌++◌, Option, Some, None, refl, sym}
use Rattle.std.proofs.Common.{ap, subst, ◌∙◌, arith, inl, inr, is_none, option_and_then, option_map}
use Rattle.std.specs.Prelude.{if◌then◌else◌, not, ◌&&◌, is_some, unwrap_or, IfSome, IsSomeAnd}
use Rattle.std.specs.Prelude.{length}
use Rattle.std.specs.Str.{bytes_eq}
use Rattle.std.proofs.lemmas.Slice.Eq.{bytes_eq-Decides}
use Rattle.lsp_text.specs.Documents.{Change, Document}
use Rattle.lsp_text.specs.Edits.{edited, edited_by}
use Rattle.lsp_text.specs.Lines.{LinedText, lined}
use Rattle.lsp_text.specs.declared.line_ends.LineEnds.{LineEnds}
use Rattle.lsp_text.specs.declared.position.PositionEncoding.{PositionEncoding}
use Rattle.lsp_text.specs.declared.position.Range.{Range}
use Rattle.lsp_documents.specs.declared.negotiation.SyncOptions.{SyncOptions}
use Rattle.lsp_documents.specs.declared.fault.DocumentFault.{DocumentFault}
use Rattle.lsp_documents.specs.declared.fault.DocumentFault.TheVariants.{NotOpen, OutOfOrder, Memory}
use Rattle.lsp_documents.specs.declared.kept.DocumentState.{DocumentState}
use Rattle.lsp_documents.specs.declared.kept.DocumentState.TheVariants.{Known, Lost}
use Rattle.lsp_documents.specs.Remains.{Remains, Kept}
use Rattle.lsp_documents.specs.Notices.{saved_in, Item, text_item, text_by, edited_text, kept_by, begun_by, changed_in}
use Rattle.lsp_documents.specs.declared.kept_document.Origin.{Origin}
use Rattle.lsp_documents.specs.declared.kept_document.Origin.TheVariants.{Told, BySave, BySaveChanged}
use Rattle.lsp_documents.specs.Notices.{told_whole, changed_to, IsClients, sure, is_by_save, origin_after}
use Rattle.lsp_documents.specs.Notices.{doubted, left_by, shown, version_of, is_late, step_fault, goes_on}
use Rattle.lsp_documents.specs.Notices.{version_after, NoticeKind, NoticeKind.opened, NoticeKind.changed}
use Rattle.lsp_documents.specs.Notices.{NoticeKind.saved, NoticeKind.closed, Notice, Sent, Sent.made, Sent.unmade}
use Rattle.lsp_documents.specs.Notices.{Sent.unread, Documents, Keeps, Puts, Makes, Takes, TakesAll, Agrees, IsVersion}
use Rattle.lsp_documents.specs.Notices.{after_unmade, SavesOwn, SavesItsText, after, missed, kept_after}
use Rattle.lsp_documents.specs.Notices.{kept_after_all, told}
use Rattle.lsp_documents.specs.Notices.{told_all, kinds_in, kinds_of, notices_of, is_current, has_whole, since_whole}
use Rattle.lsp_documents.specs.Notices.{has_changes}
use Rattle.lsp_documents.specs.Notices.{fault_of, change_fault, document, opens, edits, Failed}

never : {P : Type 0} → false ≡ true → P
never h = grind (arith, h)

by_test : {P : Type 0} (b : Bool) → (b ≡ true → P) → (b ≡ false → P) → P
by_test true t f = t refl
by_test false t f = f refl

none_value : {A P : Type 0} {a : A} → None ≡ Some a → P
none_value h = never (ap is_some h)

some_value : {A : Type 0} {a b : A} → Some a ≡ Some b → a ≡ b
some_value {A} {a} {b} h = ap (λ o. unwrap_or o a) h

-- ---- one URI

-- with a change of the whole text, the text before does not matter
whole_first : (e : PositionEncoding) (s t : LinedText) (r : Option Range) (new : List ℕ) (cs : List Change) → s.ends
    ≡ t.ends → ((s t : LinedText) → s.ends ≡ t.ends → has_whole cs ≡ true → edited_by e s cs ≡ edited_by e t cs)
    → (is_none r || has_whole cs) ≡ true →
    edited_by e (edited e s r new) cs ≡ edited_by e (edited e t r new) cs
whole_first e s t None new cs same ih h = ap (λ ends. edited_by e (lined ends new) cs) same
whole_first e s t (Some range) new cs same ih h = ih _ _ same h

whole_ends : (e : PositionEncoding) (cs : List Change) (s t : LinedText) → s.ends ≡ t.ends → has_whole cs ≡ true
    → edited_by e s cs ≡ edited_by e t cs
whole_ends e [] s t same h = never h
whole_ends e (c ∷ cs) s t same h = whole_first e s t c.range c.text cs same (λ a b i w. whole_ends e cs a b i w) h

ends_kept : (e : PositionEncoding) (t : LinedText) (r : Option Range) (new : List ℕ) → t.ends ≡ (edited e t r new).ends
ends_kept e t None new = refl
ends_kept e t (Some range) new = refl

whole_text : (a : SyncOptions) (cs : List Change) (s : List ℕ) → has_whole cs ≡ true → edited_by a.encoding
    (text_by a []) cs
    ≡ edited_by a.encoding (text_by a s) cs
whole_text a cs s h = whole_ends a.encoding cs (text_by a []) (text_by a s) refl h

-- so with those that decide alone
since_first : (e : PositionEncoding) (t : LinedText) (c : Change) (cs : List Change) (w : Bool) → has_whole cs ≡ w
    → ((t : LinedText) → edited_by e t (since_whole cs) ≡ edited_by e t cs) →
    edited_by e t (if w then since_whole cs else c ∷ cs) ≡ edited_by e (edited e t c.range c.text) cs
since_first e t c cs true h ih = ih t ∙ whole_ends e cs t (edited e t c.range c.text) (ends_kept e t c.range c.text) h
since_first e t c cs false h ih = refl

pub since_edited : (e : PositionEncoding) (t : LinedText) (cs : List Change) → edited_by e t (since_whole cs)
    ≡ edited_by e t cs
since_edited e t [] = refl
since_edited e t (c ∷ cs) = since_first e t c cs (has_whole cs) refl (λ u. since_edited e u cs)

-- if there is none that decides there is none
pub since_none : (cs : List Change) → has_changes cs ≡ false → length (since_whole cs) ≡ 0
since_none [] h = refl
since_none (c ∷ cs) h = never (sym h)

-- changes leave the ends of lines as they are
ends_first : (e : PositionEncoding) (ends : LineEnds) (s : List ℕ) (r : Option Range) (new : List ℕ) (cs : List Change)
    → ((s : List ℕ) → edited_by e (lined ends s) cs ≡ lined ends (edited_by e (lined ends s) cs).bytes) →
    edited_by e (edited e (lined ends s) r new) cs ≡ lined ends (edited_by e (edited e (lined ends s) r new) cs).bytes
ends_first e ends s None new cs ih = ih new
ends_first e ends s (Some range) new cs ih = ih _

ends_stay : (e : PositionEncoding) (ends : LineEnds) (cs : List Change) (s : List ℕ) → edited_by e (lined ends s) cs
    ≡ lined ends (edited_by e (lined ends s) cs).bytes
ends_stay e ends [] s = refl
ends_stay e ends (c ∷ cs) s = ends_first e ends s c.range c.text cs (ends_stay e ends cs)

-- what changes make of a client's text is what they make of it as it is kept
edited_is : (a : SyncOptions) (cs : List Change) (s : List ℕ) → edited_by a.encoding (text_by a s) cs
    ≡ text_by a (edited_text a s cs)
edited_is a cs s = ends_stay a.encoding a.options.line_ends cs s

same_version : (v : Option ℤ) → IsVersion v v
same_version None = tt
same_version (Some v) = refl

none_changed : (a : SyncOptions) (l : List ℕ) (r : Remains) (version : Option ℤ) (list : List Change) (w : Bool) →
    Agrees a (if w then Some (text_item [] version (edited_text a [] list)) else None)
    (Some (if w then told_whole (begun_by a l version list) else Lost r))
none_changed a l r version list true = (edited_is a list [], same_version version)
none_changed a l r version list false = tt

some_changed : (a : SyncOptions) (c : Item) (l : List ℕ) (r : Remains) (version : Option ℤ) (list : List Change)
    (w : Bool)
    → (w ≡ true → edited_by a.encoding (text_by a []) list ≡ edited_by a.encoding (text_by a c.text) list) →
    Agrees a (Some (text_item c.language_id version (edited_text a c.text list)))
    (Some (if w then told_whole (begun_by a l version list) else Lost r))
some_changed a c l r version list true whole = (whole refl ∙ edited_is a list c.text, same_version version)
some_changed a c l r version list false whole = tt

none_opened : (a : SyncOptions) (version : Option ℤ) (list : List Change) (w : Bool) →
    Agrees a (if w then Some (text_item [] version (edited_text a [] list)) else None) (if w then Some
    (told_whole (begun_by a [] version list)) else None)
none_opened a version list true = (edited_is a list [], same_version version)
none_opened a version list false = tt

some_opened : (a : SyncOptions) (c : Item) (version : Option ℤ) (list : List Change) (w : Bool)
    → (w ≡ true → edited_by a.encoding (text_by a []) list ≡ edited_by a.encoding (text_by a c.text) list) →
    Agrees a (Some (text_item c.language_id version (edited_text a c.text list))) (if w then Some
    (told_whole (begun_by a [] version list)) else None)
some_opened a c version list true whole = (whole refl ∙ edited_is a list c.text, same_version version)
some_opened a c version list false whole = tt

-- late changes leave nothing to look at
or_late : (a : SyncOptions) (client : Option Item) (o next : DocumentState) (late : Bool) → Agrees a client (Some next)
    → Agrees a client (Some (if late then doubted o else next))
or_late a client (Known d) next true h = tt
or_late a client (Lost r) next true h = tt
or_late a client o next false h = h

-- a text that comes with a save, if it was asked for, and if not
saved_step : (a : SyncOptions) (asked : Bool) (client : Option Item) (kept : Option DocumentState) (text : List ℕ) →
    (asked ≡ true
    → IsSomeAnd client (λ c. c.text ≡ text)) → Agrees a client kept →
    Agrees a client (if asked then option_map (λ o. saved_in a o text) kept else kept)
saved_step a false client kept text s h = h
saved_step a true client None text s h = tt
saved_step a true client (Some (Known k)) text s h = h
saved_step a true None (Some (Lost r)) text s h = absurd (s refl)
saved_step a true (Some c) (Some (Lost r)) text s h = (ap (text_by a) (sym (s refl)), tt)

made_step : (a : SyncOptions) (client : Option Item) (kept : Option DocumentState) (kind : NoticeKind) → SavesOwn a
    client kind
    → Agrees a client kept → Agrees a (told a client kind) (after a kept kind)
made_step a client kept (opened c) s h = (refl, same_version c.version)
made_step a None None (changed version list) s h = none_opened a version list (has_whole list)
made_step a (Some c) None (changed version list) s h = some_opened a c version list (has_whole list)
    (whole_text a list c.text)
made_step a None (Some (Known k)) (changed version list) s h = absurd h
made_step a (Some c) (Some (Known k)) (changed version list) s h =
    or_late a (told a (Some c) (changed version list)) (Known k) (changed_in a (Known k) version list)
    (is_late a version (has_whole list) k.document.version) (
      ap (λ t. edited_by a.encoding t list) h.0 ∙ edited_is a list c.text,
      same_version version,
    )
made_step a None (Some (Lost r)) (changed version list) s h =
    or_late a (told a None (changed version list)) (Lost r) (changed_in a (Lost r) version list) (is_late a version
    (has_whole list) r.version) (none_changed a r.language_id r version list (has_whole list))
made_step a (Some c) (Some (Lost r)) (changed version list) s h =
    or_late a (told a (Some c) (changed version list)) (Lost r) (changed_in a (Lost r) version list) (is_late a version
    (has_whole list) r.version) (some_changed a c r.language_id r version list (has_whole list)
    (whole_text a list c.text))
made_step a client kept (saved None) s h = h
made_step a client kept (saved (Some text)) s h = saved_step a a.include_text client kept text s h
made_step a client kept closed s h = tt

missed_agrees : (a : SyncOptions) (client : Option Item) (kept : Option DocumentState) → Agrees a client (missed kept)
missed_agrees a client None = tt
missed_agrees a client (Some (Known d)) = tt
missed_agrees a client (Some (Lost r)) = tt

told_append : (a : SyncOptions) (c : Option Item) (xs ys : List NoticeKind) → told_all a c (xs ++ ys)
    ≡ told_all a (told_all a c xs) ys
told_append a c [] ys = refl
told_append a c (x ∷ xs) ys = told_append a (told a c x) xs ys

saves_append : (a : SyncOptions) (c : Option Item) (xs ys : List NoticeKind) → SavesItsText a c (xs ++ ys) →
    SavesItsText a c
    xs × SavesItsText a (told_all a c xs) ys
saves_append a c [] ys h = (tt, h)
saves_append a c (x ∷ xs) ys h = let r = saves_append a (told a c x) xs ys h.1 in ((h.0, r.0), r.1)

own_step : (a : SyncOptions) (b : Bool) (c : Option Item) (k : Option DocumentState) (kind : NoticeKind) → Agrees a c k
    → SavesItsText a c (if b then kind ∷ [] else []) →
    Agrees a (told_all a c (if b then kind ∷ [] else [])) (if b then after a k kind else k)
own_step a true c k kind h s = made_step a c k kind s.0 h
own_step a false c k kind h s = h

unmade_agrees : (a : SyncOptions) (c : Option Item) (k : Option DocumentState) (kind : NoticeKind) → Agrees a c k →
    Agrees a (told a c kind) (after_unmade k kind)
unmade_agrees a c k (opened d) h = missed_agrees a (told a c (opened d)) k
unmade_agrees a c k (changed version list) h = missed_agrees a (told a c (changed version list)) k
unmade_agrees a c k (saved text) h = h
unmade_agrees a c k closed h = missed_agrees a (told a c closed) k

unmade_step : (a : SyncOptions) (b : Bool) (c : Option Item) (k : Option DocumentState) (kind : NoticeKind) → Agrees a
    c k →
    Agrees a (told_all a c (if b then kind ∷ [] else [])) (if b then after_unmade k kind else k)
unmade_step a true c k kind h = unmade_agrees a c k kind h
unmade_step a false c k kind h = h

sent_step : (a : SyncOptions) (uri : List ℕ) (c : Option Item) (k : Option DocumentState) (s : Sent) → Agrees a c k →
    SavesItsText a c
    (kinds_in uri (notices_of s)) → Agrees a (told_all a c (kinds_in uri (notices_of s))) (kept_after a uri k s)
sent_step a uri c k (made n) h s = own_step a (bytes_eq uri n.uri) c k n.kind h s
sent_step a uri c k (unmade n) h s = unmade_step a (bytes_eq uri n.uri) c k n.kind h
sent_step a uri c k (unread notices) h s = missed_agrees a (told_all a c (kinds_in uri notices)) k

all_steps : (a : SyncOptions) (uri : List ℕ) (c : Option Item) (k : Option DocumentState) (sent : List Sent) → Agrees a
    c k
    → SavesItsText a c (kinds_of uri sent) → Agrees a (told_all a c (kinds_of uri sent)) (kept_after_all a uri k sent)
all_steps a uri c k [] g h = g
all_steps a uri c k (s ∷ ss) g h =
    let p = saves_append a c (kinds_in uri (notices_of s)) (kinds_of uri ss) h in
    subst (λ x. Agrees a x (kept_after_all a uri (kept_after a uri k s) ss))
    (sym (told_append a c (kinds_in uri (notices_of s)) (kinds_of uri ss)))
    (all_steps a uri (told_all a c (kinds_in uri (notices_of s))) (kept_after a uri k s) ss (sent_step a uri c k s g
    p.0) p.1)

-- ---- all that is held

put_step : (before now : Documents) (uri q : List ℕ) (f : Option DocumentState → Option DocumentState) → now.held q ≡ f
    (before.held q)
    → (bytes_eq uri q ≡ false → now.held uri ≡ before.held uri) → now.held uri
    ≡ (if bytes_eq uri q then f (before.held uri) else before.held uri)
put_step before now uri q f own other =
    by_test (bytes_eq uri q)
    (λ same. (let i : uri ≡ q = (bytes_eq-Decides uri q).0 same in
    rw same (ap now.held i ∙ own ∙ ap (λ u. f (before.held u)) (sym i))))
    (λ apart. rw apart (other apart))

takes_step : (before : Documents) (s : Sent) (now : Documents) → Takes before s now → (uri : List ℕ) → now.held uri
    ≡ kept_after before.sync uri (before.held uri) s
takes_step before (made n) now h uri = put_step before now uri n.uri (λ k. after before.sync k n.kind) h.own
    (h.others uri)
takes_step before (unmade n) now h uri = put_step before now uri n.uri (λ k. after_unmade k n.kind) h.own (h.others uri)
takes_step before (unread notices) now h uri = h.held uri

takes_sync : (before : Documents) (s : Sent) (now : Documents) → Takes before s now → now.sync ≡ before.sync
takes_sync before (made n) now h = h.sync
takes_sync before (unmade n) now h = h.sync
takes_sync before (unread notices) now h = h.sync

pub all_kept : (before : Documents) (sent : List Sent) (now : Documents) → TakesAll before sent now → (uri : List ℕ)
    → now.held uri ≡ kept_after_all before.sync uri (before.held uri) sent
all_kept before [] now h uri = h.held uri
all_kept before (s ∷ ss) now h uri =
    all_kept h.0 ss now h.2 uri ∙ ap (λ x. kept_after_all x uri (h.0.held uri) ss) (takes_sync before s h.0 h.1)
    ∙ ap (λ k. kept_after_all before.sync uri k ss) (takes_step before s h.0 h.1 uri)

pub all_agree : (before : Documents) (client : List ℕ → Option Item) (sent : List Sent) (now : Documents)
    → TakesAll before sent now → (uri : List ℕ) → Agrees before.sync (client uri) (before.held uri)
    → SavesItsText before.sync (client uri) (kinds_of uri sent) →
    Agrees before.sync (told_all before.sync (client uri) (kinds_of uri sent)) (now.held uri)
all_agree before client sent now h uri a s =
    subst (λ k. Agrees before.sync (told_all before.sync (client uri) (kinds_of uri sent)) k)
    (sym (all_kept before sent now h uri)) (all_steps before.sync uri (client uri) (before.held uri) sent a s)

-- ---- what is sure, whatever saves say

abbrev HasEnds : SyncOptions → Option Document → Type 0
HasEnds a None = Unit {0}
HasEnds a (Some d) = d.text.ends ≡ a.options.line_ends

-- the lines of what is shown end as was agreed on, and what is not doubtful is the client's
abbrev IsSure : SyncOptions → Option Item → Option DocumentState → Type 0
IsSure a client kept = HasEnds a (option_and_then shown kept) × IsClients a client (option_and_then sure kept)

sure_clients : (a : SyncOptions) (client : Option Item) (d : Document) (doubtful : Bool) → IsClients a client (Some d)
    → IsClients a client (if doubtful then None else Some d)
sure_clients a client d true h = tt
sure_clients a client d false h = h

agrees_sure : (a : SyncOptions) (client : Option Item) (kept : Option DocumentState) → Agrees a client kept → IsSure a
    client kept
agrees_sure a client None h = (tt, tt)
agrees_sure a client (Some (Lost r)) h = (tt, tt)
agrees_sure a None (Some (Known k)) h = absurd h
agrees_sure a (Some c) (Some (Known k)) h = (
  ap (λ (t : LinedText). t.ends) h.0,
  sure_clients a (Some c) k.document (is_by_save k.origin) h,
)

-- changes leave the ends of lines as they are
edited_ends : (e : PositionEncoding) (t : LinedText) (cs : List Change) → (edited_by e t cs).ends ≡ t.ends
edited_ends e t [] = refl
edited_ends e t (c ∷ cs) = edited_ends e (edited e t c.range c.text) cs ∙ sym (ends_kept e t c.range c.text)

lost_sure : (a : SyncOptions) (client : Option Item) (o : DocumentState) → IsSure a client (Some (doubted o))
lost_sure a client (Known k) = (tt, tt)
lost_sure a client (Lost r) = (tt, tt)

or_late_sure : (a : SyncOptions) (client : Option Item) (o next : DocumentState) (late : Bool) → IsSure a client
    (Some next)
    → IsSure a client (Some (if late then doubted o else next))
or_late_sure a client o next true h = lost_sure a client o
or_late_sure a client o next false h = h

-- what a client's document is after changes, where the server may have another text before them
told_clients : (a : SyncOptions) (client : Option Item) (t : LinedText) (l : List ℕ) (version : Option ℤ)
    (list : List Change) → t.ends ≡ a.options.line_ends → has_whole list ≡ true
    → IsClients a (told a client (changed version list)) (Some (document l version (edited_by a.encoding t list)))
told_clients a None t l version list ends w =
    subst (λ (b : Bool). IsClients a (if b then Some (text_item [] version (edited_text a [] list)) else None)
    (Some (document l version (edited_by a.encoding t list)))) (sym w)
    (whole_ends a.encoding list t (text_by a []) ends w ∙ edited_is a list [], same_version version)
told_clients a (Some c) t l version list ends w =
    (whole_ends a.encoding list t (text_by a c.text) ends w ∙ edited_is a list c.text, same_version version)

-- changes of a text that is sure
edited_sure : (a : SyncOptions) (client : Option Item) (d : Document) (version : Option ℤ) (list : List Change)
    → IsClients a client (Some d) → IsClients a (told a client (changed version list)) (Some (changed_to a.encoding d
    version list))
edited_sure a None d version list h = absurd h
edited_sure a (Some c) d version list h = (
  ap (λ t. edited_by a.encoding t list) h.0 ∙ edited_is a list c.text,
  same_version version,
)

-- changes of one that is doubtful
doubt_sure : (a : SyncOptions) (client : Option Item) (d : Document) (version : Option ℤ) (list : List Change)
    (w : Bool)
    → has_whole list ≡ w → d.text.ends ≡ a.options.line_ends → IsClients a (told a client (changed version list))
    (if is_by_save (if w then Told else BySaveChanged) then None else Some (changed_to a.encoding d version list))
doubt_sure a client d version list true e ends =
    told_clients a client d.text d.language_id version list ends e
doubt_sure a client d version list false e ends = tt

origin_sure : (a : SyncOptions) (client : Option Item) (d : Document) (origin : Origin) (version : Option ℤ)
    (list : List Change) → d.text.ends ≡ a.options.line_ends → IsClients a client (if is_by_save origin then None else
    Some d) → IsClients a (told a client (changed version list)) (if is_by_save (origin_after (has_whole list) origin)
    then None else Some (changed_to a.encoding d version list))
origin_sure a client d Told version list ends h = edited_sure a client d version list h
origin_sure a client d BySave version list ends h = doubt_sure a client d version list (has_whole list) refl ends
origin_sure a client d BySaveChanged version list ends h =
    doubt_sure a client d version list (has_whole list) refl ends

-- changes that begin a document, where nothing is known of it
begun_sure : (a : SyncOptions) (client : Option Item) (l : List ℕ) (version : Option ℤ) (list : List Change) (w : Bool)
    (other : Option DocumentState) → has_whole list ≡ w → IsSure a (told a client (changed version list)) other
    → IsSure a (told a client (changed version list)) (if w then Some (told_whole (begun_by a l version list))
    else other)
begun_sure a client l version list true other e h = (
  edited_ends a.encoding (text_by a []) list,
  told_clients a client (text_by a []) l version list refl e,
)
begun_sure a client l version list false other e h = h

lost_begun : (a : SyncOptions) (client : Option Item) (r : Remains) (version : Option ℤ) (list : List Change) (w : Bool)
    → IsSure a client (if w then Some (told_whole (begun_by a r.language_id version list)) else Some (Lost r))
    → IsSure a client (Some (if w then told_whole (begun_by a r.language_id version list) else Lost r))
lost_begun a client r version list true h = h
lost_begun a client r version list false h = h

saved_sure : (a : SyncOptions) (asked : Bool) (client : Option Item) (kept : Option DocumentState) (text : List ℕ)
    → IsSure a client kept → IsSure a client (if asked then option_map (λ o. saved_in a o text) kept else kept)
saved_sure a false client kept text h = h
saved_sure a true client None text h = h
saved_sure a true client (Some (Known k)) text h = h
saved_sure a true client (Some (Lost r)) text h = (refl, tt)

made_sure : (a : SyncOptions) (client : Option Item) (kept : Option DocumentState) (kind : NoticeKind) → IsSure a
    client kept
    → IsSure a (told a client kind) (after a kept kind)
made_sure a client kept (opened c) h = (refl, (refl, same_version c.version))
made_sure a client None (changed version list) h =
    begun_sure a client [] version list (has_whole list) None refl (tt, tt)
made_sure a client (Some (Lost r)) (changed version list) h =
    or_late_sure a (told a client (changed version list)) (Lost r) (changed_in a (Lost r) version list) (is_late a
    version (has_whole list) r.version) (lost_begun a (told a client (changed version list)) r version list
    (has_whole list) (begun_sure a client r.language_id version list (has_whole list) (Some (Lost r)) refl (tt, tt)))
made_sure a client (Some (Known k)) (changed version list) h =
    or_late_sure a (told a client (changed version list)) (Known k) (changed_in a (Known k) version list) (is_late a
    version (has_whole list) k.document.version) (
      edited_ends a.encoding k.document.text list ∙ h.0,
      origin_sure a client k.document k.origin version list h.0 h.1,
    )
made_sure a client kept (saved None) h = h
made_sure a client kept (saved (Some text)) h = saved_sure a a.include_text client kept text h
made_sure a client kept closed h = (tt, tt)

missed_sure : (a : SyncOptions) (client : Option Item) (kept : Option DocumentState) → IsSure a client (missed kept)
missed_sure a client None = (tt, tt)
missed_sure a client (Some (Known k)) = (tt, tt)
missed_sure a client (Some (Lost r)) = (tt, tt)

own_sure : (a : SyncOptions) (b : Bool) (c : Option Item) (k : Option DocumentState) (kind : NoticeKind) → IsSure a c k
    → IsSure a (told_all a c (if b then kind ∷ [] else [])) (if b then after a k kind else k)
own_sure a true c k kind h = made_sure a c k kind h
own_sure a false c k kind h = h

unmade_is_sure : (a : SyncOptions) (c : Option Item) (k : Option DocumentState) (kind : NoticeKind) → IsSure a c k
    → IsSure a (told a c kind) (after_unmade k kind)
unmade_is_sure a c k (opened d) h = missed_sure a (told a c (opened d)) k
unmade_is_sure a c k (changed version list) h = missed_sure a (told a c (changed version list)) k
unmade_is_sure a c k (saved text) h = h
unmade_is_sure a c k closed h = missed_sure a (told a c closed) k

unmade_sure : (a : SyncOptions) (b : Bool) (c : Option Item) (k : Option DocumentState) (kind : NoticeKind) → IsSure a
    c k
    → IsSure a (told_all a c (if b then kind ∷ [] else [])) (if b then after_unmade k kind else k)
unmade_sure a true c k kind h = unmade_is_sure a c k kind h
unmade_sure a false c k kind h = h

sent_sure : (a : SyncOptions) (uri : List ℕ) (c : Option Item) (k : Option DocumentState) (s : Sent) → IsSure a c k
    → IsSure a (told_all a c (kinds_in uri (notices_of s))) (kept_after a uri k s)
sent_sure a uri c k (made n) h = own_sure a (bytes_eq uri n.uri) c k n.kind h
sent_sure a uri c k (unmade n) h = unmade_sure a (bytes_eq uri n.uri) c k n.kind h
sent_sure a uri c k (unread notices) h = missed_sure a (told_all a c (kinds_in uri notices)) k

steps_sure : (a : SyncOptions) (uri : List ℕ) (c : Option Item) (k : Option DocumentState) (sent : List Sent) → IsSure
    a c k
    → IsSure a (told_all a c (kinds_of uri sent)) (kept_after_all a uri k sent)
steps_sure a uri c k [] g = g
steps_sure a uri c k (s ∷ ss) g =
    subst (λ x. IsSure a x (kept_after_all a uri (kept_after a uri k s) ss))
    (sym (told_append a c (kinds_in uri (notices_of s)) (kinds_of uri ss)))
    (steps_sure a uri (told_all a c (kinds_in uri (notices_of s))) (kept_after a uri k s) ss (sent_sure a uri c k s g))

pub all_sure : (before : Documents) (client : List ℕ → Option Item) (sent : List Sent) (now : Documents)
    → TakesAll before sent now → (uri : List ℕ) → Agrees before.sync (client uri) (before.held uri)
    → IsClients before.sync (told_all before.sync (client uri) (kinds_of uri sent))
    (option_and_then sure (now.held uri))
all_sure before client sent now h uri a =
    let sure_after = steps_sure before.sync uri (client uri) (before.held uri) sent (agrees_sure before.sync
    (client uri) (before.held uri) a) in
    subst (λ k. IsClients before.sync (told_all before.sync (client uri) (kinds_of uri sent))
    (option_and_then sure k)) (sym (all_kept before sent now h uri)) sure_after.1

-- ---- a document of which all was made

-- the client's document is known, with this version, and is the one that is shown
abbrev pub IsCurrent : SyncOptions → Option ℤ → Option Item → Option DocumentState → Type 0
IsCurrent a version client kept = (c : Item) × (client ≡ Some c)
    × (option_and_then shown kept ≡ Some (kept_by a c)) × (c.version ≡ version)

saved_current : (a : SyncOptions) (asked : Bool) (c : Item) (kept : Option DocumentState) (text : List ℕ) →
    option_and_then shown kept
    ≡ Some (kept_by a c) → IsCurrent a c.version (Some c) (if asked then option_map (λ o. saved_in a o text) kept else
    kept)
saved_current a false c kept text h = (c, refl, h, refl)
saved_current a true c None text h = none_value h
saved_current a true c (Some (Known k)) text h = (c, refl, h, refl)
saved_current a true c (Some (Lost r)) text h = none_value h

not_late : (a : SyncOptions) (c : Item) (k : Kept) (version : Option ℤ) (list : List Change) (late : Bool) → k.document
    ≡ kept_by a c → not late ≡ true → IsCurrent a version (told a (Some c) (changed version list)) (Some (if late then
    doubted (Known k) else changed_in a (Known k) version list))
not_late a c k version list true e h = never h
not_late a c k version list false e h = (
  text_item c.language_id version (edited_text a c.text list),
  refl,
  ap (λ d. Some (changed_to a.encoding d version list)) e
      ∙ ap (λ t. Some (document c.language_id version t)) (edited_is a list c.text),
  refl,
)

own_current : (a : SyncOptions) (c : Item) (kept : Option DocumentState) (kind : NoticeKind) → option_and_then shown
    kept
    ≡ Some (kept_by a c) → goes_on a c.version kind ≡ true → IsCurrent a (version_after c.version kind) (told a (Some c)
    kind) (after a kept kind)
own_current a c kept (opened o) e h = (o, refl, refl, refl)
own_current a c None (changed version list) e h = none_value e
own_current a c (Some (Lost r)) (changed version list) e h = none_value e
own_current a c (Some (Known k)) (changed version list) e h =
    let same : k.document ≡ kept_by a c = some_value e in
    not_late a c k version list (is_late a version (has_whole list) k.document.version) same
    (ap (λ (d : Document). not (is_late a version (has_whole list) d.version)) same ∙ h)
own_current a c kept (saved None) e h = (c, refl, e, refl)
own_current a c kept (saved (Some text)) e h = saved_current a a.include_text c kept text e
own_current a c kept closed e h = never h

both_true : (b c : Bool) → b && c ≡ true → (b ≡ true) × (c ≡ true)
both_true true c h = (refl, h)
both_true false c h = never h

not_and : (b c : Bool) → not b && c ≡ true → (b ≡ false) × (c ≡ true)
not_and true c h = never h
not_and false c h = (refl, h)

abbrev pub IsCurrentAt : SyncOptions → Option Item → Option DocumentState → Type 0
IsCurrentAt a client kept = (c : Item) × (client ≡ Some c) × (option_and_then shown kept ≡ Some (kept_by a c))

go_on : (a : SyncOptions) (uri : List ℕ) (version : Option ℤ) (client : Option Item) (kept : Option DocumentState)
    (kinds : List NoticeKind) (ss : List Sent) → IsCurrent a version client kept →
    ((c : Item) → option_and_then shown kept ≡ Some (kept_by a c) → c.version ≡ version → IsCurrentAt a (told_all a
    (Some c) kinds) (kept_after_all a uri kept ss)) → IsCurrentAt a (told_all a client kinds) (kept_after_all a uri kept
    ss)
go_on a uri version client kept kinds ss i rest =
    let r = rest i.0 i.2 i.3 in (r.0, ap (λ x. told_all a x kinds) i.1 ∙ r.1, r.2)

made_current : (a : SyncOptions) (uri : List ℕ) (own : Bool) (kind : NoticeKind) (ss : List Sent) (c : Item)
    (kept : Option DocumentState) → option_and_then shown kept ≡ Some (kept_by a c)
    → (if own then goes_on a c.version kind && is_current a uri (version_after c.version kind) ss else is_current a uri
    c.version ss) ≡ true →
    ((c : Item) (kept : Option DocumentState) (version : Option ℤ) → option_and_then shown kept ≡ Some (kept_by a c) →
    c.version
    ≡ version → is_current a uri version ss ≡ true → IsCurrentAt a (told_all a (Some c) (kinds_of uri ss))
    (kept_after_all a uri kept ss)) →
    IsCurrentAt a (told_all a (Some c) ((if own then kind ∷ [] else []) ++ kinds_of uri ss)) (kept_after_all a uri
    (if own then after a kept kind else kept) ss)
made_current a uri true kind ss c kept e h rest =
    let p = both_true (goes_on a c.version kind) (is_current a uri (version_after c.version kind) ss) h in
    go_on a uri (version_after c.version kind) (told a (Some c) kind) (after a kept kind) (kinds_of uri ss) ss
    (own_current a c kept kind e p.0) (λ d s v. rest d (after a kept kind) (version_after c.version kind) s v p.1)
made_current a uri false kind ss c kept e h rest = rest c kept c.version e refl h

unmade_current : (a : SyncOptions) (uri : List ℕ) (own : Bool) (kind : NoticeKind) (ss : List Sent) (c : Item)
    (kept : Option DocumentState) → own ≡ false → IsCurrentAt a (told_all a (Some c) (kinds_of uri ss))
    (kept_after_all a uri kept
    ss) → IsCurrentAt a (told_all a (Some c) ((if own then kind ∷ [] else []) ++ kinds_of uri ss)) (kept_after_all a uri
    (if own then after_unmade kept kind else kept) ss)
unmade_current a uri true kind ss c kept h rest = never (sym h)
unmade_current a uri false kind ss c kept h rest = rest

all_current : (a : SyncOptions) (uri : List ℕ) (sent : List Sent) (c : Item) (kept : Option DocumentState)
    (version : Option ℤ)
    → option_and_then shown kept ≡ Some (kept_by a c) → c.version ≡ version → is_current a uri version sent ≡ true
    → IsCurrentAt a (told_all a (Some c) (kinds_of uri sent)) (kept_after_all a uri kept sent)
all_current a uri [] c kept version e v h = (c, refl, e)
all_current a uri (made n ∷ ss) c kept version e v h =
    made_current a uri (bytes_eq uri n.uri) n.kind ss c kept e (subst (λ x. (if bytes_eq uri n.uri then goes_on a x
    n.kind && is_current a uri (version_after x n.kind) ss else is_current a uri x ss) ≡ true) (sym v) h)
    (λ c k w s v g. all_current a uri ss c k w s v g)
all_current a uri (unmade n ∷ ss) c kept version e v h =
    let p = not_and (bytes_eq uri n.uri) (is_current a uri version ss) h in
    unmade_current a uri (bytes_eq uri n.uri) n.kind ss c kept p.0 (all_current a uri ss c kept version e v p.1)
all_current a uri (unread notices ∷ ss) c kept version e v h = never h

pub opened_current : (before : Documents) (uri language_id : List ℕ) (version : Option ℤ) (text : List ℕ)
    (sent : List Sent) (now : Documents) → TakesAll before (made (opens uri language_id version text) ∷ sent) now
    → is_current before.sync uri version sent ≡ true →
    (c : Item) × (told_all before.sync (Some (text_item language_id version text)) (kinds_of uri sent) ≡ Some c)
    × (option_and_then shown (now.held uri) ≡ Some (kept_by before.sync c))
opened_current before uri language_id version text sent now h i =
    let item = text_item language_id version text in
    let r = all_current before.sync uri sent item (Some (told_whole (kept_by before.sync item))) version refl refl
    i in
    let k = all_kept h.0 sent now h.2 uri in (
      r.0,
      r.1,
      ap (option_and_then shown) (k ∙ ap (λ x. kept_after_all x uri (h.0.held uri) sent) h.1.sync
          ∙ ap (λ o. kept_after_all before.sync uri o sent) h.1.own) ∙ r.2,
    )

late_is : (t : Bool) (o next : DocumentState) → t ≡ true → option_and_then shown (Some (if t then doubted o else next))
    ≡ None
late_is true (Known d) next h = refl
late_is true (Lost r) next h = refl
late_is false o next h = never h

-- late changes leave no text to look at
pub late_unshown : (before : Documents) (uri : List ℕ) (version : Option ℤ) (list : List Change) (o : DocumentState)
    (now : Documents) → before.held uri ≡ Some o → is_late before.sync version (has_whole list) (version_of o) ≡ true
    → Makes before (edits uri version list) now →
    option_and_then shown (now.held uri) ≡ None
late_unshown before uri version list o now b late h =
    ap (option_and_then shown) (h.own ∙ ap (λ k. after before.sync k (changed version list)) b)
    ∙ late_is (is_late before.sync version (has_whole list) (version_of o)) o
    (changed_in before.sync o version list) late

not_late_whole : (a : SyncOptions) (o : DocumentState) (version : Option ℤ) (list : List Change) (w : Bool) → w ≡ true
    → has_whole list
    ≡ w → (if is_late a version w (version_of o) then Some OutOfOrder else step_fault o w) ≡ None
not_late_whole a (Known d) version list true h e = refl
not_late_whole a (Lost r) version list true h e = refl
not_late_whole a o version list false h e = never h

none_wrong : (w : Bool) → w ≡ true → (if w then None else Some NotOpen) ≡ None
none_wrong true h = refl
none_wrong false h = never h

-- changes with a whole text among them are made, and leave a text of their version
whole_right : (a : SyncOptions) (k : Option DocumentState) (version : Option ℤ) (list : List Change) → has_whole list ≡
    true
    → fault_of a k (changed version list) ≡ None
whole_right a None version list h = none_wrong (has_whole list) h
whole_right a (Some o) version list h = not_late_whole a o version list (has_whole list) h refl

some_shown : (a : SyncOptions) (o : DocumentState) (version : Option ℤ) (list : List Change) (w : Bool) → w ≡ true
    → has_whole list ≡ w
    → IsSomeAnd (option_and_then shown (Some (if is_late a version w (version_of o) then doubted o else changed_in a o
    version list))) (λ d. d.version ≡ version)
some_shown a (Known d) version list true h e = refl
some_shown a (Lost r) version list true h e = rw e refl
some_shown a o version list false h e = never h

none_shown : (a : SyncOptions) (version : Option ℤ) (list : List Change) (w : Bool) → w ≡ true
    → IsSomeAnd (option_and_then shown (if w then Some (told_whole (begun_by a [] version list))
    else None)) (λ d. d.version
    ≡ version)
none_shown a version list true h = refl
none_shown a version list false h = never h

whole_shown : (a : SyncOptions) (k : Option DocumentState) (version : Option ℤ) (list : List Change) → has_whole list ≡
    true
    → IsSomeAnd (option_and_then shown (after a k (changed version list))) (λ d. d.version ≡ version)
whole_shown a None version list h = none_shown a version list (has_whole list) h
whole_shown a (Some o) version list h = some_shown a o version list (has_whole list) h refl

pub whole_made : (before : Documents) (uri : List ℕ) (version : Option ℤ) (list : List Change) (now : Documents)
    → has_whole list ≡ true → (fault_of before.sync (before.held uri) (edits uri version list).kind ≡ None)
    × (Makes before (edits uri version list) now
    → IsSomeAnd (option_and_then shown (now.held uri)) (λ d. d.version ≡ version))
whole_made before uri version list now h = (
  whole_right before.sync (before.held uri) version list h,
  λ m. subst (λ k. IsSomeAnd (option_and_then shown k) (λ d. d.version ≡ version)) (sym m.own)
      (whole_shown before.sync (before.held uri) version list h),
)

-- ---- faults

none_is : {P : Type 0} {fault : DocumentFault} → None ≡ Some fault → P
none_is h = grind (arith, h)

step_same : (a : SyncOptions) (o : DocumentState) (version : Option ℤ) (list : List Change) (w : Bool)
    (fault : DocumentFault)
    → step_fault o w ≡ Some fault → has_whole list ≡ w → changed_in a o version list ≡ o
step_same a (Known d) version list w fault h e = none_is h
step_same a (Lost r) version list true fault h e = none_is h
step_same a (Lost r) version list false fault h e = rw e refl

late_same : (a : SyncOptions) (o : DocumentState) (version : Option ℤ) (list : List Change) (late : Bool)
    (fault : DocumentFault)
    → (if late then Some OutOfOrder else step_fault o (has_whole list)) ≡ Some fault → (fault ≡ OutOfOrder → ⊥) →
    Some (if late then doubted o else changed_in a o version list) ≡ Some o
late_same a o version list true fault h other = absurd (other (sym (some_value h)))
late_same a o version list false fault h other = ap Some (step_same a o version list (has_whole list) fault h refl)

none_same : (a : SyncOptions) (version : Option ℤ) (list : List Change) (w : Bool) (fault : DocumentFault)
    → (if w then None else Some NotOpen) ≡ Some fault → (if w then Some (told_whole (begun_by a [] version list)) else
    None) ≡ None
none_same a version list true fault h = none_is h
none_same a version list false fault h = refl

saved_same : (a : SyncOptions) (asked : Bool) (text : List ℕ) →
    (if asked then option_map (λ o. saved_in a o text) None else
    None) ≡ None
saved_same a true text = refl
saved_same a false text = refl

wrong_same : (a : SyncOptions) (k : Option DocumentState) (kind : NoticeKind) (fault : DocumentFault) → fault_of a k
    kind ≡ Some fault
    → (fault ≡ OutOfOrder → ⊥) → after a k kind ≡ k
wrong_same a k (opened c) fault h other = none_is h
wrong_same a None (changed version list) fault h other = none_same a version list (has_whole list) fault h
wrong_same a (Some o) (changed version list) fault h other = late_same a o version list (is_late a version
    (has_whole list)
    (version_of o)) fault h other
wrong_same a k (saved None) fault h other = refl
wrong_same a None (saved (Some text)) fault h other = saved_same a a.include_text text
wrong_same a (Some o) (saved (Some text)) fault h other = none_is h
wrong_same a None closed fault h other = refl
wrong_same a (Some o) closed fault h other = none_is h

-- what a refusal of changes leaves is what they make
left_none : (a : SyncOptions) (version : Option ℤ) (list : List Change) (w : Bool) (fault : DocumentFault)
    → (if w then None else Some NotOpen) ≡ Some fault → left_by fault None
    ≡ (if w then Some (told_whole (begun_by a [] version list)) else None)
left_none a version list true fault h = none_is h
left_none a version list false fault h = ap (λ f. left_by f None) (sym (some_value h))

left_step : (a : SyncOptions) (o : DocumentState) (version : Option ℤ) (list : List Change) (w : Bool)
    (fault : DocumentFault)
    → step_fault o w ≡ Some fault → has_whole list ≡ w → left_by fault (Some o) ≡ Some (changed_in a o version list)
left_step a (Known d) version list w fault h e = none_is h
left_step a (Lost r) version list true fault h e = none_is h
left_step a (Lost r) version list false fault h e = ap (λ f. left_by f (Some (Lost r))) (sym (some_value h)) ∙ rw e refl

left_some : (a : SyncOptions) (o : DocumentState) (version : Option ℤ) (list : List Change) (late : Bool)
    (fault : DocumentFault)
    → (if late then Some OutOfOrder else step_fault o (has_whole list)) ≡ Some fault →
    left_by fault (Some o) ≡ Some (if late then doubted o else changed_in a o version list)
left_some a o version list true fault h = ap (λ f. left_by f (Some o)) (sym (some_value h))
left_some a o version list false fault h = left_step a o version list (has_whole list) fault h refl

pub left_is : (a : SyncOptions) (k : Option DocumentState) (version : Option ℤ) (list : List Change)
    (fault : DocumentFault)
    → change_fault a k version (has_whole list) ≡ Some fault → left_by fault k ≡ after a k (changed version list)
left_is a None version list fault h = left_none a version list (has_whole list) fault h
left_is a (Some o) version list fault h = left_some a o version list (is_late a version (has_whole list)
    (version_of o)) fault h

keeps_at : (uri : List ℕ) (f g : List ℕ → Option DocumentState) → f uri ≡ g uri →
    ((q : List ℕ) → bytes_eq q uri ≡ false → f q
    ≡ g q) → (q : List ℕ) → f q ≡ g q
keeps_at uri f g own others q =
    by_test (bytes_eq q uri) (λ same. (let s : q ≡ uri = (bytes_eq-Decides q uri).0 same in ap f s ∙ own
    ∙ ap g (sym s))) (others q)

-- if one URI keeps its document, and each other one too, nothing is changed
pub keeps : (before now : Documents) (uri : List ℕ) → now.sync ≡ before.sync → now.held uri ≡ before.held uri
    → ((q : List ℕ) → bytes_eq q uri ≡ false → now.held q ≡ before.held q) → Keeps before now
keeps before now uri a own others = record { sync = a; held = keeps_at uri now.held before.held own others }

-- what is refused by name changes nothing, but for late changes
pub refused_keeps : (before : Documents) (n : Notice) (now : Documents) (fault : DocumentFault) → fault_of before.sync
    (before.held n.uri) n.kind ≡ Some fault → (fault ≡ OutOfOrder → ⊥) → Makes before n now → Keeps before now
refused_keeps before n now fault h other m = keeps before now n.uri m.sync (m.own ∙ wrong_same before.sync
    (before.held n.uri) n.kind fault h other) m.others

-- ---- changes that can be read

-- they are refused by name
pub change_refused : (before now : Documents) (uris : Option (List ℕ)) (version given : Option ℤ) (changes : Option
    (List Change)) (u : List ℕ) (w : Bool) (fault said : DocumentFault) → given ≡ version → uris ≡ Some u
    → option_map has_whole changes ≡ Some w →
    change_fault before.sync (before.held u) given w ≡ Some fault → said ≡ fault
    → Puts before u (left_by fault (before.held u)) now → Failed before (option_and_then (λ uri. option_map
    (edits uri version) changes) uris) uris said now
change_refused before now None version given changes u w fault said hv hu hw hf hs m = none_value hu
change_refused before now (Some a) version given None u w fault said hv hu hw hf hs m = none_value hw
change_refused before now (Some a) version given (Some cs) u w fault said hv hu hw hf hs m =
    let ea : a ≡ u = some_value hu in
    let ew : has_whole cs ≡ w = some_value hw in
    let f : change_fault before.sync (before.held u) version (has_whole cs) ≡ Some fault = ap (λ v. change_fault
    before.sync (before.held u) v (has_whole cs)) (sym hv) ∙ ap (change_fault before.sync (before.held u) given)
    ew ∙ hf in
    let p : Puts before u (after before.sync (before.held u) (changed version cs)) now = subst (λ k. Puts before u k
    now) (left_is before.sync (before.held u) version cs fault f) m in
    subst (λ x. Failed before (Some (edits x version cs)) (Some x) said now) (sym ea) (inl (f ∙ ap Some (sym hs), p))

-- no memory was left for them
pub change_starved : (before now : Documents) (uris : Option (List ℕ)) (version given : Option ℤ) (changes : Option
    (List Change)) (u : List ℕ) (w : Bool) (said : DocumentFault) → given ≡ version → uris ≡ Some u
    → option_map has_whole changes ≡ Some w →
    change_fault before.sync (before.held u) given w ≡ None → said ≡ Memory → IfSome changes (λ cs. has_changes cs
    ≡ true) → Puts before u (missed (before.held u)) now → Failed before (option_and_then (λ uri. option_map
    (edits uri version) changes) uris) uris said now
change_starved before now None version given changes u w said hv hu hw hf hs hn m = none_value hu
change_starved before now (Some a) version given None u w said hv hu hw hf hs hn m = none_value hw
change_starved before now (Some a) version given (Some cs) u w said hv hu hw hf hs hn m =
    let ea : a ≡ u = some_value hu in
    let ew : has_whole cs ≡ w = some_value hw in
    let f : change_fault before.sync (before.held a) version (has_whole cs) ≡ None =
    ap (λ x. change_fault before.sync (before.held x) version (has_whole cs)) ea ∙ ap (λ v. change_fault before.sync
    (before.held u) v (has_whole cs)) (sym hv) ∙ ap (change_fault before.sync (before.held u) given) ew ∙ hf in
    inr (record {
      why = hs;
      right = f;
      needed = hn;
      misses = subst (λ x. Puts before x (missed (before.held x)) now) (sym ea) m;
    })

-- ---- what decides of a list

pick_more : {A : Type 0} (w r : Bool) (since own before : A) → (if w || r then (if r then since else own) else before)
    ≡ (if r then since else (if w then own else before))
pick_more true true since own before = refl
pick_more true false since own before = refl
pick_more false true since own before = refl
pick_more false false since own before = refl

pick_all : {A : Type 0} (w r : Bool) (since own : A) → (if r then since else own)
    ≡ (if w || r then (if r then since else
    own) else own)
pick_all true true since own = refl
pick_all true false since own = refl
pick_all false true since own = refl
pick_all false false since own = refl

-- what decides if these are left, and that did before
abbrev pub deciding : List Change → List Change → List Change
deciding left before = if has_whole left then since_whole left else before

pub deciding_all : (cs : List Change) → since_whole cs ≡ deciding cs cs
deciding_all [] = refl
deciding_all (c ∷ cs) = pick_all (is_none c.range) (has_whole cs) (since_whole cs) (c ∷ cs)

pub deciding_more : (c : Change) (cs before : List Change) → deciding (c ∷ cs) before ≡ deciding cs (if is_none c.range
    then c ∷ cs else before)
deciding_more c cs before = pick_more (is_none c.range) (has_whole cs) (since_whole cs) (c ∷ cs) before
