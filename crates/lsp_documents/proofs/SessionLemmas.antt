-- What a server that applies each notification of its client has taken, and that its texts are the client's.
use Rattle.serde_json.specs.Data.{Data}
use Rattle.std.proofs.Common.{◌≡◌, refl, sym, ◌∙◌, ap, subst, arith, inl, inr, ℕ, Bool, true, false, List, []}
use Rattle.std.proofs.Common.{◌∷◌, ◌++◌}
use Rattle.std.proofs.Common.{Option, Some, None}
use Rattle.std.specs.Bool.{MatchBool}
use Rattle.std.specs.Prelude.{IsSomeAnd, MatchOption, Result, Ok, Err}
use Rattle.std.specs.Prelude.{if◌then◌else◌}
use Rattle.std.specs.Str.{bytes_eq}
use Rattle.lsp_message.specs.Message.{Message, request, notification, response}
use Rattle.lsp_documents.proofs.NoticeLemmas.{all_agree}
use Rattle.lsp_documents.specs.Heard.{Answers, FailedBy, notice_in}
use Rattle.lsp_documents.specs.Held.{documents_of}
use Rattle.lsp_documents.specs.Methods.{method_named}
use Rattle.lsp_documents.specs.Notices.{Agrees, Documents, Failed, FailedSave, Misses, Notice, NoticeKind, Refused}
use Rattle.lsp_documents.specs.Notices.{NoticeKind.opened, NoticeKind.changed, NoticeKind.saved, NoticeKind.closed}
use Rattle.lsp_documents.specs.Notices.{after_unmade, missed, Puts, SavesItsText, Sent, Sent.made, Sent.unmade}
use Rattle.lsp_documents.specs.Notices.{Sent.unread, Takes, TakesAll, Took, kinds_in, kinds_of, notices_of, saves}
use Rattle.lsp_documents.specs.Notices.{told_all}
use Rattle.lsp_documents.specs.Params.{did_change_in, did_close_in, did_open_in, did_save_in, uri_from}
use Rattle.lsp_documents.specs.declared.kept.DocumentState.{DocumentState}
use Rattle.lsp_documents.specs.Sessions.{Applies, AppliesAll, Arrived, HasNone, Loses, MayMean, Means, MeansAll}
use Rattle.lsp_documents.specs.Sessions.{is_save}
use Rattle.lsp_documents.specs.declared.documents.TextDocuments.{TextDocuments}
use Rattle.lsp_documents.specs.declared.fault.DocumentFault.{DocumentFault}
use Rattle.lsp_documents.specs.declared.fault.DocumentUpdate.{DocumentUpdate}
use Rattle.lsp_documents.specs.declared.fault.UpdateFault.{UpdateFault}
use Rattle.lsp_documents.specs.declared.method.DocumentMethod.{DocumentMethod}
use Rattle.lsp_documents.specs.declared.method.DocumentMethod.TheVariants.{DidOpen, DidChange, DidSave, DidClose}

kinds_append : (uri : List ℕ) (ns more : List Notice) → kinds_in uri (ns ++ more)
    ≡ kinds_in uri ns ++ kinds_in uri more
kinds_append uri [] more = refl
kinds_append uri (n ∷ ns) more = by (bytes_eq uri n.uri) (kinds_append uri ns more)
  where
    by : (b : Bool) → kinds_in uri (ns ++ more) ≡ kinds_in uri ns ++ kinds_in uri more
        → (if b then n.kind ∷ kinds_in uri (ns ++ more) else kinds_in uri (ns ++ more))
        ≡ (if b then n.kind ∷ kinds_in uri ns else kinds_in uri ns) ++ kinds_in uri more
    by true same = ap (λ (l : List NoticeKind). n.kind ∷ l) same
    by false same = same

-- The documents took what the client told, of each URI.
pub record TakenAs (before : Documents) (meant : List Notice) (now : Documents) : Type 0 where
  pub sent : List Sent
  pub taken : TakesAll before sent now
  pub same : (uri : List ℕ) → kinds_of uri sent ≡ kinds_in uri meant

more : (before next now : Documents) (s : Sent) (meant : List Notice) → Takes before s next → TakenAs next meant now
    → TakenAs before (notices_of s ++ meant) now
more before next now s meant takes rest = record {
  sent = s ∷ rest.sent;
  taken = (next, takes, rest.taken);
  same = λ uri. ap (λ (l : List NoticeKind). kinds_in uri (notices_of s) ++ l) (rest.same uri)
      ∙ sym (kinds_append uri (notices_of s) meant);
}

-- One step took these notices.
abbrev Step : Documents → List Notice → Documents → Type 0
Step before own next = (s : Sent) × (notices_of s ≡ own) × Takes before s next

refused : (before next : Documents) (n : Notice) (fault : DocumentFault) → Refused before n fault next
    → Step before (n ∷ []) next
refused before next n fault (inl was) = (made n, refl, was.1)
refused before next n fault (inr starved) = (unmade n, refl, starved.misses)

-- what was meant by params that a call failed at
abbrev MeantBy : DocumentMethod → Option Notice → Option (List ℕ) → List Notice → Type 0
MeantBy method read uri own = MatchOption read (MayMean method uri own) (λ n. own ≡ n ∷ [])

-- what is missed of a notice is what was missed, unless it is a save
pub no_save : (k : Option DocumentState) (kind : NoticeKind) → is_save kind ≡ false → missed k ≡ after_unmade k kind
no_save k (opened c) h = refl
no_save k (changed version list) h = refl
no_save k (saved text) h = grind (arith, h)
no_save k closed h = refl

misses : (before next : Documents) (uri : List ℕ) (own : List Notice) → Misses before uri next
    → (n : Notice) × (n.uri ≡ uri) × (is_save n.kind ≡ false) × (own ≡ n ∷ []) → Step before own next
misses before next uri own missed_it m = (
  unmade m.0,
  sym m.3,
  subst (λ k. Puts before m.0.uri k next) (no_save (before.held m.0.uri) m.0.kind m.2)
      (subst (λ (u : List ℕ). Misses before u next) (sym m.1) missed_it),
)

failed : (method : DocumentMethod) (before next : Documents) (params : Data) (fault : DocumentFault)
    (own : List Notice) → FailedBy method before params fault next
    → MeantBy method (notice_in method params) (uri_from params) own → Step before own next
failed DidOpen before next params fault own f m = by (did_open_in params) (uri_from params) f m
  where
    by : (read : Option Notice) (uri : Option (List ℕ)) → Failed before read uri fault next
        → MeantBy DidOpen read uri own → Step before own next
    by (Some n) uri f m = subst (λ (l : List Notice). Step before l next) (sym m) (refused before next n fault f)
    by None (Some uri) f m = misses before next uri own f.1 m
    by None None f m = (unread own, refl, f.1)
failed DidChange before next params fault own f m = by (did_change_in params) (uri_from params) f m
  where
    by : (read : Option Notice) (uri : Option (List ℕ)) → Failed before read uri fault next
        → MeantBy DidChange read uri own → Step before own next
    by (Some n) uri f m = subst (λ (l : List Notice). Step before l next) (sym m) (refused before next n fault f)
    by None (Some uri) f m = misses before next uri own f.1 m
    by None None f m = (unread own, refl, f.1)
failed DidSave before next params fault own f m = by (did_save_in params) (uri_from params) f m
  where
    by : (read : Option Notice) (uri : Option (List ℕ)) → FailedSave before read fault next
        → MeantBy DidSave read uri own → Step before own next
    by (Some n) uri f m = subst (λ (l : List Notice). Step before l next) (sym m) (refused before next n fault f)
    by None uri f m = (
      made (saves m.0 None),
      sym m.1,
      record { sync = f.1.sync; own = f.1.held m.0; others = λ q other. f.1.held q },
    )
failed DidClose before next params fault own f m = by (did_close_in params) (uri_from params) f m
  where
    by : (read : Option Notice) (uri : Option (List ℕ)) → Failed before read uri fault next
        → MeantBy DidClose read uri own → Step before own next
    by (Some n) uri f m = subst (λ (l : List Notice). Step before l next) (sym m) (refused before next n fault f)
    by None (Some uri) f m = misses before next uri own f.1 m
    by None None f m = (unread own, refl, f.1)

answered : (method : DocumentMethod) (before next : TextDocuments) (params : Data)
    (heard : Result DocumentUpdate UpdateFault) (own : List Notice) → Answers method before params heard next
    → MeantBy method (notice_in method params) (uri_from params) own
    → Step (documents_of before) own (documents_of next)
answered method before next params (Ok update) own a m = by (notice_in method params) a.ok m
  where
    by : (read : Option Notice) → IsSomeAnd read (λ n.
        (update.uri.now ≡ n.uri) × Took (documents_of before) n update.warning (documents_of next))
        → MeantBy method read (uri_from params) own → Step (documents_of before) own (documents_of next)
    by None never m = absurd never
    by (Some n) took m = (made n, sym m, took.1.makes)
answered method before next params (Err fault) own a m =
    failed method (documents_of before) (documents_of next) params fault.fault own a.err m

-- nothing was told, and nothing changed
none_told : (before next now : TextDocuments) (own rest : List Notice) → next ≡ before → own ≡ []
    → TakenAs (documents_of next) rest (documents_of now)
    → TakenAs (documents_of before) (own ++ rest) (documents_of now)
none_told before next now own rest same none taken =
    subst (λ (x : TextDocuments × List Notice). TakenAs (documents_of x.0) (x.1 ++ rest) (documents_of now))
    (λ k. (same k, sym none k)) taken

-- a message took what it told
step : (before next now : TextDocuments) (came : Option Message) (own rest : List Notice)
    → Applies before came next → Means came own → TakenAs (documents_of next) rest (documents_of now)
    → TakenAs (documents_of before) (own ++ rest) (documents_of now)
step before next now (Some (notification method params)) own rest applies means taken =
    by (method_named method) applies means
  where
    by : (found : Option DocumentMethod) → MatchOption found (next ≡ before)
        (λ m. (heard : Result DocumentUpdate UpdateFault) × Answers m before params heard next)
        → MatchOption found (own ≡ []) (λ m. MeantBy m (notice_in m params) (uri_from params) own)
        → TakenAs (documents_of before) (own ++ rest) (documents_of now)
    by None same none = none_told before next now own rest same none taken
    by (Some m) applies means =
        let s = answered m before next params applies.0 own applies.1 means in
        subst (λ (l : List Notice). TakenAs (documents_of before) (l ++ rest) (documents_of now)) s.1
        (more (documents_of before) (documents_of next) (documents_of now) s.0 rest s.2 taken)
step before next now (Some (request id method params)) own rest same none taken =
    none_told before next now own rest same none taken
step before next now (Some (response id outcome)) own rest same none taken =
    none_told before next now own rest same none taken
step before next now None own rest same none taken = none_told before next now own rest same none taken

lost_first : (lost : Bool) (before left now : TextDocuments) (skipped meant : List Notice) → Loses lost before left
    → MatchBool lost (Unit {0}) (skipped ≡ []) → TakenAs (documents_of left) meant (documents_of now)
    → TakenAs (documents_of before) (skipped ++ meant) (documents_of now)
lost_first true before left now skipped meant loses any taken =
    more (documents_of before) (documents_of left) (documents_of now) (unread skipped) meant loses taken
lost_first false before left now skipped meant same none taken =
    none_told before left now skipped meant same none taken

pub all_taken : (before now : TextDocuments) (arrived : List Arrived) (meant : List Notice)
    → AppliesAll before arrived now → MeansAll arrived meant
    → TakenAs (documents_of before) meant (documents_of now)
all_taken before now [] meant same none = record {
  sent = [];
  taken = record {
    sync = ap (λ (d : TextDocuments). (documents_of d).sync) same;
    held = λ uri. ap (λ (d : TextDocuments). (documents_of d).held uri) same;
  };
  same = λ uri. ap (kinds_in uri) (sym none);
}
all_taken before now (a ∷ rest) meant applies means =
    subst (λ (l : List Notice). TakenAs (documents_of before) l (documents_of now)) (sym means.6)
    (lost_first a.0 before applies.0 now means.0 (means.1 ++ means.2) applies.2 means.3
    (step applies.0 applies.1 now a.1 means.1 means.2 applies.3 means.4
    (all_taken applies.1 now rest means.2 applies.4 means.5)))

pub own_texts : (before now : TextDocuments) (arrived : List Arrived) (meant : List Notice) → HasNone before
    → AppliesAll before arrived now → MeansAll arrived meant → (uri : List ℕ)
    → SavesItsText before.sync None (kinds_in uri meant)
    → Agrees before.sync (told_all before.sync None (kinds_in uri meant)) ((documents_of now).held uri)
own_texts before now arrived meant none applies means uri saves =
    let t = all_taken before now arrived meant applies means in
    subst (λ (l : List NoticeKind). Agrees before.sync (told_all before.sync None l) ((documents_of now).held uri))
    (t.same uri)
    (all_agree (documents_of before) (λ u. None) t.sent (documents_of now) t.taken uri
    (subst (λ o. Agrees before.sync None o) (sym (none uri)) tt)
    (subst (SavesItsText before.sync None) (sym (t.same uri)) saves))
