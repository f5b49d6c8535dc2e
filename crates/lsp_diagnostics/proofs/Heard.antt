-- Which documents a notification changes, and that the analyses follow them.
use Rattle.serde_json.specs.Data.{Data}
use Rattle.std.proofs.Common.{◌≡◌, refl, sym, ◌∙◌, ap, subst, inl, inr, ℕ, Bool, false, List, [], ◌∷◌, ◌++◌}
use Rattle.std.proofs.Common.{Option, Some, None, append-nil, append_assoc}
use Rattle.std.proofs.Common.{string_bytes, String, Global}
use Rattle.std.proofs.lemmas.List.{map-append}
use Rattle.std.proofs.lemmas.List.Elements.{All-append, All-cons, All-nil, All-push, All-weaker}
use Rattle.std.proofs.lemmas.Map.Entries.{lookup_tail}
use Rattle.std.proofs.lemmas.Map.Text.{is_eq-slice_cmp}
use Rattle.std.proofs.lemmas.Result.{on_ok_weaker}
use Rattle.std.specs.BTreeMap.{is_at}
use Rattle.std.specs.Cmp.Lexicographic.{slice_cmp}
use Rattle.std.specs.List.{All}
use Rattle.std.specs.Map.{lookup}
use Rattle.std.specs.Ordering.{nat_cmp}
use Rattle.std.specs.Prelude.{MatchOption, IsSomeAnd, IfErr, IfOk, IfSome, option_map, option_and_then, codes, map}
use Rattle.std.specs.Prelude.{Result, Ok, Err}
use Rattle.std.specs.Prelude.{OnOk}
use Rattle.std.specs.Str.{bytes_eq}
use Rattle.lsp_documents.specs.Fault.{update_fault_text, update_text}
use Rattle.lsp_documents.specs.Heard.{Answers, FailedBy, notice_in}
use Rattle.lsp_documents.specs.Held.{documents_of}
use Rattle.lsp_documents.specs.Notices.{Documents, Failed, FailedSave, Item, Notice, Refused, Took, closes, missed}
use Rattle.lsp_documents.specs.Notices.{MissesAll, opens, edits, saves, shown}
use Rattle.lsp_documents.specs.Methods.{method_named}
use Rattle.lsp_documents.specs.Params.{changes_given, did_change_in, did_close_in, did_open_in, did_save_in}
use Rattle.lsp_documents.specs.Params.{opened_in, uri_from}
use Rattle.lsp_documents.specs.Params.{document_in, text_in, version_in}
use Rattle.lsp_documents.specs.declared.documents.TextDocuments.{TextDocuments}
use Rattle.lsp_documents.specs.declared.known.DocumentSnapshot.{DocumentSnapshot}
use Rattle.lsp_documents.specs.declared.fault.DocumentFault.{DocumentFault}
use Rattle.lsp_documents.specs.declared.fault.DocumentFault.TheVariants.{Memory}
use Rattle.lsp_documents.specs.declared.fault.DocumentUpdate.{DocumentUpdate}
use Rattle.lsp_documents.specs.declared.fault.SyncWarning.{SyncWarning}
use Rattle.lsp_documents.specs.declared.fault.UpdateFault.{UpdateFault}
use Rattle.lsp_documents.specs.declared.kept.DocumentState.{DocumentState}
use Rattle.lsp_documents.specs.declared.kept.DocumentState.TheVariants.{Known, Lost}
use Rattle.lsp_documents.specs.declared.method.DocumentMethod.{DocumentMethod}
use Rattle.lsp_documents.specs.declared.method.DocumentMethod.TheVariants.{DidOpen, DidChange, DidSave, DidClose}
use Rattle.lsp_jobs.specs.KeyedJobLaw.{LeavesAlone, key_of, started_by}
use Rattle.lsp_jobs.specs.declared.job_server.JobCommand.{JobCommand}
use Rattle.lsp_jobs.specs.declared.job_server.JobCommand.TheVariants.{Start, StartAfter, Stop}
use Rattle.lsp_message.specs.Id.{Id, text, same_id}
use Rattle.lsp_text.specs.Documents.{Document}
use Rattle.lsp_acts.specs.Acts.{Act, tells}
use Rattle.lsp_acts.specs.Answering.{error_type, log_method, message_params}
use Rattle.lsp_acts.specs.View.{act_view}
use Rattle.lsp_acts.specs.declared.server.Act as rust
use Rattle.lsp_diagnostics.proofs.Lists.{in_list, not_empty, only, place_in, some_and}
use Rattle.lsp_diagnostics.specs.Applied.{all_lost}
use Rattle.lsp_diagnostics.specs.Followed.{AreCommandsFor, Clears, Follow, FollowOn, IsCommandFor, IsCopyOf, IsCurrent}
use Rattle.lsp_diagnostics.specs.Followed.{Logs, LogsAndClears, LogsOrClears, known}
use Rattle.lsp_diagnostics.specs.Logged.{LogsHeard, LogsLine, LogsWarning, Reports, warning_type}

-- only the document of this URI changed; or, without one, none came that was not there
abbrev pub Touches : Documents → Documents → Option (List ℕ) → Type 0
Touches before now None = (q : List ℕ) → now.held q ≡ None → before.held q ≡ None
Touches before now (Some uri) = (q : List ℕ) → bytes_eq q uri ≡ false → now.held q ≡ before.held q

refused : (before now : Documents) (n : Notice) (fault : DocumentFault) → Refused before n fault now
    → Touches before now (Some n.uri)
refused before now n fault (inl made) = made.1.others
refused before now n fault (inr starved) = starved.misses.others

was_none : (o : Option DocumentState) → missed o ≡ None → o ≡ None
was_none None e = refl
was_none (Some o) e = absurd (cc (e))

-- the notice that is read, if one is, has the URI that the params name
abbrev Names : Option Notice → Option (List ℕ) → Type 0
Names read uri = (n : Notice) → read ≡ Some n → uri ≡ Some n.uri

failed : (before now : Documents) (read : Option Notice) (uri : Option (List ℕ)) (fault : DocumentFault)
    → Names read uri → Failed before read uri fault now → Touches before now uri
failed before now (Some n) uri fault names f =
    subst (Touches before now) (sym (names n refl)) (refused before now n fault f)
failed before now None (Some uri) fault names f = f.1.others
failed before now None None fault names f = λ q gone. was_none (before.held q) (sym (f.1.held q) ∙ gone)

failed_save : (before now : Documents) (read : Option Notice) (uri : Option (List ℕ)) (fault : DocumentFault)
    → Names read uri → FailedSave before read fault now → Touches before now uri
failed_save before now (Some n) uri fault names f =
    subst (Touches before now) (sym (names n refl)) (refused before now n fault f)
failed_save before now None (Some uri) fault names f = λ q other. f.1.held q
failed_save before now None None fault names f = λ q gone. sym (f.1.held q) ∙ gone

both : {X : Type 0} (of : List ℕ → X → Notice) → ((uri : List ℕ) (x : X) → (of uri x).uri ≡ uri)
    → (uri : Option (List ℕ)) (o : Option X) → Names (option_and_then (λ u. option_map (of u) o) uri) uri
both of own None o n e = absurd (cc (e))
both of own (Some uri) None n e = absurd (cc (e))
both of own (Some uri) (Some x) n e =
    let same : of uri x ≡ n = cc (e) in ap Some (sym (own uri x) ∙ ap (λ (m : Notice). m.uri) same)

one : (of : List ℕ → Notice) → ((uri : List ℕ) → (of uri).uri ≡ uri) → (uri : Option (List ℕ))
    → Names (option_map of uri) uri
one of own None n e = absurd (cc (e))
one of own (Some uri) n e =
    let same : of uri ≡ n = cc (e) in ap Some (sym (own uri) ∙ ap (λ (m : Notice). m.uri) same)

failed_by : (method : DocumentMethod) (before now : Documents) (params : Data) (fault : DocumentFault)
    → FailedBy method before params fault now → Touches before now (uri_from params)
failed_by DidOpen before now params fault f = failed before now (did_open_in params) (uri_from params) fault
    (both (λ uri (d : Item). opens uri d.language_id d.version d.text) (λ uri d. refl) (uri_from params)
    (opened_in params)) f
failed_by DidChange before now params fault f = failed before now (did_change_in params) (uri_from params) fault
    (both (λ uri. edits uri (option_and_then version_in (document_in params))) (λ uri list. refl)
    (uri_from params) (changes_given params)) f
failed_by DidSave before now params fault f = failed_save before now (did_save_in params) (uri_from params) fault
    (one (λ uri. saves uri (text_in (codes "text") params)) (λ uri. refl) (uri_from params)) f
failed_by DidClose before now params fault f = failed before now (did_close_in params) (uri_from params) fault
    (one closes (λ uri. refl) (uri_from params)) f

pub touched : (method : DocumentMethod) (before now : TextDocuments) (params : Data) (m : DocumentUpdate)
    → Answers method before params (Ok m) now → Touches (documents_of before) (documents_of now) (Some m.uri.now)
touched method before now params m a =
    let n = some_and (λ (n : Notice). (m.uri.now ≡ n.uri)
    × Took (documents_of before) n m.warning (documents_of now)) (notice_in method params) a.ok in
    subst (λ (uri : List ℕ). Touches (documents_of before) (documents_of now) (Some uri)) (sym n.2.0) n.2.1.makes.others

pub not_made : (method : DocumentMethod) (before now : TextDocuments) (params : Data) (m : UpdateFault)
    → Answers method before params (Err m) now
    → Touches (documents_of before) (documents_of now) (option_map (λ s. s.now) m.uri)
not_made method before now params m a =
    subst (Touches (documents_of before) (documents_of now)) (sym a.named)
    (failed_by method (documents_of before) (documents_of now) params m.fault a.err)

other_key : (q uri : List ℕ) → same_id (text q) (text uri) ≡ false → bytes_eq q uri ≡ false
other_key q uri other = sym (is_eq-slice_cmp q uri) ∙ other

-- what is kept of a URI, among these entries
abbrev pub found : List ℕ → List (String Global × DocumentState) → Option DocumentState
found uri entries = lookup (is_at (λ k. slice_cmp nat_cmp uri (string_bytes k))) entries

module _ {J : Type 0} (source : J → Option DocumentSnapshot) where
  key_is : (documents : Documents) (uri : List ℕ) (command : JobCommand J)
      → IsCommandFor source documents uri command → key_of command ≡ text uri
  key_is documents uri (Start key job) is = is.0
  key_is documents uri (StartAfter key time job) is = is.0
  key_is documents uri (Stop key) is = is.0

  is_current : (documents : Documents) (uri : List ℕ) (command : JobCommand J) (key : Id) (job : J)
      → IsCommandFor source documents uri command → started_by command ≡ Some (key, job)
      → IsCurrent source documents key job
  is_current documents uri (Start k j) key job is e =
      let same : (k, j) ≡ (key, job) = cc (e) in
      subst (λ (x : Id × J). IsCurrent source documents x.0 x.1) same is.1
  is_current documents uri (StartAfter k time j) key job is e =
      let same : (k, j) ≡ (key, job) = cc (e) in
      subst (λ (x : Id × J). IsCurrent source documents x.0 x.1) same is.1
  is_current documents uri (Stop k) key job is e = absurd (cc (e))

  -- the analysis of a document is stopped if its text is not known
  is_stopped : (documents : Documents) (uri q : List ℕ) (command : JobCommand J)
      → IsCommandFor source documents uri command → Stop (text q) ≡ command
      → option_and_then shown (documents.held q) ≡ None
  is_stopped documents uri q command is e =
      let stop = subst (IsCommandFor source documents uri) (sym e) is in
      let same : q ≡ uri = cc (stop.0) in
      ap (λ (u : List ℕ). option_and_then shown (documents.held u)) same ∙ stop.1

  -- without a command, nothing changed
  pub follow_none : (held : Documents) (commands : List (JobCommand J)) → commands ≡ []
      → Follow source held commands held
  follow_none held commands none = record {
    started = λ key job last.
        absurd (not_empty last.before last.after last.start (sym none ∙ last.cut));
    stopped = λ uri some more cut alone. absurd (not_empty some more (Stop (text uri)) (sym none ∙ cut));
    others = λ uri alone. refl;
  }

  -- where neither the commands nor the documents change
  pub follow_same : (old new : List (JobCommand J)) (before now : TextDocuments) → now ≡ before → new ≡ old
      → FollowOn source old (documents_of before) new (documents_of now)
  follow_same old new before now kept same base follow =
      subst (λ (x : List (JobCommand J) × TextDocuments). Follow source base x.0 (documents_of x.1))
      (λ k. (sym same k, sym kept k)) follow

  -- one change after another
  pub follow_on : (old mid new : List (JobCommand J)) (before left now : Documents)
      → FollowOn source old before mid left → FollowOn source mid left new now → FollowOn source old before new now
  follow_on old mid new before left now first next base follow = next base (first base follow)

  alone_split : (key : Id) (some more : List (JobCommand J)) → LeavesAlone key (some ++ more)
      → LeavesAlone key some × LeavesAlone key more
  alone_split key [] more alone = (tt, alone)
  alone_split key (command ∷ some) more alone =
      let rest = alone_split key some more alone.1 in ((alone.0, rest.0), rest.1)

  -- a job whose key has no command analyses its document still
  pub still : (before now : Documents) (changes : List (JobCommand J)) (key : Id) (job : J)
      → Follow source before changes now → LeavesAlone key changes → IsCurrent source before key job
      → IsCurrent source now key job
  still before now changes key job follow alone was = at (source job) was
    where
      at : (o : Option DocumentSnapshot)
          → IsSomeAnd o (λ copy. (key ≡ text (string_bytes copy.uri))
          × IsSomeAnd (known before (string_bytes copy.uri)) (IsCopyOf copy))
          → IsSomeAnd o (λ copy. (key ≡ text (string_bytes copy.uri))
          × IsSomeAnd (known now (string_bytes copy.uri)) (IsCopyOf copy))
      at None never = absurd never
      at (Some copy) is = (
        is.0,
        subst (λ (k : Option Document). IsSomeAnd k (IsCopyOf copy))
            (sym (follow.others (string_bytes copy.uri) (subst (λ (s : Id). LeavesAlone s changes) is.0 alone))) is.1,
      )

  -- the commands of one change, and then those of the next
  pub follow_then : (base before now : Documents) (old new : List (JobCommand J)) → Follow source base old before
      → Follow source before new now → Follow source base (old ++ new) now
  follow_then base before now old new first next = record {
    started = λ key job last. elim (place_in old new last.before last.after last.start last.cut) [
      | inl there ↦
          let alone = alone_split key there.0 new (subst (LeavesAlone key) there.1 last.alone) in
          still before now new key job next alone.1 (first.started key job (record {
            before = last.before;
            after = there.0;
            start = last.start;
            started = last.started;
            cut = there.2;
            alone = alone.0;
          }))
      | inr here ↦ next.started key job (record {
        before = here.0;
        after = last.after;
        start = last.start;
        started = last.started;
        cut = here.2;
        alone = last.alone;
      })
    ];
    stopped = λ uri some more cut last. elim (place_in old new some more (Stop (text uri)) cut) [
      | inl there ↦
          let alone = alone_split (text uri) there.0 new (subst (LeavesAlone (text uri)) there.1 last) in
          next.others uri alone.1 ∙ first.stopped uri some there.0 there.2 alone.0
      | inr here ↦ next.stopped uri here.0 more here.2 last
    ];
    others = λ uri last.
        let alone = alone_split (text uri) old new last in next.others uri alone.1 ∙ first.others uri alone.0;
  }

  -- the analysis of one document follows it
  one_follows : (before now : Documents) (uri : List ℕ) (command : JobCommand J) → Touches before now (Some uri)
      → IsCommandFor source now uri command → Follow source before (command ∷ []) now
  one_follows before now uri command touches is = record {
    started = λ key job last.
        is_current now uri command key job is
        (ap started_by (sym (only last.before last.after last.start command last.cut)) ∙ last.started);
    stopped = λ q some more cut alone. is_stopped now uri q command is (only some more (Stop (text q)) command cut);
    others = λ q alone. ap (option_and_then shown) (touches q (other_key q uri
        (subst (λ (s : Id). same_id (text q) s ≡ false) (key_is now uri command is) alone.0)));
  }

  -- the same of all
  all_follow : (before now : Documents) (commands : List (JobCommand J)) → Touches before now None
      → AreCommandsFor source now commands → Follow source before commands now
  all_follow before now commands touches are = record {
    started = λ key job last.
        let at = in_list (λ command. (uri : List ℕ) × IsCommandFor source now uri command) last.before last.after
        last.start commands last.cut are.each in
        is_current now at.0 last.start key job at.1 last.started;
    stopped = λ q some more cut alone.
        let at = in_list (λ command. (uri : List ℕ) × IsCommandFor source now uri command) some more (Stop (text q))
        commands cut are.each in
        is_stopped now at.0 q (Stop (text q)) at.1 refl;
    others = λ uri alone.
        let gone = are.all uri alone in
        ap (option_and_then shown) (gone ∙ sym (touches uri gone));
  }

  -- what is kept of a URI is among the entries that are left, if there is no command for its key
  abbrev pub AreLeft : Documents → List (JobCommand J) → List (String Global × DocumentState) → Type 0
  AreLeft documents commands entries =
      (uri : List ℕ) → LeavesAlone (text uri) commands → documents.held uri ≡ found uri entries

  pub are_left : (documents : Documents) (commands : List (JobCommand J)) (command : JobCommand J)
      (e : String Global × DocumentState) (entries : List (String Global × DocumentState))
      → IsCommandFor source documents (string_bytes e.0) command → AreLeft documents commands (e ∷ entries)
      → AreLeft documents (commands ++ command ∷ []) entries
  are_left documents commands command e entries is before uri alone =
      let both = alone_split (text uri) commands (command ∷ []) alone in
      before uri both.0
      ∙ lookup_tail (is_at (λ k. slice_cmp nat_cmp uri (string_bytes k))) e entries
      (subst (λ (s : Id). same_id (text uri) s ≡ false) (key_is documents (string_bytes e.0) command is) both.1.0)

  -- the commands for the entries up to some
  pub record AreSoFar (documents : Documents) (old new : List (JobCommand J))
      (entries : List (String Global × DocumentState)) : Type 0 where
    pub added : List (JobCommand J)
    pub are : new ≡ old ++ added
    pub each : All (λ command. (uri : List ℕ) × IsCommandFor source documents uri command) added
    pub rest : AreLeft documents added entries

  pub none_so_far : (documents : Documents) (old : List (JobCommand J))
      (entries : List (String Global × DocumentState)) → ((uri : List ℕ) → documents.held uri ≡ found uri entries)
      → AreSoFar documents old old entries
  none_so_far documents old entries all = record {
    added = [];
    are = sym (append-nil old);
    each = All-nil (λ command. (uri : List ℕ) × IsCommandFor source documents uri command);
    rest = λ uri alone. all uri;
  }

  pub one_so_far : (documents : Documents) (old mid new : List (JobCommand J)) (command : JobCommand J)
      (e : String Global × DocumentState) (entries : List (String Global × DocumentState))
      → IsCommandFor source documents (string_bytes e.0) command → new ≡ mid ++ command ∷ []
      → AreSoFar documents old mid (e ∷ entries) → AreSoFar documents old new entries
  one_so_far documents old mid new command e entries is one so = record {
    added = so.added ++ command ∷ [];
    are = one ∙ ap (λ (l : List (JobCommand J)). l ++ command ∷ []) so.are
        ∙ append_assoc old so.added (command ∷ []);
    each = All-push (λ command. (uri : List ℕ) × IsCommandFor source documents uri command) so.added command so.each
        (string_bytes e.0, is);
    rest = are_left documents so.added command e entries is so.rest;
  }

  pub all_so_far : (documents : Documents) (old new : List (JobCommand J)) → AreSoFar documents old new []
      → (added : List (JobCommand J)) × (new ≡ old ++ added) × AreCommandsFor source documents added
  all_so_far documents old new so =
      (so.added, so.are, record { each = so.each; all = λ uri alone. so.rest uri alone })

  pub follows_one : {A E : Type 0} (r : Result A E) (before held now : TextDocuments) (old new : List (JobCommand J))
      (uri : List ℕ) → Touches (documents_of before) (documents_of held) (Some uri) → now ≡ held
      → OnOk r ((command : JobCommand J) × (new ≡ old ++ command ∷ [])
      × IsCommandFor source (documents_of held) uri command)
      → OnOk r (FollowOn source old (documents_of before) new (documents_of now))
  follows_one r before held now old new uri touches same = on_ok_weaker r (λ did base follow.
      subst (λ (x : List (JobCommand J) × TextDocuments). Follow source base x.0 (documents_of x.1))
      (λ k. (sym did.1 k, sym same k))
      (follow_then base (documents_of before) (documents_of held) old (did.0 ∷ []) follow
      (one_follows (documents_of before) (documents_of held) uri did.0 touches did.2)))

  pub follow_all : (before held now : TextDocuments) (old new : List (JobCommand J))
      → Touches (documents_of before) (documents_of held) None → now ≡ held
      → ((added : List (JobCommand J)) × (new ≡ old ++ added) × AreCommandsFor source (documents_of held) added)
      → FollowOn source old (documents_of before) new (documents_of now)
  follow_all before held now old new touches same did base follow =
      subst (λ (x : List (JobCommand J) × TextDocuments). Follow source base x.0 (documents_of x.1))
      (λ k. (sym did.1 k, sym same k))
      (follow_then base (documents_of before) (documents_of held) old did.0 follow
      (all_follow (documents_of before) (documents_of held) did.0 touches did.2))

  pub follows_all : {A E : Type 0} (r : Result A E) (before held now : TextDocuments) (old new : List (JobCommand J))
      → Touches (documents_of before) (documents_of held) None → now ≡ held
      → OnOk r ((added : List (JobCommand J)) × (new ≡ old ++ added)
      × AreCommandsFor source (documents_of held) added)
      → OnOk r (FollowOn source old (documents_of before) new (documents_of now))
  follows_all r before held now old new touches same =
      on_ok_weaker r (follow_all before held now old new touches same)

  -- the same where the commands were these just before
  pub follows_after : {A E : Type 0} (r : Result A E) (before held now : TextDocuments)
      (old mid new : List (JobCommand J)) → mid ≡ old
      → OnOk r (FollowOn source mid (documents_of before) new (documents_of now))
      → OnOk r (FollowOn source old (documents_of before) new (documents_of now))
  follows_after r before held now old mid new same follows =
      subst (λ (l : List (JobCommand J)). OnOk r (FollowOn source l (documents_of before) new (documents_of now))) same
      follows

-- nothing of a URI comes to be kept where all texts are lost
pub touches_all : (before now : Documents) → MissesAll before now → Touches before now None
touches_all before now misses = λ q gone. was_none (before.held q) (sym (misses.held q) ∙ gone)

-- then no text is known
pub none_known : (before now : Documents) → MissesAll before now → (uri : List ℕ) → known now uri ≡ None
none_known before now misses uri = ap (option_and_then shown) (misses.held uri) ∙ gone (before.held uri)
  where
    gone : (o : Option DocumentState) → option_and_then shown (missed o) ≡ None
    gone None = refl
    gone (Some (Known k)) = refl
    gone (Some (Lost r)) = refl

-- what `apply` ensures
abbrev Heard : Option DocumentMethod → TextDocuments → Data → Option (Result DocumentUpdate UpdateFault)
    → TextDocuments → Type 0
Heard found before params result now = MatchOption found ((result ≡ None) × (now ≡ before))
    (λ method. IsSomeAnd result (λ heard. Answers method before params heard now))

heard_as : (found : Option DocumentMethod) (before : TextDocuments) (params : Data)
    (result : Option (Result DocumentUpdate UpdateFault)) (heard : Result DocumentUpdate UpdateFault)
    (now : TextDocuments) → Heard found before params result now → result ≡ Some heard
    → (method : DocumentMethod) × Answers method before params heard now
heard_as None before params result heard now h e = let no = sym h.0 ∙ e in absurd (cc (no))
heard_as (Some method) before params result heard now h e = (
  method,
  subst (λ (r : Option (Result DocumentUpdate UpdateFault)). IsSomeAnd r (λ x. Answers method before params
      x now)) e h,
)

-- what became of the documents, where memory did not fail
abbrev Applied : Option DocumentMethod → TextDocuments → Data → TextDocuments → Type 0
Applied found before params now = MatchOption found (now ≡ before)
    (λ method. (heard : Result DocumentUpdate UpdateFault) × Answers method before params heard now
    × IfErr heard (λ missed. missed.fault ≡ Memory → ⊥))

pub applied_other : (found : Option DocumentMethod) (before : TextDocuments) (params : Data)
    (result : Option (Result DocumentUpdate UpdateFault)) (held now : TextDocuments)
    → Heard found before params result held → result ≡ None → now ≡ held → Applied found before params now
applied_other None before params result held now h e same = same ∙ h.1
applied_other (Some method) before params result held now h e same =
    absurd (subst (λ (r : Option (Result DocumentUpdate UpdateFault)). IsSomeAnd r (λ x. Answers method before params
    x held)) e h)

pub applied : (found : Option DocumentMethod) (before : TextDocuments) (params : Data)
    (result : Option (Result DocumentUpdate UpdateFault)) (heard : Result DocumentUpdate UpdateFault)
    (held now : TextDocuments) → Heard found before params result held → result ≡ Some heard
    → IfErr heard (λ missed. missed.fault ≡ Memory → ⊥) → now ≡ held → Applied found before params now
applied None before params result heard held now h e sure same = let no = sym h.0 ∙ e in absurd (cc (no))
applied (Some method) before params result heard held now h e sure same = (
  heard,
  subst (Answers method before params heard) (sym same)
      (subst (λ (r : Option (Result DocumentUpdate UpdateFault)). IsSomeAnd r (λ x. Answers method before params
      x held)) e h),
  sure,
)

-- the URI of a notification that was not applied
pub uri_of : (same missed : UpdateFault) (uri : Option (List ℕ)) → same ≡ missed
    → option_map (λ s. s.now) same.uri ≡ uri → option_map (λ s. s.now) missed.uri ≡ uri
uri_of same missed uri is are = ap (λ (m : UpdateFault). option_map (λ s. s.now) m.uri) (sym is) ∙ are

-- no notification of a document
pub hears_none : (found : Option DocumentMethod) (before : TextDocuments) (params : Data)
    (result : Option (Result DocumentUpdate UpdateFault)) (now : TextDocuments)
    → Heard found before params result now → result ≡ None → now ≡ before
hears_none None before params result now h e = h.1
hears_none (Some method) before params result now h e =
    absurd (subst (λ (r : Option (Result DocumentUpdate UpdateFault)). IsSomeAnd r (λ x. Answers method before params
    x now)) e h)

pub hears_made : (found : Option DocumentMethod) (before : TextDocuments) (params : Data)
    (result : Option (Result DocumentUpdate UpdateFault)) (m : DocumentUpdate) (now : TextDocuments)
    → Heard found before params result now → result ≡ Some (Ok m)
    → Touches (documents_of before) (documents_of now) (Some m.uri.now)
hears_made found before params result m now h e =
    let a = heard_as found before params result (Ok m) now h e in touched a.0 before now params m a.1

pub hears_missed : (found : Option DocumentMethod) (before : TextDocuments) (params : Data)
    (result : Option (Result DocumentUpdate UpdateFault)) (m : UpdateFault) (now : TextDocuments)
    → Heard found before params result now → result ≡ Some (Err m)
    → Touches (documents_of before) (documents_of now) (option_map (λ s. s.now) m.uri)
hears_missed found before params result m now h e =
    let a = heard_as found before params result (Err m) now h e in not_made a.0 before now params m a.1

pub if_ok_weaker : {A E : Type 0} (P Q : A → Type 0) (r : Result A E) → ((it : A) → P it → Q it) → IfOk r P → IfOk r Q
if_ok_weaker P Q (Ok it) so holds = so it holds
if_ok_weaker P Q (Err fault) so holds = tt

pub on_ok : {A E P : Type 0} (r : Result A E) → P → OnOk r P
on_ok (Ok it) holds = holds
on_ok (Err fault) holds = tt

module _ {P : Type 0} (same_payload : P → P → Bool) where
  abbrev seen : rust.Act P → Act P
  seen = act_view same_payload

  -- the acts of a call come after those before it
  abbrev pub Adds : (Act P → Type 0) → List (rust.Act P) → List (rust.Act P) → Type 0
  Adds such old new = (more : List (rust.Act P)) × (new ≡ old ++ more) × All such (map seen more)

  pub adds_none : (such : Act P → Type 0) (old : List (rust.Act P)) → Adds such old old
  adds_none such old = ([], sym (append-nil old), All-nil such)

  pub adds_then : (such : Act P → Type 0) (old mid new : List (rust.Act P)) → Adds such old mid → Adds such mid new
      → Adds such old new
  adds_then such old mid new first next = (
    first.0 ++ next.0,
    next.1 ∙ ap (λ (l : List (rust.Act P)). l ++ next.0) first.1 ∙ append_assoc old first.0 next.0,
    subst (All such) (sym (map-append seen first.0 next.0))
        (All-append such (map seen first.0) (map seen next.0) first.2 next.2),
  )

  -- what a call logs
  abbrev pub AddsLogs : (List (Act P) → Type 0) → List (rust.Act P) → List (rust.Act P) → Type 0
  AddsLogs such old new = (more : List (rust.Act P)) × (new ≡ old ++ more) × such (map seen more)

  pub one_line : (kind : ℕ) (text : Option (List ℕ)) (words : List ℕ) (act : rust.Act P)
      → IfSome text (λ it. words ≡ it)
      → ((number : ℕ) × (number ≡ kind) × (seen act ≡ tells log_method (message_params number words)))
      → LogsLine kind text (map seen (act ∷ []))
  one_line kind said words act is says = (
    words,
    is,
    ap (λ (a : Act P). a ∷ []) (says.2 ∙ ap (λ (number : ℕ). tells log_method (message_params number words)) says.1),
  )

  pub no_warning : (update : DocumentUpdate) (old : List (rust.Act P)) → update.warning ≡ None
      → AddsLogs (LogsWarning update) old old
  no_warning update old none = (
    [],
    sym (append-nil old),
    subst (λ (w : Option SyncWarning). MatchOption w (◌≡◌ {A = List (Act P)} [] [])
        (λ warning. LogsLine warning_type (update_text update) (map seen []))) (sym none) refl,
  )

  pub one_warning : (update : DocumentUpdate) (old new : List (rust.Act P)) (act : rust.Act P)
      → (update.warning ≡ None → ⊥) → new ≡ old ++ act ∷ []
      → LogsLine warning_type (update_text update) (map seen (act ∷ [])) → AddsLogs (LogsWarning update) old new
  one_warning update old new act some more line = (act ∷ [], more, at update.warning some)
    where
      at : (w : Option SyncWarning) → (w ≡ None → ⊥) → MatchOption w (map seen (act ∷ []) ≡ [])
          (λ warning. LogsLine warning_type (update_text update) (map seen (act ∷ [])))
      at None never = absurd (never refl)
      at (Some warning) never = line

  all_of_line : (kind : ℕ) (text : Option (List ℕ)) (acts : List (Act P)) → LogsLine kind text acts → All Logs acts
  all_of_line kind said acts logged =
      subst (All Logs) (sym logged.2)
      (All-cons Logs (tells log_method (message_params kind logged.0)) [] (kind, logged.0, refl) (All-nil Logs))

  log_of_update : (update : DocumentUpdate) (acts : List (Act P)) → LogsWarning update acts → All Logs acts
  log_of_update update acts logged = at update.warning logged
    where
      at : (w : Option SyncWarning) → MatchOption w (acts ≡ [])
          (λ warning. LogsLine warning_type (update_text update) acts) → All Logs acts
      at None none = subst (All Logs) (sym none) (All-nil Logs)
      at (Some warning) one = all_of_line warning_type (update_text update) acts one

  logs_all : (heard : Option (Result DocumentUpdate UpdateFault)) (acts : List (Act P)) → LogsHeard heard acts
      → All Logs acts
  logs_all None acts none = subst (All Logs) (sym none) (All-nil Logs)
  logs_all (Some (Ok update)) acts logged = log_of_update update acts logged
  logs_all (Some (Err missed)) acts logged = elim logged [
    | inl one ↦ all_of_line error_type (update_fault_text missed) acts one
    | inr none ↦ subst (All Logs) (sym none.0) (All-nil Logs)
  ]

  -- each of the acts at a notification logs or clears
  pub logs_or_clears : (before : TextDocuments) (method : List ℕ) (params : Data) (now : TextDocuments)
      (acts : List (Act P)) → Reports before method params now acts → All (LogsOrClears (documents_of now)) acts
  logs_or_clears before method params now acts reports =
      subst (All (LogsOrClears (documents_of now))) (sym reports.are)
      (All-append (LogsOrClears (documents_of now)) reports.logs reports.clears
      (All-weaker Logs (LogsOrClears (documents_of now)) (λ act is. inl is) reports.logs
      (logs_all reports.heard reports.logs reports.logged))
      (All-weaker (Clears (documents_of now)) (LogsOrClears (documents_of now)) (λ act is. inr is) reports.clears
      reports.cleared))

  -- first what is logged, and then what is removed
  pub logged_and_cleared : {A E : Type 0} (r : Result A E) (before : TextDocuments) (method : List ℕ) (params : Data)
      (heard : Option (Result DocumentUpdate UpdateFault)) (applied held now : TextDocuments)
      (old mid new : List (rust.Act P))
      → Heard (method_named method) before params heard applied → held ≡ applied → now ≡ held → old ≡ []
      → AddsLogs (LogsHeard heard) old mid → OnOk r (Adds (Clears (documents_of held)) mid new)
      → OnOk r (Reports before method params now (map seen new))
  logged_and_cleared r before method params heard applied held now old mid new is kept same none logs =
      on_ok_weaker r (λ did. record {
        heard = heard;
        answers = subst (Heard (method_named method) before params heard) (sym (same ∙ kept)) is;
        logs = map seen logs.0;
        clears = map seen did.0;
        are = ap (map seen) (did.1 ∙ ap (λ (l : List (rust.Act P)). l ++ did.0)
            (logs.1 ∙ ap (λ (l : List (rust.Act P)). l ++ logs.0) none)) ∙ map-append seen logs.0 did.0;
        logged = logs.2;
        cleared = subst (λ (d : TextDocuments). All (Clears (documents_of d)) (map seen did.0)) (sym same) did.2;
      })

  -- only what is logged
  pub logged_alone : (before : TextDocuments) (method : List ℕ) (params : Data)
      (heard : Option (Result DocumentUpdate UpdateFault)) (applied now : TextDocuments) (old new : List (rust.Act P))
      → Heard (method_named method) before params heard applied → now ≡ applied → old ≡ []
      → AddsLogs (LogsHeard heard) old new → Reports before method params now (map seen new)
  logged_alone before method params heard applied now old new is same none logs = record {
    heard = heard;
    answers = subst (Heard (method_named method) before params heard) (sym same) is;
    logs = map seen logs.0;
    clears = [];
    are = ap (map seen) (logs.1 ∙ ap (λ (l : List (rust.Act P)). l ++ logs.0) none)
        ∙ sym (append-nil (map seen logs.0));
    logged = logs.2;
    cleared = All-nil (Clears (documents_of now));
  }

  -- what is removed, and nothing before it
  pub only_cleared : (held now : TextDocuments) (old new : List (rust.Act P)) → old ≡ [] → now ≡ held
      → Adds (Clears (documents_of held)) old new → All (Clears (documents_of now)) (map seen new)
  only_cleared held now old new none same did =
      subst (λ (x : List (Act P) × TextDocuments). All (Clears (documents_of x.1)) x.0)
      (λ k. (sym (ap (map seen) (did.1 ∙ ap (λ (l : List (rust.Act P)). l ++ did.0) none)) k, sym same k)) did.2

  -- that each text is lost is logged first
  pub lost_and_cleared : (held now : TextDocuments) (old mid new : List (rust.Act P)) (log : rust.Act P) → old ≡ []
      → mid ≡ old ++ log ∷ [] → now ≡ held
      → ((kind : ℕ) × (kind ≡ error_type) × (seen log ≡ tells log_method (message_params kind all_lost)))
      → Adds (Clears (documents_of held)) mid new → LogsAndClears (documents_of now) (map seen new)
  lost_and_cleared held now old mid new log none one same says did =
      let all : new ≡ log ∷ did.0 =
      did.1 ∙ ap (λ (l : List (rust.Act P)). l ++ did.0) (one ∙ ap (λ (l : List (rust.Act P)). l ++ log ∷ []) none) in (
        map seen did.0,
        ap (map seen) all ∙ ap (λ (act : Act P). act ∷ map seen did.0) (says.2
            ∙ ap (λ (kind : ℕ). tells log_method (message_params kind all_lost)) says.1),
        subst (λ (d : TextDocuments). All (Clears (documents_of d)) (map seen did.0)) (sym same) did.2,
      )
