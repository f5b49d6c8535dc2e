-- Through the turns of a server, each analysis under a key is of its document as it is then.
use Rattle.serde_json.specs.Data.{Data}
use Rattle.std.proofs.Common.{◌≡◌, refl, sym, ◌∙◌, ap, subst, inl, inr, ℕ, List, [], ◌∷◌, ◌++◌, append_assoc}
use Rattle.std.proofs.Common.{append-nil, Bool, true, false, Option, Some, None, string_bytes}
use Rattle.std.specs.Bool.{MatchBool}
use Rattle.std.specs.Prelude.{map as map_list, ℤ, IsSomeAnd}
use Rattle.lsp_acts.specs.Acts.{Act, TakesBack, tells, asks, replies, cancels}
use Rattle.lsp_acts.specs.Law.{AnswersInitialize, Initializes}
use Rattle.lsp_acts.specs.declared.server.Server.{Ghosts as Plain}
use Rattle.lsp_documents.specs.Held.{documents_of}
use Rattle.lsp_documents.specs.Notices.{Documents}
use Rattle.lsp_documents.specs.Sessions.{HasNone}
use Rattle.lsp_documents.specs.declared.documents.TextDocuments.{TextDocuments}
use Rattle.lsp_documents.specs.declared.known.DocumentSnapshot.{DocumentSnapshot}
use Rattle.lsp_jobs.specs.Asking.{by_server, of_job}
use Rattle.lsp_jobs.specs.Ends.{Came, ComesTo, End, Outcome, end_of, ended, found, gave, gave_up, out_of_memory}
use Rattle.lsp_jobs.specs.Ends.{reply_of}
use Rattle.lsp_jobs.specs.JobLaw.{AnswersByJobs}
use Rattle.lsp_jobs.specs.KeyedJobLaw.{AllLeaveAlone, AreTurns, IsCalled, IsLeft, IsTurn, LastStart, LeavesAlone, Left}
use Rattle.lsp_jobs.specs.KeyedJobLaw.{MayPass, SeesLeft, Stands, StartsLast, Turn, WakeDoes, at_ends}
use Rattle.lsp_jobs.specs.Pooled.{reply_at}
use Rattle.lsp_jobs.specs.Stated.{SeesEnd, StatedJobs}
use Rattle.lsp_jobs.specs.declared.asking.RequestOrigin.{RequestOrigin}
use Rattle.lsp_jobs.specs.declared.job_server.JobCommand.{JobCommand}
use Rattle.lsp_jobs.specs.declared.job_server.JobEnd.TheVariants.{Cancelled, Done, Failed}
use Rattle.lsp_jobs.specs.declared.names.JobName.{JobName}
use Rattle.lsp_jobs.specs.declared.names.JobName.TheVariants.{Request, Keyed}
use Rattle.lsp_message.specs.Id.{Id, text}
use Rattle.lsp_message.specs.Message.{Message, request, notification, response}
use Rattle.lsp_message.specs.Methods.{is_initialize}
use Rattle.lsp_session.specs.Session.{Exchange, Stop as StopOfSession, offered}
use Rattle.lsp_text.specs.Documents.{Document}
use Rattle.lsp_text.specs.Lines.{LinedText}
use Rattle.lsp_types.specs.declared.diagnostics.Diagnostic.{Diagnostic}
use Rattle.lsp_diagnostics.proofs.Heard.{follow_none, follow_same, still}
use Rattle.lsp_diagnostics.proofs.Kept.{opened}
use Rattle.lsp_diagnostics.proofs.Lists.{not_empty, only, place, some_and}
use Rattle.lsp_diagnostics.proofs.Sends.{by_an_act}
use Rattle.lsp_diagnostics.specs.Followed.{Follow, IsCopyOf, IsCurrent, known, shows}
use Rattle.lsp_diagnostics.specs.Shown.{FollowsIn, ShowsFindings, ShowsHeld, ShowsOpenTexts, shows_method}
use Rattle.lsp_diagnostics.specs.declared.findings.Findings.{Findings}

-- what is told is what the server told
told : {P : Type 0} (method : List ℕ) (params : Data) (act : Act P)
    → ◌≡◌ {A = Act (RequestOrigin P)} (tells method params) (by_server act) → act ≡ tells method params
told method params (tells m p) e = cc (e)
told method params (asks m p payload) e = absurd (cc (e))
told method params (replies id outcome) e = absurd (cc (e))
told method params (cancels z) e = absurd (cc (e))

-- nothing was done before no reply
none_told : {P : Type 0} {acts : List (Act (RequestOrigin P))} (first : List (Act P)) → first ≡ []
    → acts ≡ map_list by_server (first ++ []) → acts ≡ []
none_told first none all = all ∙ ap (λ l. map_list by_server (l ++ [])) none

abbrev params_in : {P : Type 0} → Data → Act P → Data
params_in other (tells method params) = params
params_in other act = other

-- what an act shows does not depend on what the server keeps with its requests
as_told : {P : Type 0} (uri : List ℕ) (version : Option ℤ) (diagnostics : List Data) (params : Data)
    → ◌≡◌ {A = Act P} (tells shows_method params) (shows uri version diagnostics)
    → ◌≡◌ {A = Act (Unit {0})} (tells shows_method params) (shows uri version diagnostics)
as_told {P} uri version diagnostics params e =
    ap (λ (p : Data). tells shows_method p) (ap (λ (act : Act P). params_in params act) e)

-- what a job analyses is one text
same_source : {A : Type 0} (o : Option A) (Q : A → Type 0) (x : A) → IsSomeAnd o Q → o ≡ Some x → Q x
same_source {A} o Q x q e = subst (λ (p : Option A). IsSomeAnd p Q) e q

module _ {S J P : Type 0} (documents : S → TextDocuments) (commands : S → List (JobCommand J))
    (written : Diagnostic → Data) (are : LinedText → List Data → Type 0) (source : J → Option DocumentSnapshot)
    (plain : Plain S P) (may : StatedJobs S J Findings P) where
  -- each job under a key analyses its document
  abbrev Right : List (Turn plain may) → Documents → Type 0
  Right turns held = (key : Id) (job : J) → LastStart plain may turns key job → IsCurrent source held key job

  alone_last : (key : Id) (rest : List (Turn plain may)) (t : Turn plain may)
      → AllLeaveAlone plain may key (rest ++ t ∷ [])
      → AllLeaveAlone plain may key rest × LeavesAlone key t.changes
  alone_last key [] t all = (tt, all.0)
  alone_last key (x ∷ rest) t all =
      let more = alone_last key rest t all.1 in ((all.0, more.0), more.1)

  right_on : (before now : Documents) (earlier : List (Turn plain may)) (t : Turn plain may) → Right earlier before
      → Follow source before t.changes now → Right (earlier ++ t ∷ []) now
  right_on before now earlier t right follow key job last =
      elim (place earlier last.before last.since t last.turn last.cut) [
        | inl here ↦ follow.started key job
            (subst (λ (x : Turn plain may). StartsLast x.changes key job) here.1 last.started)
        | inr there ↦
            let alone = alone_last key there.0 t (subst (AllLeaveAlone plain may key) there.1 last.alone) in
            still source before now t.changes key job follow alone.1 (right key job (record {
              before = last.before;
              turn = last.turn;
              since = there.0;
              cut = there.2;
              started = last.started;
              alone = alone.0;
            }))
      ]

  follow_as : (before : Documents) (changes changed : List (JobCommand J)) (held kept : TextDocuments)
      → Follow source before changes (documents_of held) → changed ≡ changes → kept ≡ held
      → Follow source before changed (documents_of kept)
  follow_as before changes changed held kept follow same are =
      subst (λ (x : List (JobCommand J) × TextDocuments). Follow source before x.0 (documents_of x.1))
      (λ k. (sym same k, sym are k)) follow

  -- where no command was left before
  from_none : (old new : S) → commands old ≡ [] → FollowsIn documents commands source old new
      → Follow source (documents_of (documents old)) (commands new) (documents_of (documents new))
  from_none old new none follow =
      follow (documents_of (documents old)) (follow_none source (documents_of (documents old)) (commands old) none)

  -- neither the documents nor the commands change
  abbrev KeepsBoth : S → S → Type 0
  KeepsBoth old new = (documents new ≡ documents old) × (commands new ≡ commands old)

  keeps : (a b c : S) → KeepsBoth a b → KeepsBoth b c
      → KeepsBoth a c
  keeps a b c first next = (next.0 ∙ first.0, next.1 ∙ first.1)

  keeps_as : (a b : S) → b ≡ a → KeepsBoth a b
  keeps_as a b same = (ap documents same, ap commands same)

  module _ (states : ShowsFindings documents commands written are source plain may) where
    -- the end of a job changes neither
    same_at_end : (old : S) (name : JobName) (end : End Findings) (acts : List (Act P)) (new : S)
        → SeesEnd may old name end acts new → KeepsBoth old new
    same_at_end old name (found it) acts new saw =
        (states.keeps.finds old name it acts new saw, (states.finds old name it acts new saw).1)
    same_at_end old name (ended end) acts new saw =
        (states.keeps.ends old name end acts new saw, (states.ends old name end acts new saw).1)

    called_follow : (old : S) (came : Option Message) (at : Option JobName) (acts : List (Act P)) (now : S)
        → IsCalled plain may old came at acts now → FollowsIn documents commands source old now
    called_follow old (Some (request id method params)) at acts now itself =
        states.requested old id method params acts now itself.1
    called_follow old (Some (notification method params)) at acts now heard = elim heard.0 [
      | inl does ↦ states.notified old method params acts now does
      | inr began ↦ states.begins old acts now began.1
    ]
    called_follow old (Some (response id outcome)) at acts now replied =
        states.replied old replied.0 outcome acts now replied.1
    called_follow old None at acts now e =
        let same = same_at_end old e.0 (end_of e.1) e.2 now e.3 in
        follow_same source (commands old) (commands now) (documents old) (documents now) same.0 same.1

    sees : (made : S) (left : List (Left may)) (new : S) → SeesLeft plain may made left new
        → KeepsBoth made new
    sees made [] new same = keeps_as made new same
    sees made (l ∷ ls) new all =
        keeps made l.old new (keeps_as made l.old all.0)
        (keeps l.old l.new new (same_at_end l.old (Keyed l.key) l.end l.acts l.new l.saw) (sees l.new ls new all.1))

    taken : (payloads : List P) (old new : S) → TakesBack plain.ids_exhausted_post old payloads new
        → KeepsBoth old new
    taken [] old new same = keeps_as old new same
    taken (payload ∷ payloads) old new back =
        keeps old back.0 new
        (states.keeps.took_back old payload back.0 back.1, states.took_back old payload back.0 back.1)
        (taken payloads back.0 new back.2)

    -- before a turn no command is left to be taken, and each job under a key is right
    record Good (earlier : List (Turn plain may)) (now : S) : Type 0 where
      none : commands now ≡ []
      right : Right earlier (documents_of (documents now))

    good_as : (earlier : List (Turn plain may)) (old new : S) → KeepsBoth old new → Good earlier old
        → Good earlier new
    good_as earlier old new same good = record {
      none = same.1 ∙ good.none;
      right = subst (λ (d : TextDocuments). Right earlier (documents_of d)) (sym same.0) good.right;
    }

    good_on : (earlier : List (Turn plain may)) (t : Turn plain may) → Good earlier t.old → IsTurn plain may t
        → Good (earlier ++ t ∷ []) t.new
    good_on earlier t good (inl did) =
        let gave = states.commanded t.asked t.changes t.made did.2 in
        let kept = states.keeps.commanded t.asked t.changes t.made did.2 in
        let same = sees t.made t.left t.new did.3 in
        let follow = from_none t.old t.asked good.none
        (called_follow t.old t.call.came t.heard did.0 t.asked did.1) in
        record {
          none = same.1 ∙ gave.1;
          right = right_on (documents_of (documents t.old)) (documents_of (documents t.new)) earlier t good.right
              (follow_as (documents_of (documents t.old)) (commands t.asked) t.changes (documents t.asked)
              (documents t.new) follow gave.0 (same.0 ∙ kept));
        }
    good_on earlier t good (inr passed) =
        let same = keeps_as t.old t.new passed.3 in
        record {
          none = same.1 ∙ good.none;
          right = right_on (documents_of (documents t.old)) (documents_of (documents t.new)) earlier t good.right
              (follow_as (documents_of (documents t.old)) t.changes t.changes (documents t.old) (documents t.new)
              (follow_none source (documents_of (documents t.old)) t.changes passed.1) refl same.0);
        }

    -- the same after all these turns
    good_all : (start last : S) (earlier turns : List (Turn plain may)) → Good earlier start
        → AreTurns plain may start turns last → Good (earlier ++ turns) last
    good_all start last earlier [] good are_turns =
        subst (λ (l : List (Turn plain may)). Good l last) (sym (append-nil earlier))
        (good_as earlier start last (taken are_turns.0 start last are_turns.1) good)
    good_all start last earlier (x ∷ turns) good are_turns =
        subst (λ (l : List (Turn plain may)). Good l last) (append_assoc earlier (x ∷ []) turns)
        (good_all x.new last (earlier ++ x ∷ []) turns
        (good_on earlier x
        (good_as earlier start x.old (taken are_turns.0.0 start x.old are_turns.0.1) good) are_turns.1) are_turns.2)

    nothing_left : (left : List (Left may)) → at_ends may left ≡ []
    nothing_left [] = refl
    nothing_left (l ∷ ls) =
        ap (λ (acts : List (Act P)). acts ++ at_ends may ls) (none l.end l.is_left l.saw) ∙ nothing_left ls
      where
        none : (end : End Findings) → IsLeft end → SeesEnd may l.old (Keyed l.key) end l.acts l.new → l.acts ≡ []
        none (found it) is saw = absurd is
        none (ended end) is saw = (states.ends l.old (Keyed l.key) end l.acts l.new saw).0

    -- a notification at a wake-up that shows diagnostics, after these turns
    module _ (t : Turn plain may) (earlier : List (Turn plain may)) (good : Good earlier t.old)
        (before after : List (Act (RequestOrigin P))) (params : Data)
        (at : t.call.acts ≡ before ++ tells shows_method params ∷ after) where
      abbrev Held : Type 0
      Held = ShowsHeld are {P = P} (documents_of (documents t.old)) (tells shows_method params)

      silent : t.call.acts ≡ [] → Held
      silent nothing = absurd (not_empty before after (tells shows_method params) (sym nothing ∙ at))

      published : (key : Id) (job : J) (reply : Option Outcome) (it : Findings)
          → LastStart plain may earlier key job → may.run_post job reply (Some it)
          → t.call.acts ≡ by_server (shows (string_bytes it.source.uri) it.source.version
          (map_list written it.diagnostics.items)) ∷ [] → Held
      published key job reply it stands ran all =
          let act : Act P = shows (string_bytes it.source.uri) it.source.version
          (map_list written it.diagnostics.items) in
          let ran_as = states.runs job reply it ran in
          let held = same_source (source job) (λ copy. (key ≡ text (string_bytes copy.uri))
          × IsSomeAnd (known (documents_of (documents t.old)) (string_bytes copy.uri)) (IsCopyOf copy)) it.source
          (good.right key job stands) ran_as.0 in
          let current = some_and (IsCopyOf it.source)
          (known (documents_of (documents t.old)) (string_bytes it.source.uri)) held.1 in
          let same = told shows_method params act
          (only before after (tells shows_method params) (by_server act) (sym all ∙ at)) in
          record {
            uri = string_bytes it.source.uri;
            document = current.0;
            held = current.1;
            diagnostics = map_list written it.diagnostics.items;
            are_its = subst (λ (x : LinedText). are x (map_list written it.diagnostics.items)) current.2.text ran_as.1;
            shown = sym same ∙ (λ k. shows (string_bytes it.source.uri) (current.2.version k)
                (map_list written it.diagnostics.items));
          }

      -- a reply shows nothing
      replied : (id : Id) (came : Came Findings) (first : List (Act P)) → first ≡ []
          → t.call.acts ≡ map_list by_server (first ++ reply_at (Request id) came) → Held
      replied id came first none all =
          let one : t.call.acts ≡ by_server (replies id (reply_of came)) ∷ [] =
          all ∙ ap (λ (l : List (Act P)). map_list by_server (l ++ reply_at (Request id) came)) none in
          let wrong = only before after (tells shows_method params) (by_server (replies id (reply_of came)))
          (sym one ∙ at) in
          absurd (cc (wrong))

      says : (name : JobName) (job : J) (came : Came Findings) (first : List (Act P)) (new : S)
          → Stands plain may earlier name job → ComesTo may.run_post job came
          → SeesEnd may t.old name (end_of came) first new
          → t.call.acts ≡ map_list by_server (first ++ reply_at name came) → Held
      says (Keyed key) job (gave reply (Some it)) first new stands comes saw all =
          published key job reply it stands.last comes
          (all ∙ ap (λ (acts : List (Act P)). map_list by_server (acts ++ []))
          (states.finds t.old (Keyed key) it first new saw).0)
      says (Keyed key) job (gave reply None) first new stands comes saw all =
          silent (none_told first (states.ends t.old (Keyed key) Done first new saw).0 all)
      says (Keyed key) job out_of_memory first new stands comes saw all =
          silent (none_told first (states.ends t.old (Keyed key) Failed first new saw).0 all)
      says (Keyed key) job gave_up first new stands comes saw all =
          silent (none_told first (states.ends t.old (Keyed key) Cancelled first new saw).0 all)
      says (Request id) job (gave reply (Some it)) first new stands comes saw all =
          let none = states.answers job stands.method stands.params stands.is_given.2 in
          let no : None ≡ Some it.source = sym none ∙ (states.runs job reply it comes).0 in absurd (cc (no))
      says (Request id) job (gave reply None) first new stands comes saw all =
          replied id (gave reply None) first (states.ends t.old (Request id) Done first new saw).0 all
      says (Request id) job out_of_memory first new stands comes saw all =
          replied id out_of_memory first (states.ends t.old (Request id) Failed first new saw).0 all
      says (Request id) job gave_up first new stands comes saw all =
          replied id gave_up first (states.ends t.old (Request id) Cancelled first new saw).0 all

      -- a job that reports shows no diagnostics
      reported : (job : J) (method : List ℕ) (others : Data) → may.reports job method others
          → t.call.acts ≡ tells method others ∷ [] → Held
      reported job method others may_report all =
          let same : tells shows_method params ≡ tells method others = only before after (tells shows_method params)
          (tells method others) (sym all ∙ at) in
          let its : method ≡ shows_method = cc (same) in
          absurd (states.reports job others (subst (λ (m : List ℕ). may.reports job m others) its may_report))

      shows_held : WakeDoes plain may earlier t → Held
      shows_held (inl nothing) = silent nothing.0
      shows_held (inr (inl w)) = elim w.3 [
        | inl r ↦ reported w.1 r.0 r.1 r.2 r.3
        | inr more ↦ elim more [
          | inl a ↦
              let wrong = only before after (tells shows_method params) _ (sym a.4 ∙ at) in absurd (cc (wrong))
          | inr o ↦ says w.0 w.1 o.0 o.1 t.asked w.2 o.2 o.3
              (o.4 ∙ ap (λ (l : List (Act P)). map_list by_server ((o.1 ++ reply_at w.0 o.0) ++ l))
              (nothing_left t.left)
              ∙ ap (map_list by_server) (append-nil (o.1 ++ reply_at w.0 o.0)))
        ]
      ]
      shows_held (inr (inr c)) =
          let one : tells shows_method params ≡ cancels (of_job c.0) = only before after (tells shows_method params)
          (cancels (of_job c.0)) (sym c.1 ∙ at) in
          absurd (cc (one))

    -- at the result of `initialize` no command is left to be taken
    fresh_start : (early : List Exchange) (old start : S) → commands old ≡ []
        → AnswersInitialize plain old early start → commands start ≡ []
    fresh_start [] old start fresh same = ap commands same ∙ fresh
    fresh_start (x ∷ early) old start fresh run = fresh_start early run.0 start (at x.came run.1) run.2
      where
        by : (b : Bool) (m : Message) → MatchBool b (Initializes plain old m (offered x) run.0) (run.0 ≡ old)
            → commands run.0 ≡ []
        by true m i = states.initializes old i.params i.outcome run.0 i.gave ∙ fresh
        by false m same = ap commands same ∙ fresh

        at : (came : Option Message)
            → IsSomeAnd came (λ m. MatchBool (is_initialize m) (Initializes plain old m (offered x) run.0)
            (run.0 ≡ old)) → commands run.0 ≡ []
        at None never = absurd never
        at (Some m) answered = by (is_initialize m) m answered

    -- by what a law of `lsp_jobs` says of each wake-up
    pub all_shown : (first : S) (stop : StopOfSession) (exchanges : List Exchange) → commands first ≡ []
        → HasNone (documents first) → AnswersByJobs plain may first stop exchanges → ShowsOpenTexts are exchanges
    all_shown first stop exchanges none empty jobs earlier later x before after params cut woken sent =
        let w = (jobs earlier later x cut woken).0 in
        let led = w.led in
        let good : Good w.turns w.turn.old = good_all led.start w.turn.old [] w.turns (record {
          none = fresh_start led.early first led.start none led.initialized;
          right = λ key job last. absurd (not_empty last.before last.since last.turn last.cut);
        }) led.linked in
        let has = by_an_act w.turn.call.acts w.sent.0 params before (after ++ w.lost)
        (w.sent.1 ∙ ap (λ (l : List Message). l ++ w.lost) sent
        ∙ append_assoc before (notification shows_method params ∷ after) w.lost) in
        let shown = shows_held w.turn w.turns good has.0 has.1 params has.2 w.does in
        record {
          documents = documents w.turn.old;
          opened = opened documents plain may states.keeps first earlier w.turns w.turn.old empty led;
          shown = record {
            uri = shown.uri;
            document = shown.document;
            held = shown.held;
            diagnostics = shown.diagnostics;
            are_its = shown.are_its;
            shown = as_told shown.uri shown.document.version shown.diagnostics params shown.shown;
          };
        }
