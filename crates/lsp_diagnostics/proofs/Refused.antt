-- Runs that the laws refuse: an answer from the texts after the request, the answer to another request, diagnostics of
-- a text that was lost, and a loss that was not logged.
use Rattle.serde_json.specs.Data.{Data, array, string}
use Rattle.serde_json.specs.Find.{get}
use Rattle.serde_json.specs.View.{items_of}
use Rattle.std.proofs.Common.{◌≡◌, ◌⊎◌, refl, sym, ◌∙◌, ap, subst, inl, inr, ℕ, true, false, List, [], ◌∷◌, ◌++◌}
use Rattle.std.proofs.Common.{Option, Some, None, codes}
use Rattle.std.specs.Prelude.{map, ℤ, Ok}
use Rattle.lsp_acts.specs.Acts.{Act, tells}
use Rattle.lsp_documents.specs.Held.{documents_of, texts_of}
use Rattle.lsp_documents.specs.Notices.{MissesAll}
use Rattle.lsp_documents.specs.declared.documents.TextDocuments.{TextDocuments}
use Rattle.lsp_jobs.specs.Ends.{Outcome}
use Rattle.lsp_jobs.specs.JobLaw.{IsQuiet, LastRequest}
use Rattle.lsp_jobs.specs.KeyedJobLaw.{concerns}
use Rattle.lsp_message.specs.Id.{Id}
use Rattle.lsp_message.specs.IdLaws.{id_decides}
use Rattle.lsp_message.specs.Message.{Message, request, notification, response}
use Rattle.lsp_session.specs.Session.{Exchange, offered}
use Rattle.lsp_text.specs.Documents.{Document}
use Rattle.lsp_text.specs.Lines.{LinedText}
use Rattle.lsp_types.specs.Json as json
use Rattle.lsp_diagnostics.proofs.Heard.{none_known}
use Rattle.lsp_diagnostics.specs.Answered.{AnswersFromOpenTexts, AnswersLast, AnswersOrFails}
use Rattle.lsp_diagnostics.specs.Applied.{Hears, Opened, SendsLost}
use Rattle.lsp_diagnostics.specs.Followed.{known, shows}
use Rattle.lsp_diagnostics.specs.Shown.{ShowsOpenTexts, shows_method}

-- ---- which request is the last under its id

-- two places in a list: they are one, or one follows the other
two_places : {A : Type 0} (before since others more : List A) (x y : A) → before ++ x ∷ since ≡ others ++ y ∷ more
    → ((before ≡ others) × (x ≡ y))
    ⊎ (((some : List A) × (rest : List A) × (since ≡ some ++ y ∷ rest))
    ⊎ ((some : List A) × (rest : List A) × (more ≡ some ++ x ∷ rest)))
two_places [] since [] more x y e = inl (refl, cc (e))
two_places [] since (b ∷ others) more x y e = inr (inl (others, more, cc (e)))
two_places (a ∷ before) since [] more x y e =
    let is : before ++ x ∷ since ≡ more = cc (e) in inr (inr (before, since, sym is))
two_places (a ∷ before) since (b ∷ others) more x y e =
    let same : a ≡ b = cc (e) in
    let rest : before ++ x ∷ since ≡ others ++ y ∷ more = cc (e) in
    elim (two_places before since others more x y rest) [
      | inl one ↦ inl ((λ k. same k ∷ one.0 k), one.1)
      | inr later ↦ inr later
    ]

quiet_there : (id : Id) (some rest : List Exchange) (x : Exchange) → IsQuiet id (some ++ x ∷ rest)
    → concerns id x.came ≡ false
quiet_there id [] rest x quiet = quiet.0
quiet_there id (y ∷ some) rest x quiet = quiet_there id some rest x quiet.2

asks_again : (id : Id) (method : List ℕ) (params : Data) (since some rest : List Exchange) (x : Exchange)
    → IsQuiet id since → since ≡ some ++ x ∷ rest → x.came ≡ Some (request id method params) → ⊥
asks_again id method params since some rest x quiet there came =
    let no : true ≡ false =
    sym ((id_decides id id).1 refl) ∙ sym (ap (concerns id) came)
    ∙ quiet_there id some rest x (subst (IsQuiet id) there quiet) in
    absurd (cc (no))

module _ (answers : List (List ℕ × LinedText) → List ℕ → Data → Outcome → Type 0)
    (earlier before since : List Exchange) (asking : Exchange) (id : Id) (method : List ℕ) (params : Data)
    (cut : earlier ≡ before ++ asking ∷ since) (came : asking.came ≡ Some (request id method params))
    (quiet : IsQuiet id since) where
  -- a reply answers this request, which is the last under the id, from the texts that were open as it arrived
  answers_this : (outcome : Outcome) → AnswersLast answers earlier id outcome
      → (documents : TextDocuments) × Opened before documents
      × AnswersOrFails answers (texts_of documents) method params outcome
  answers_this outcome last =
      elim (two_places before since last.last.before last.last.since asking last.last.asking
      (sym cut ∙ last.last.cut)) [
        | inl one ↦
            let same : ◌≡◌ {A = Option Message} (Some (request id last.method last.params))
            (Some (request id method params)) =
            sym last.last.came ∙ ap (λ (x : Exchange). x.came) (sym one.1) ∙ came in
            let of_method : last.method ≡ method = cc (same) in
            let of_params : last.params ≡ params = cc (same) in (
              last.documents,
              subst (λ (l : List Exchange). Opened l last.documents) (sym one.0) last.opened,
              subst (λ (y : List ℕ × Data). AnswersOrFails answers (texts_of last.documents) y.0 y.1 outcome)
                  (λ k. (of_method k, of_params k)) last.answered,
            )
        | inr other ↦ elim other [
          | inl later ↦ absurd (asks_again id last.method last.params since later.0 later.1 last.last.asking quiet
              later.2 last.last.came)
          | inr sooner ↦ absurd (asks_again id method params last.last.since sooner.0 sooner.1 asking last.last.quiet
              sooner.2 came)
        ]
      ]

  -- A reply has an outcome that the request may not have from these texts, and these were open as the request arrived.
  from_other_texts : (texts : List (List ℕ × LinedText)) (outcome : Outcome)
      → ((documents : TextDocuments) → Opened before documents → texts_of documents ≡ texts)
      → (AnswersOrFails answers texts method params outcome → ⊥) → AnswersLast answers earlier id outcome → ⊥
  from_other_texts texts outcome were_open wrong last =
      let this = answers_this outcome last in
      wrong (subst (λ (t : List (List ℕ × LinedText)). AnswersOrFails answers t method params outcome)
      (were_open this.0 this.1) this.2)

-- the answer is a list of the texts
abbrev lists : List (List ℕ × LinedText) → List ℕ → Data → Outcome → Type 0
lists texts method params outcome =
    outcome ≡ Ok (array (items_of (map (λ (t : List ℕ × LinedText). string t.1.bytes) texts)))

-- the answer has the params of the request
abbrev repeats : List (List ℕ × LinedText) → List ℕ → Data → Outcome → Type 0
repeats texts method params outcome = outcome ≡ Ok params

-- No text is open as the request arrives. Then one is opened, and the reply lists it.
from_a_later_text : (earlier before since later : List Exchange) (asking x : Exchange) (id : Id) (method : List ℕ)
    (params text : Data) → earlier ≡ before ++ asking ∷ since → asking.came ≡ Some (request id method params)
    → IsQuiet id since → ((documents : TextDocuments) → Opened before documents → texts_of documents ≡ [])
    → x.came ≡ None → offered x ≡ response id (Ok (array (items_of (text ∷ [])))) ∷ []
    → AnswersFromOpenTexts lists (earlier ++ x ∷ later) → ⊥
from_a_later_text earlier before since later asking x id method params text cut came quiet none woken sent law =
    from_other_texts lists earlier before since asking id method params cut came quiet []
    (Ok (array (items_of (text ∷ [])))) none wrong
    (law earlier later x [] [] id (Ok (array (items_of (text ∷ [])))) refl woken sent)
  where
    wrong : AnswersOrFails lists [] method params (Ok (array (items_of (text ∷ [])))) → ⊥
    wrong (inl is) = absurd (cc (is))
    wrong (inr (inl is)) = absurd (cc (is))
    wrong (inr (inr is)) = absurd (cc (is))

-- the reply has the params of another request
to_another_request : (earlier before since later : List Exchange) (asking x : Exchange) (id : Id) (method : List ℕ)
    (params others : Data) → earlier ≡ before ++ asking ∷ since → asking.came ≡ Some (request id method params)
    → IsQuiet id since → (others ≡ params → ⊥) → x.came ≡ None → offered x ≡ response id (Ok others) ∷ []
    → AnswersFromOpenTexts repeats (earlier ++ x ∷ later) → ⊥
to_another_request earlier before since later asking x id method params others cut came quiet differ woken sent law =
    let this = answers_this repeats earlier before since asking id method params cut came quiet (Ok others)
    (law earlier later x [] [] id (Ok others) refl woken sent) in
    wrong (texts_of this.0) this.2
  where
    wrong : (texts : List (List ℕ × LinedText)) → AnswersOrFails repeats texts method params (Ok others) → ⊥
    wrong texts (inl is) = differ (cc (is))
    wrong texts (inr (inl is)) = absurd (cc (is))
    wrong texts (inr (inr is)) = absurd (cc (is))

-- ---- diagnostics

-- the URI that diagnostics are shown for
abbrev uri_in : {P : Type 0} → Act P → Option Data
uri_in (tells method params) = get (codes "uri") params
uri_in act = None

shown_uri : (P : Type 0) (uri : List ℕ) (version : Option ℤ) (diagnostics : List Data)
    → uri_in (shows {P = P} uri version diagnostics) ≡ Some (string uri)
unfolding json.with_member
shown_uri P uri None diagnostics = refl
shown_uri P uri (Some version) diagnostics = refl

-- At a wake-up diagnostics are shown for a URI whose text is not known: it was lost, or closed, or never opened.
of_an_unknown_text : (are : LinedText → List Data → Type 0) (earlier later : List Exchange) (x : Exchange)
    (uri : List ℕ) (version : Option ℤ) (diagnostics : List Data) (params : Data)
    → ((documents : TextDocuments) → Opened earlier documents → known (documents_of documents) uri ≡ None)
    → x.came ≡ None → offered x ≡ notification shows_method params ∷ []
    → ◌≡◌ {A = Act (Unit {0})} (tells shows_method params) (shows uri version diagnostics)
    → ShowsOpenTexts are (earlier ++ x ∷ later) → ⊥
of_an_unknown_text are earlier later x uri version diagnostics params gone woken sent says law =
    let is = law earlier later x [] [] params refl woken sent in
    let named : ◌≡◌ {A = Option Data} (Some (string uri)) (Some (string is.shown.uri)) =
    sym (shown_uri (Unit {0}) uri version diagnostics) ∙ ap uri_in (sym says ∙ is.shown.shown)
    ∙ shown_uri (Unit {0}) is.shown.uri is.shown.document.version is.shown.diagnostics in
    let same : uri ≡ is.shown.uri = cc (named) in
    let no : ◌≡◌ {A = Option Document} None (Some is.shown.document) =
    sym (gone is.documents is.opened) ∙ ap (known (documents_of is.documents)) same ∙ is.shown.held in
    absurd (cc (no))

-- so it is where all texts were lost just before
of_a_lost_text : (are : LinedText → List Data → Type 0) (earlier later : List Exchange) (x : Exchange)
    (uri : List ℕ) (version : Option ℤ) (diagnostics : List Data) (params : Data)
    → ((documents : TextDocuments) → Opened earlier documents
    → (before : TextDocuments) × MissesAll (documents_of before) (documents_of documents))
    → x.came ≡ None → offered x ≡ notification shows_method params ∷ []
    → ◌≡◌ {A = Act (Unit {0})} (tells shows_method params) (shows uri version diagnostics)
    → ShowsOpenTexts are (earlier ++ x ∷ later) → ⊥
of_a_lost_text are earlier later x uri version diagnostics params lost =
    of_an_unknown_text are earlier later x uri version diagnostics params
    (λ documents opened.
    let all = lost documents opened in
    none_known (documents_of all.0) (documents_of documents) all.1 uri)

-- ---- losses

-- At a request a text is lost, and a reply is sent first: no line was logged before.
a_silent_loss : (before now : TextDocuments) (uri : List ℕ) (document : Document) (id i : Id) (method : List ℕ)
    (params : Data) (outcome : Outcome) (others : List Message) → known (documents_of before) uri ≡ Some document
    → known (documents_of now) uri ≡ None
    → Hears before (Some (request id method params)) (SendsLost (response i outcome ∷ others)) now → ⊥
a_silent_loss before now uri document id i method params outcome others was gone hears = elim hears.loses [
  | inl kept ↦
      let no : ◌≡◌ {A = Option Document} None (Some document) =
      sym gone ∙ ap (λ (d : TextDocuments). known (documents_of d) uri) (hears.applies ∙ kept) ∙ was in
      absurd (cc (no))
  | inr lost ↦ absurd (cc (lost.1.1))
]
