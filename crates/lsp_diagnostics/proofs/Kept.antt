-- Through the turns of a server its documents are what the client's notifications make of them.
use Rattle.serde_json.specs.Data.{Data}
use Rattle.std.proofs.Common.{◌≡◌, ◌⊎◌, refl, sym, ◌∙◌, ap, subst, inl, inr, ℕ, Bool, true, false, List, [], ◌∷◌, ◌++◌}
use Rattle.std.proofs.Common.{Option, Some, None, codes}
use Rattle.std.proofs.lemmas.Slice.Eq.{bytes_eq-Decides}
use Rattle.std.specs.Bool.{MatchBool}
use Rattle.std.specs.Prelude.{IsSomeAnd, map}
use Rattle.std.specs.Str.{bytes_eq}
use Rattle.lsp_acts.specs.Acts.{Act, TakesBack}
use Rattle.lsp_acts.specs.Answering.{logs_error}
use Rattle.lsp_acts.specs.Law.{AnswersInitialize, Initializes}
use Rattle.lsp_acts.specs.SentByActs.{acts_done_at}
use Rattle.lsp_acts.specs.declared.server.Server.{Ghosts as Plain}
use Rattle.lsp_documents.specs.Sessions.{HasNone}
use Rattle.lsp_documents.specs.declared.documents.TextDocuments.{TextDocuments}
use Rattle.lsp_jobs.specs.Asking.{by_server}
use Rattle.lsp_jobs.specs.Ends.{End, end_of, ended, found}
use Rattle.lsp_jobs.specs.JobLaw.{AreTakenAt, Leads, SendsSo}
use Rattle.lsp_jobs.specs.KeyedJobLaw.{AreTurns, IsCalled, IsTurn, Left, MayPass, SeesLeft, Turn, at_ends}
use Rattle.lsp_jobs.specs.Stated.{SeesEnd, StatedJobs}
use Rattle.lsp_jobs.specs.declared.asking.RequestOrigin.{RequestOrigin}
use Rattle.lsp_jobs.specs.declared.names.JobName.{JobName}
use Rattle.lsp_jobs.specs.declared.names.JobName.TheVariants.{Keyed}
use Rattle.lsp_message.specs.Message.{Message, request, notification, response}
use Rattle.lsp_message.specs.Methods.{is_initialize}
use Rattle.lsp_session.specs.Session.{Exchange, offered}
use Rattle.lsp_diagnostics.specs.Applied.{Applies, Hears, HearsAll, LogsLost, Loses, Opened, SendsLost, all_lost}
use Rattle.lsp_diagnostics.specs.Kept.{KeepsTexts}

-- nothing is lost
pub loses_none : {Told : Type 0} (before now : TextDocuments) → now ≡ before → Loses before Told now
loses_none before now same = inl same

-- what is logged first is logged first of all these acts
pub loses_then : {P : Type 0} (before now : TextDocuments) (first rest all : List (Act P))
    → Loses before (LogsLost first) now → all ≡ first ++ rest → Loses before (LogsLost all) now
loses_then before now first rest all (inl kept) is = inl kept
loses_then {P} before now first rest all (inr lost) is =
    inr (lost.0, (lost.1.0 ++ rest, is ∙ ap (λ (l : List (Act P)). l ++ rest) lost.1.1))

-- the texts are lost first, and then the message makes of the documents what it says
pub hears_then : {P : Type 0} (before left now : TextDocuments) (came : Option Message) (first rest all : List (Act P))
    → Loses before (LogsLost first) left → Applies left came now → all ≡ first ++ rest
    → Hears before came (LogsLost all) now
hears_then before left now came first rest all loses applies is = record {
  left = left;
  loses = loses_then before left first rest all loses is;
  applies = applies;
}

-- no text is lost before the message
pub hears_only : {Told : Type 0} (before now : TextDocuments) (came : Option Message) → Applies before came now
    → Hears before came Told now
hears_only before now came applies = record { left = before; loses = inl refl; applies = applies }

-- the message makes nothing of the documents
hears_loss : {Told : Type 0} (before now : TextDocuments) (came : Option Message) → Applies now came now
    → Loses before Told now → Hears before came Told now
hears_loss before now came applies loses = record { left = now; loses = loses; applies = applies }

-- the client is told otherwise
told_so : {Told Other : Type 0} (before now : TextDocuments) (came : Option Message) → (Told → Other)
    → Hears before came Told now → Hears before came Other now
told_so before now came so hears = record {
  left = hears.left;
  loses = elim hears.loses [
    | inl kept ↦ inl kept
    | inr lost ↦ inr (lost.0, so lost.1)
  ];
  applies = hears.applies;
}

-- `initialized` is no notification of a document
no_document : (documents : TextDocuments) (method : List ℕ) (params : Data)
    → bytes_eq method (codes "initialized") ≡ true → Applies documents (Some (notification method params)) documents
no_document documents method params is =
    subst (λ (m : List ℕ). Applies documents (Some (notification m params)) documents)
    (sym ((bytes_eq-Decides method (codes "initialized")).0 is)) refl

module _ {S J F P : Type 0} (documents : S → TextDocuments) (plain : Plain S P) (may : StatedJobs S J F P)
    (keeps : KeepsTexts documents plain may) where
  -- the end of a job changes no document
  pub at_end : (old : S) (name : JobName) (end : End F) (acts : List (Act P)) (new : S)
      → SeesEnd may old name end acts new → documents new ≡ documents old
  at_end old name (found it) acts new saw = keeps.finds old name it acts new saw
  at_end old name (ended end) acts new saw = keeps.ends old name end acts new saw

  pub sees : (made : S) (left : List (Left may)) (new : S) → SeesLeft plain may made left new
      → documents new ≡ documents made
  sees made [] new same = ap documents same
  sees made (l ∷ ls) new all =
      sees l.new ls new all.1 ∙ at_end l.old (Keyed l.key) l.end l.acts l.new l.saw ∙ ap documents all.0

  -- what a turn makes of the documents
  called : (old : S) (came : Option Message) (at : Option JobName) (acts : List (Act P)) (now : S)
      → IsCalled plain may old came at acts now → Hears (documents old) came (LogsLost acts) (documents now)
  called old (Some (request id method params)) at acts now itself =
      hears_loss (documents old) (documents now) (Some (request id method params)) refl
      (keeps.requested old id method params acts now itself.1)
  called old (Some (notification method params)) at acts now heard = elim heard.0 [
    | inl does ↦ keeps.notified old method params acts now does
    | inr began ↦
        hears_loss (documents old) (documents now) (Some (notification method params))
        (no_document (documents now) method params began.0) (keeps.begins old acts now began.1)
  ]
  called old (Some (response id outcome)) at acts now replied =
      hears_loss (documents old) (documents now) (Some (response id outcome)) refl
      (keeps.replied old replied.0 outcome acts now replied.1)
  called old None at acts now e =
      hears_only (documents old) (documents now) None (at_end old e.0 (end_of e.1) e.2 now e.3)

  passed : (old : S) (came : Option Message) (acts : List (Act (RequestOrigin P))) (new : S)
      → MayPass plain may old came acts → new ≡ old → Hears (documents old) came (LogsLost acts) (documents new)
  passed old (Some (request id method params)) acts new passes same =
      hears_only (documents old) (documents new) (Some (request id method params)) (ap documents same)
  passed old (Some (notification method params)) acts new passes same = absurd passes
  passed old (Some (response id outcome)) acts new passes same =
      hears_only (documents old) (documents new) (Some (response id outcome)) (ap documents same)
  passed old None acts new passes same = hears_only (documents old) (documents new) None (ap documents same)

  -- what is logged first is logged first of all that is done in the turn
  first_of_all : (acts ends : List (Act P)) (all : List (Act (RequestOrigin P)))
      → all ≡ map by_server (acts ++ ends) → LogsLost acts → LogsLost all
  first_of_all acts ends all are lost =
      (map by_server (lost.0 ++ ends), are ∙ ap (λ (l : List (Act P)). map by_server (l ++ ends)) lost.1)

  abbrev Turned : Turn plain may → TextDocuments → Type 0
  Turned t now = Hears (documents t.old) t.call.came (LogsLost t.call.acts) now

  turned : (t : Turn plain may) → IsTurn plain may t → Turned t (documents t.new)
  turned t (inl did) =
      let same : documents t.new ≡ documents t.asked =
      sees t.made t.left t.new did.3 ∙ keeps.commanded t.asked t.changes t.made did.2 in
      subst (Turned t) (sym same) (told_so (documents t.old) (documents t.asked) t.call.came
      (first_of_all did.0 (at_ends may t.left) t.call.acts did.4)
      (called t.old t.call.came t.heard did.0 t.asked did.1))
  turned t (inr pass) = passed t.old t.call.came t.call.acts t.new pass.0 pass.3

  -- and is sent first
  sent_first : (x : Exchange) (acts : List (Act (RequestOrigin P)))
      → SendsSo (acts_done_at x.came acts) (offered x) → LogsLost acts → SendsLost (offered x)
  sent_first x acts sends lost =
      by x.came (subst (λ (l : List (Act (RequestOrigin P))). SendsSo (acts_done_at x.came l) (offered x)) lost.1
      sends)
    where
      by : (came : Option Message) → SendsSo (acts_done_at came (logs_error all_lost ∷ lost.0)) (offered x)
          → SendsLost (offered x)
      by None so = (_, sym so.1)
      by (Some (request id method params)) so = (_, sym so.1)
      by (Some (notification method params)) so = (_, sym so.1)
      by (Some (response id outcome)) so = (_, sym so.1)

  pub taken : (payloads : List P) (old new : S) → TakesBack plain.ids_exhausted_post old payloads new
      → documents new ≡ documents old
  taken [] old new same = ap documents same
  taken (payload ∷ payloads) old new back =
      taken payloads back.0 new back.2 ∙ keeps.took_back old payload back.0 back.1

  -- what turns make of them, one at each exchange
  heard_all : (start now : S) (xs : List Exchange) (turns : List (Turn plain may)) → AreTakenAt plain may xs turns
      → AreTurns plain may start turns now → HearsAll (documents start) xs (documents now)
  heard_all start now [] [] at are = taken are.0 start now are.1
  heard_all start now [] (t ∷ turns) at are = absurd at
  heard_all start now (x ∷ xs) [] at are = absurd at
  heard_all start now (x ∷ xs) (t ∷ turns) at are = (
    documents t.new,
    told_so (documents start) (documents t.new) x.came (sent_first x t.call.acts at.0.1)
        (subst (λ (y : TextDocuments × Option Message). Hears y.0 y.1 (LogsLost t.call.acts) (documents t.new))
        (λ k. (taken are.0.0 start t.old are.0.1 k, at.0.0 k)) (turned t are.1)),
    heard_all t.new now xs turns at.1 are.2,
  )

  -- up to the result of `initialize` no document is open
  none_open : (early : List Exchange) (old start : S) → HasNone (documents old)
      → AnswersInitialize plain old early start → HasNone (documents start)
  none_open [] old start none same = subst (λ (s : S). HasNone (documents s)) (sym same) none
  none_open (x ∷ early) old start none run = none_open early run.0 start (at x.came run.1) run.2
    where
      by : (b : Bool) (m : Message) → MatchBool b (Initializes plain old m (offered x) run.0) (run.0 ≡ old)
          → HasNone (documents run.0)
      by true m i = keeps.initializes old i.params i.outcome run.0 i.gave
      by false m same = subst (λ (s : S). HasNone (documents s)) (sym same) none

      at : (came : Option Message)
          → IsSomeAnd came (λ m. MatchBool (is_initialize m) (Initializes plain old m (offered x) run.0)
          (run.0 ≡ old)) → HasNone (documents run.0)
      at None never = absurd never
      at (Some m) answered = by (is_initialize m) m answered

  -- exchanges that led the server from its first state to this one made its documents
  pub opened : (first : S) (exchanges : List Exchange) (turns : List (Turn plain may)) (now : S)
      → HasNone (documents first) → Leads plain may first exchanges turns now → Opened exchanges (documents now)
  opened first exchanges turns now none led = record {
    early = led.early;
    later = led.later;
    cut = led.cut;
    result = led.result;
    first = documents led.start;
    none = none_open led.early first led.start none led.initialized;
    made = heard_all led.start now led.later turns led.taken led.linked;
  }
