-- Each reply of a job is from the texts that were open when its request arrived.
use Rattle.serde_json.specs.Data.{Data}
use Rattle.std.proofs.Common.{◌≡◌, ◌⊎◌, refl, sym, subst, inl, inr, ℕ, true, List, [], ◌∷◌, ◌++◌, Option, Some, None}
use Rattle.std.specs.Prelude.{IsSomeAnd}
use Rattle.lsp_acts.specs.Acts.{Act, tells, asks, replies, cancels}
use Rattle.lsp_acts.specs.declared.server.Server.{Ghosts as Plain}
use Rattle.lsp_documents.specs.Held.{texts_of}
use Rattle.lsp_documents.specs.Sessions.{HasNone}
use Rattle.lsp_documents.specs.declared.documents.TextDocuments.{TextDocuments}
use Rattle.lsp_jobs.specs.Ends.{Came, ComesTo, End, Outcome, ended, found, gave, gave_up, out_of_memory, reply_of}
use Rattle.lsp_jobs.specs.JobLaw.{AnswersRequest, RepliesItself}
use Rattle.lsp_jobs.specs.Stated.{SeesEnd, StatedJobs}
use Rattle.lsp_jobs.specs.declared.names.JobName.{JobName}
use Rattle.lsp_message.specs.Id.{Id}
use Rattle.lsp_message.specs.Message.{Message, response}
use Rattle.lsp_session.specs.Session.{Exchange, offered}
use Rattle.lsp_text.specs.Lines.{LinedText}
use Rattle.lsp_types.specs.declared.diagnostics.Diagnostic.{Diagnostic}
use Rattle.lsp_diagnostics.proofs.Kept.{opened}
use Rattle.lsp_diagnostics.specs.Answered.{AnswersFromOpenTexts, AnswersFromTexts, AnswersLast, AnswersOrFails}
use Rattle.lsp_diagnostics.specs.Kept.{HasNoReply}
use Rattle.lsp_diagnostics.specs.Shown.{Shows}
use Rattle.lsp_diagnostics.specs.declared.findings.Findings.{Findings}

no_reply : {P : Type 0} (before after : List (Act P)) (id : Id) (outcome : Outcome)
    → HasNoReply (before ++ replies id outcome ∷ after) → ⊥
no_reply [] after id outcome none = none
no_reply (tells method params ∷ before) after id outcome none = no_reply before after id outcome none
no_reply (asks method params payload ∷ before) after id outcome none = no_reply before after id outcome none
no_reply (replies i o ∷ before) after id outcome none = none
no_reply (cancels such ∷ before) after id outcome none = no_reply before after id outcome none

-- acts that show diagnostics, or none, reply to nothing
pub shown_without_reply : {P : Type 0} (written : Diagnostic → Data) (it : Findings) (acts : List (Act P))
    → Shows written it acts → HasNoReply acts
shown_without_reply written it acts shows = subst HasNoReply (sym shows) tt

pub none_without_reply : {P : Type 0} (acts : List (Act P)) → acts ≡ [] → HasNoReply acts
none_without_reply acts none = subst HasNoReply (sym none) tt

module _ {S J F P : Type 0} (documents : S → TextDocuments)
    (answers : List (List ℕ × LinedText) → List ℕ → Data → Outcome → Type 0)
    (plain : Plain S P) (may : StatedJobs S J F P) (states : AnswersFromTexts documents answers plain may) where
  -- this is the answer from the texts of this server, or an error
  abbrev AnswersAt : S → List ℕ → Data → Outcome → Type 0
  AnswersAt server method params = AnswersOrFails answers (texts_of (documents server)) method params

  by_reply : (server : S) (method : List ℕ) (params : Data) (reply : Option Outcome) (it : Option F)
      → IsSomeAnd reply (answers (texts_of (documents server)) method params)
      → AnswersAt server method params (reply_of (gave reply it))
  by_reply server method params None it never = absurd never
  by_reply server method params (Some outcome) it so = inl so

  -- whatever the job of a long request came to
  comes_so : (server : S) (id : Id) (method : List ℕ) (params : Data) (job : J)
      → may.is_long_post server method params true → may.job_post server id method params job
      → may.is_for job method params → (came : Came F) → ComesTo may.run_post job came
      → AnswersAt server method params (reply_of came)
  comes_so server id method params job long gives its (gave reply it) comes =
      by_reply server method params reply it
      (states.answers_so server id method params job reply it long gives its comes)
  comes_so server id method params job long gives its out_of_memory comes = inr (inl refl)
  comes_so server id method params job long gives its gave_up comes = inr (inr refl)

  -- the job of the last request answers it
  by_its_job : (first : S) (earlier : List Exchange) (id : Id) (outcome : Outcome) → HasNone (documents first)
      → AnswersRequest plain may first earlier id outcome → AnswersLast answers earlier id outcome
  by_its_job first earlier id outcome none r =
      let g = r.given in
      record {
        method = g.method;
        params = g.params;
        last = g.last;
        documents = documents g.server;
        opened = opened documents plain may states.keeps first g.last.before g.turns g.server none g.led;
        answered = subst (AnswersAt g.server g.method g.params) (sym r.reply)
            (comes_so g.server id g.method g.params r.job g.long g.gives g.is_for r.came r.comes);
      }

  silent : (old : S) (name : JobName) (end : End F) (acts : List (Act P)) (new : S)
      → SeesEnd may old name end acts new → HasNoReply acts
  silent old name (found it) acts new saw = states.quiet.found old name it acts new saw
  silent old name (ended end) acts new saw = states.quiet.ended old name end acts new saw

  -- by what a law of `lsp_jobs` says of each reply
  pub all_answered : (first : S) (exchanges : List Exchange) → HasNone (documents first)
      → ((earlier later : List Exchange) (x : Exchange) (before after : List Message) (id : Id) (outcome : Outcome)
      → exchanges ≡ earlier ++ x ∷ later → x.came ≡ None → offered x ≡ before ++ response id outcome ∷ after
      → AnswersRequest plain may first earlier id outcome ⊎ RepliesItself plain may first earlier (offered x) id
      outcome)
      → AnswersFromOpenTexts answers exchanges
  all_answered first exchanges none law earlier later x before after id outcome cut woken sent =
      elim (law earlier later x before after id outcome cut woken sent) [
        | inl r ↦ by_its_job first earlier id outcome none r
        | inr itself ↦ absurd (no_reply itself.before itself.after id outcome
            (silent itself.old itself.name itself.end (itself.before ++ replies id outcome ∷ itself.after) itself.new
            itself.saw))
      ]
