-- The law of jobs, of a server whose jobs give the params back.
use Rattle.std.proofs.Common.{◌≡◌, ◌⊎◌, inl, inr, ◌∙◌, sym, subst, ℕ, List, [], ◌∷◌, ◌++◌, Option, None, Some, Ok}
use Rattle.serde_json.specs.Data.{Data}
use Rattle.lsp_message.specs.Id.{Id}
use Rattle.lsp_message.specs.Message.{Message, response}
use Rattle.lsp_acts.specs.Acts.{Act}
use Rattle.lsp_acts.specs.declared.server.Server.{Ghosts as Plain}
use Rattle.lsp_session.specs.Session.{Exchange, offered}
use Rattle.lsp_jobs.specs.Ends.{Came, ComesTo, End, Outcome, ended, found, gave, gave_up, out_of_memory, reply_of}
use Rattle.lsp_jobs.specs.JobLaw.{AnswersRequest, LastRequest, RepliesItself}
use Rattle.lsp_jobs.specs.Stated.{SeesEnd, StatedJobs}
use Rattle.lsp_jobs.specs.declared.job_server.JobEnd.{JobEnd}
use Rattle.lsp_jobs.specs.declared.names.JobName.{JobName}
use Rattle.bench.specs.Echo.{EchoesAtWakes}

some_act : {A B : Type 0} (before after : List A) (x : A) → before ++ x ∷ after ≡ [] → B
some_act [] after x e = absurd (cc (e))
some_act (y ∷ before) after x e = absurd (cc (e))

module _ {S J F P : Type 0} (plain : Plain S P) (may : StatedJobs S J F P)
    (hears_none : (old : S) (name : JobName) (it : F) (acts : List (Act P)) (new : S) → may.found_post old name it acts
    new
    → acts ≡ [])
    (ends_none : (old : S) (name : JobName) (end : JobEnd) (acts : List (Act P)) (new : S)
    → may.ended_post old name end acts new → acts ≡ [])
    (echoes : (job : J) (method : List ℕ) (params : Data) (reply : Option Outcome) (it : Option F)
    → may.is_for job method params → may.run_post job reply it → reply ≡ Some (Ok params)) where
  -- the server does nothing at the end of a job
  silent : (old : S) (name : JobName) (end : End F) (acts : List (Act P)) (new : S) → SeesEnd may old name end acts new
      → acts ≡ []
  silent old name (found it) acts new saw = hears_none old name it acts new saw
  silent old name (ended end) acts new saw = ends_none old name end acts new saw

  -- a job that gives a result gives the params
  gives : (job : J) (method : List ℕ) (params result : Data) (came : Came F) → may.is_for job method params
      → ComesTo may.run_post job came → Ok result ≡ reply_of came → result ≡ params
  gives job method params result (gave (Some outcome) it) is_for comes same =
      let given : ◌≡◌ {A = Option Outcome} (Some outcome) (Some (Ok params)) =
      echoes job method params (Some outcome) it is_for comes in
      let it : outcome ≡ Ok params = cc (given) in
      let all : ◌≡◌ {A = Outcome} (Ok result) (Ok params) = same ∙ it in cc (all)
  gives job method params result (gave None it) is_for comes same = absurd (cc (same))
  gives job method params result out_of_memory is_for comes same = absurd (cc (same))
  gives job method params result gave_up is_for comes same = absurd (cc (same))

  -- the reply is the params of the last request
  echoed : (first : S) (earlier : List Exchange) (output : List Message) (id : Id) (result : Data)
      → AnswersRequest plain may first earlier id (Ok result)
      ⊎ RepliesItself plain may first earlier output id (Ok result)
      → (method : List ℕ) × LastRequest earlier id method result
  echoed first earlier output id result (inr itself) =
      some_act itself.before itself.after _ (silent itself.old itself.name itself.end _ itself.new itself.saw)
  echoed first earlier output id result (inl by) =
      let g = by.given in
      let params = gives by.job g.method g.params result by.came g.is_for by.comes by.reply in
      (g.method, subst (λ (p : Data). LastRequest earlier id g.method p) (sym params) g.last)

  pub echo_at_wakes : (first : S) (exchanges : List Exchange)
      → ((earlier later : List Exchange) (x : Exchange) (before after : List Message) (id : Id) (outcome : Outcome)
      → exchanges ≡ earlier ++ x ∷ later → x.came ≡ None → offered x ≡ before ++ response id outcome ∷ after
      → AnswersRequest plain may first earlier id outcome
      ⊎ RepliesItself plain may first earlier (offered x) id outcome)
      → EchoesAtWakes exchanges
  echo_at_wakes first exchanges law earlier later x before after id result cut woken sent =
      echoed first earlier (offered x) id result (law earlier later x before after id (Ok result) cut woken sent)
