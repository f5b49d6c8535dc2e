-- A server at its pool of jobs: the server, and under the name of each job that is pending, this job.
use Rattle.serde_json.specs.Data.{Data}
use Rattle.std.specs.List.{FoldsTo}
use Rattle.std.specs.Prelude.{◌≡◌, ◌⊎◌, ℕ, true, false, List, [], ◌∷◌, ◌++◌, Option, Some, None, Err, MatchOption}
use Rattle.lsp_message.specs.Id.{Id}
use Rattle.lsp_acts.specs.Acts.{Act, tells, asks, replies, cancels, cancelled_by}
use Rattle.lsp_acts.specs.declared.server.Server.{Ghosts as Plain}
use Rattle.lsp_jobs.specs.Asking.{ByServers, WhoseAsked, of_job}
use Rattle.lsp_jobs.specs.Ends.{Came, ComesTo, End, Outcome, end_of, ended, no_memory, reply_of, too_many}
use Rattle.lsp_jobs.specs.PendingJobs.{PendingJobs, no_jobs, without, with_job}
use Rattle.lsp_jobs.specs.Stated.{SeesEnd, StatedJobs}
use Rattle.lsp_jobs.specs.declared.asking.RequestOrigin.{RequestOrigin}
use Rattle.lsp_jobs.specs.declared.asking.RequestOrigin.TheVariants.{ByJob}
use Rattle.lsp_jobs.specs.declared.job_server.JobEnd.TheVariants.{Refused, Replaced, Stopped}
use Rattle.lsp_jobs.specs.declared.job_server.JobCommand.{JobCommand}
use Rattle.lsp_jobs.specs.declared.job_server.JobCommand.TheVariants.{Start, StartAfter, Stop}
use Rattle.lsp_jobs.specs.declared.names.JobName.{JobName}
use Rattle.lsp_jobs.specs.declared.names.JobName.TheVariants.{Request, Keyed}

-- a request that is cancelled needs no job
abbrev pub without_cancelled : {A : Type 0} → Option Id → PendingJobs A → PendingJobs A
without_cancelled None pending = pending
without_cancelled (Some id) pending = without (Request id) pending

-- a request that the server answers by itself needs no job
abbrev pub unanswered : {A P : Type 0} → List (Act P) → PendingJobs A → PendingJobs A
unanswered [] pending = pending
unanswered (replies id outcome ∷ acts) pending = unanswered acts (without (Request id) pending)
unanswered (act ∷ acts) pending = unanswered acts pending

-- The reply to the request of a job. A job under a key has none.
abbrev pub reply_with : {P : Type 0} → JobName → Outcome → List (Act P)
reply_with (Request id) outcome = replies id outcome ∷ []
reply_with (Keyed key) outcome = []

-- that of a job that came to this
abbrev pub reply_at : {P F : Type 0} → JobName → Came F → List (Act P)
reply_at name came = reply_with name (reply_of came)

-- what a server states of its jobs
module _ {S J F P : Type 0} (may : StatedJobs S J F P) where
  -- A job came to this. The server is notified of its end and returns acts, and then the reply to the job's request is
  -- sent, if it is for one.
  abbrev pub EndsWithReply : JobName → Came F → S → List (Act P) → S → Type 0
  EndsWithReply name came old acts new = (first : List (Act P)) × SeesEnd may old name (end_of came) first new
      × (acts ≡ first ++ reply_at name came)

  -- A job ended with this end, and is no longer pending. The server is notified of it and returns acts, and then this
  -- reply is sent.
  abbrev pub Ends : JobName → End F → List (Act P) → S × PendingJobs J → List (Act P) → S × PendingJobs J → Type 0
  Ends name end reply old acts new =
      (first : List (Act P)) × SeesEnd may old.0 name end first new.0 × (acts ≡ first ++ reply)
      × (new.1 ≡ unanswered acts old.1)

  -- the same without a reply, after acts that were done before
  abbrev pub EndsThen : JobName → End F → S × PendingJobs J × List (Act P) → S × PendingJobs J × List (Act P) → Type 0
  EndsThen name end old new =
      (acts : List (Act P)) × Ends name end [] (old.0, old.1) acts (new.0, new.1) × (new.2 ≡ old.2 ++ acts)

  -- A job is started under its name, where none is. Or too many jobs wait and run: it ends so.
  abbrev pub StartsOne : JobName → J → S × PendingJobs J × List (Act P) → S × PendingJobs J × List (Act P) → Type 0
  StartsOne name job old new =
      (new ≡ (old.0, with_job name job old.1, old.2))
      ⊎ EndsThen name (ended Refused) (old.0, without name old.1, old.2) new

  -- if a job has this name, it ends so
  abbrev pub Frees : JobName → End F → S × PendingJobs J × List (Act P) → S × PendingJobs J × List (Act P) → Type 0
  Frees name end old new = MatchOption (old.1 name) (new ≡ old)
      (λ (job : J). EndsThen name end (old.0, without name old.1, old.2) new)

  -- a job is started under its key, in the place of the one that is there
  abbrev pub Replaces : Id → J → S × PendingJobs J × List (Act P) → S × PendingJobs J × List (Act P) → Type 0
  Replaces key job old new =
      (mid : S × PendingJobs J × List (Act P)) × Frees (Keyed key) (ended Replaced) old mid
      × StartsOne (Keyed key) job mid new

  -- A command is carried out. A job that is to run after a time is started like any other.
  abbrev pub Changes : S × PendingJobs J × List (Act P) → JobCommand J → S × PendingJobs J × List (Act P) → Type 0
  Changes old (Start key job) new = Replaces key job old new
  Changes old (StartAfter key time job) new = Replaces key job old new
  Changes old (Stop key) new = Frees (Keyed key) (ended Stopped) old new

  -- After the server did these acts, it starts and stops jobs under keys, in order: these are all the acts.
  pub record ChangesJobs (old : S × PendingJobs J) (acts all : List (Act P)) (new : S × PendingJobs J) : Type 0 where
    pub changes : List (JobCommand J)
    pub mid : S
    pub gives : may.take_commands_post old.0 changes mid
    pub made : FoldsTo Changes (mid, unanswered acts old.1, acts) changes (new.0, new.1, all)

  -- The server did these acts, and then starts and stops jobs under keys.
  abbrev pub Does : (List (Act P) → S → Type 0) → PendingJobs J → List (Act P) → S × PendingJobs J → Type 0
  Does did pending all new = (acts : List (Act P)) × (mid : S) × did acts mid
      × ChangesJobs (mid, pending) acts all new

  -- A long request may get this in place of a job: what the server knows, the error that there is no room for a job, or
  -- that an allocation failed.
  abbrev pub IsAtOnce : S → Id → List ℕ → Data → Outcome → Type 0
  IsAtOnce server id method params outcome =
      may.job_reply_post server id method params outcome ⊎ ((outcome ≡ Err too_many) ⊎ (outcome ≡ Err no_memory))

  -- The request is answered at once, and nothing else is done.
  pub record AnswersAtOnce (old : S × PendingJobs J) (id : Id) (method : List ℕ) (params : Data)
      (all : List (Act (RequestOrigin P))) (new : S × PendingJobs J) : Type 0 where
    pub outcome : Outcome
    pub is : IsAtOnce old.0 id method params outcome
    pub acts : all ≡ replies id outcome ∷ []
    pub left : new ≡ (old.0, without (Request id) old.1)

  -- A job that is for the request is started, and nothing else is done.
  pub record StartsJob (old : S × PendingJobs J) (id : Id) (method : List ℕ) (params : Data)
      (all : List (Act (RequestOrigin P))) (new : S × PendingJobs J) : Type 0 where
    pub job : J
    pub is_for : may.is_for job method params
    pub gives : may.job_post old.0 id method params job
    pub acts : all ≡ []
    pub started : new ≡ (old.0, with_job (Request id) job old.1)

  -- What is done at a long request. An earlier job under its id is forgotten.
  abbrev pub TakesLong : S × PendingJobs J → Id → List ℕ → Data → List (Act (RequestOrigin P))
      → S × PendingJobs J → Type 0
  TakesLong old id method params all new =
      StartsJob old id method params all new ⊎ AnswersAtOnce old id method params all new

  -- A pending job came to something.
  pub record Finishes (old : S × PendingJobs J) (all : List (Act P)) (new : S × PendingJobs J) : Type 0 where
    pub name : JobName
    pub job : J
    pub came : Came F
    pub waits : old.1 name ≡ Some job
    pub comes : ComesTo may.run_post job came
    pub acts : List (Act P)
    pub did : S × PendingJobs J
    pub ended : Ends name (end_of came) (reply_at name came) (old.0, without name old.1) acts did
    pub others : ChangesJobs did acts all new

  -- A pending job reports.
  pub record Reports (old : S × PendingJobs J) (all : List (Act (RequestOrigin P)))
      (new : S × PendingJobs J) : Type 0 where
    pub name : JobName
    pub job : J
    pub method : List ℕ
    pub params : Data
    pub waits : old.1 name ≡ Some job
    pub reports : may.reports job method params
    pub acts : all ≡ tells method params ∷ []
    pub same : new ≡ old

  -- A pending job asks the client, and waits for the reply under this number.
  pub record Asks (old : S × PendingJobs J) (all : List (Act (RequestOrigin P)))
      (new : S × PendingJobs J) : Type 0 where
    pub name : JobName
    pub job : J
    pub method : List ℕ
    pub params : Data
    pub number : ℕ
    pub waits : old.1 name ≡ Some job
    pub may_send_request : may.asks job method params
    pub acts : all ≡ asks method params (ByJob number) ∷ []
    pub same : new ≡ old

  -- The request of one job to the client is cancelled, if it has no reply yet.
  pub record Withdraws (old : S × PendingJobs J) (all : List (Act (RequestOrigin P)))
      (new : S × PendingJobs J) : Type 0 where
    pub number : ℕ
    pub acts : all ≡ cancels (of_job number) ∷ []
    pub same : new ≡ old

  -- At a wake-up nothing is done, or a job reports, or sends the client a request, or has its result. Or a request of a
  -- job is cancelled that no longer waits.
  abbrev pub Wakes : S × PendingJobs J → List (Act (RequestOrigin P)) → S × PendingJobs J → Type 0
  Wakes old all new = ((all ≡ []) × (new ≡ old))
      ⊎ (Reports old all new
      ⊎ (Asks old all new ⊎ (ByServers (λ acts. Finishes old acts new) all ⊎ Withdraws old all new)))

  -- What a server with its jobs may do. A request that the server may call long is answered by a job that is for it, or
  -- at once; another one by the server. The server is not notified of a reply to a request of a job. At `shutdown` no
  -- job is started, and none is pending any longer.
  abbrev pub with_jobs : Plain S P → Plain (S × PendingJobs J) (RequestOrigin P)
  with_jobs plain = record {
    initialize_post = λ old params outcome new. plain.initialize_post old.0 params outcome new.0
        × (new.1 ≡ old.1);
    initialized_post = λ old all new.
        ByServers (λ acts. Does (plain.initialized_post old.0) old.1 acts new) all;
    request_post = λ old id method params all new.
        (may.is_long_post old.0 method params true
        × TakesLong old id method params all new)
        ⊎ (may.is_long_post old.0 method params false × ByServers
        (λ acts. Does (plain.request_post old.0 id method params) (without (Request id) old.1) acts new) all);
    notification_post = λ old method params all new.
        ByServers (λ acts. Does (plain.notification_post old.0 method params)
        (without_cancelled (cancelled_by method params) old.1) acts new) all;
    response_post = λ old asked outcome all new. WhoseAsked asked
        (λ payload. ByServers (λ acts. Does (plain.response_post old.0 payload outcome) old.1 acts new)
        all)
        ((all ≡ []) × (new ≡ old));
    woken_post = Wakes;
    shutdown_post = λ old all new.
        ByServers (λ acts. plain.shutdown_post old.0 acts new.0) all × (new.1 ≡ no_jobs);
    ids_exhausted_post = λ old asked new. WhoseAsked asked
        (λ payload. plain.ids_exhausted_post old.0 payload new.0 × (new.1 ≡ old.1))
        (new ≡ old);
  }
