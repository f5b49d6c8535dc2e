-- A server whose jobs run on the session's own thread: each at the message that starts it.
use Rattle.serde_json.specs.Data.{Data}
use Rattle.serde_json.specs.View.{view}
use Rattle.std.specs.List.{All, FoldsTo}
use Rattle.std.specs.Prelude.{◌≡◌, ◌⊎◌, ℕ, true, false, List, [], ◌∷◌, ◌++◌, Err, length, string_bytes}
use Rattle.lsp_message.specs.Id.{Id}
use Rattle.lsp_message.specs.declared.msg.Notification.{Notification}
use Rattle.lsp_acts.specs.Acts.{Act, tells, replies, stays}
use Rattle.lsp_acts.specs.declared.server.Server.{Ghosts as Plain}
use Rattle.lsp_jobs.specs.Ends.{Came, ComesTo, Outcome, no_memory}
use Rattle.lsp_jobs.specs.Pooled.{EndsWithReply}
use Rattle.lsp_jobs.specs.Stated.{StatedJobs}
use Rattle.lsp_jobs.specs.declared.inline_jobs.InlineJobs.{InlineJobs}
use Rattle.lsp_jobs.specs.declared.job_server.JobCommand.{JobCommand}
use Rattle.lsp_jobs.specs.declared.job_server.JobCommand.TheVariants.{Start, StartAfter, Stop}
use Rattle.lsp_jobs.specs.declared.names.JobName.{JobName}
use Rattle.lsp_jobs.specs.declared.names.JobName.TheVariants.{Request, Keyed}

-- a notification that is sent
abbrev pub told : {P : Type 0} → Notification → Act P
told n = tells (string_bytes n.method) (view n.params)

-- In the last of these rounds no command is named.
abbrev pub EndsEmpty : {J : Type 0} → List (List (JobCommand J)) → Type 0
EndsEmpty {J} rounds = (earlier : List (List (JobCommand J))) × (rounds ≡ earlier ++ [] ∷ [])

-- what a server states of its jobs
module _ {S J F P : Type 0} (may : StatedJobs S J F P) where
  -- the job may send this notification while it runs
  abbrev pub IsReport : J → Act P → Type 0
  IsReport job (tells method params) = may.reports job method params
  IsReport job act = ⊥

  -- A job runs. These are the notifications that it sends, and then the acts at its end.
  pub record Runs (name : JobName) (job : J) (old : S) (acts : List (Act P)) (new : S) : Type 0 where
    pub came : Came F
    pub comes : ComesTo may.run_post job came
    pub sent : List (Act P)
    pub reports : All (IsReport job) sent
    pub last : List (Act P)
    pub ends : EndsWithReply may name came old last new
    pub all : acts ≡ sent ++ last

  -- the same, after acts that were done before
  abbrev pub RunsThen : JobName → J → S × List (Act P) → S × List (Act P) → Type 0
  RunsThen name job old new = (acts : List (Act P)) × Runs name job old.0 acts new.0 × (new.1 ≡ old.1 ++ acts)

  -- A job sent these notifications and came to this. After the acts that were done before come these notifications, all
  -- of them and in order, and then the acts at its end.
  abbrev pub EndsAfter : JobName → Came F → List (Act P) → S × List (Act P) → S × List (Act P) → Type 0
  EndsAfter name came sent old new = (last : List (Act P)) × EndsWithReply may name came old.0 last new.0
      × (new.1 ≡ old.1 ++ (sent ++ last))

  -- A command is carried out. A job runs at once, whatever time it was to wait, so there is none to stop.
  abbrev pub Carries : S × List (Act P) → JobCommand J → S × List (Act P) → Type 0
  Carries old (Start key job) new = RunsThen (Keyed key) job old new
  Carries old (StartAfter key time job) new = RunsThen (Keyed key) job old new
  Carries old (Stop key) new = new ≡ old

  -- The server names these commands, and they are carried out in order.
  pub record Round (old : S × List (Act P)) (commands : List (JobCommand J)) (new : S × List (Act P)) : Type 0 where
    pub mid : S
    pub names : may.take_commands_post old.0 commands mid
    pub carried : FoldsTo Carries (mid, old.1) commands new

  -- The server is asked for commands again and again, since it may name further ones when jobs have ended. This ends
  -- when it names none, or when it was asked a hundred times.
  pub record Settles (old new : S × List (Act P)) : Type 0 where
    pub rounds : List (List (JobCommand J))
    pub carried : FoldsTo Round old rounds new
    pub until : EndsEmpty rounds ⊎ (length rounds ≡ 100)

  -- the server did these acts, and then its commands are carried out
  abbrev pub DoesInline : (List (Act P) → S → Type 0) → List (Act P) → S → Type 0
  DoesInline did all new = (acts : List (Act P)) × (mid : S) × did acts mid × Settles (mid, acts) (new, all)

  -- What a long request brings: the reply that the server gives in place of a job, or the error that an allocation
  -- failed; or its job runs.
  abbrev pub AnswersLong : S → Id → List ℕ → Data → List (Act P) → S → Type 0
  AnswersLong old id method params all new =
      ((outcome : Outcome) × (may.job_reply_post old id method params outcome ⊎ (outcome ≡ Err no_memory))
      × (all ≡ replies id outcome ∷ []) × (new ≡ old))
      ⊎ ((job : J) × may.is_for job method params × may.job_post old id method params job
      × DoesInline (λ acts mid. Runs (Request id) job old acts mid) all new)

-- What a server may do whose jobs run so. Nothing but messages changes it: a wake-up does nothing.
module _ {S J F P : Type 0} (plain : Plain S P) (may : StatedJobs S J F P) where
  abbrev pub with_inline_jobs : Plain (InlineJobs S J F) P
  with_inline_jobs = record {
    initialize_post = λ old params outcome new. plain.initialize_post old.server params outcome new.server;
    initialized_post = λ old all new. DoesInline may (plain.initialized_post old.server) all new.server;
    request_post = λ old id method params all new.
        (may.is_long_post old.server method params true × AnswersLong may old.server id method params all new.server)
        ⊎ (may.is_long_post old.server method params false
        × DoesInline may (plain.request_post old.server id method params) all new.server);
    notification_post = λ old method params all new.
        DoesInline may (plain.notification_post old.server method params) all new.server;
    response_post = λ old payload outcome all new.
        DoesInline may (plain.response_post old.server payload outcome) all new.server;
    woken_post = stays;
    shutdown_post = λ old all new. plain.shutdown_post old.server all new.server;
    ids_exhausted_post = λ old payload new. plain.ids_exhausted_post old.server payload new.server;
  }
