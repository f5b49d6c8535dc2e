-- The turns of a server with jobs, and of which jobs it hears: of the last one under each key, and of the one for the
-- last request under an id.
use Rattle.serde_json.specs.Data.{Data}
use Rattle.std.specs.Ordering.{eq_by_cmp}
use Rattle.std.specs.Prelude.{◌≡◌, ◌⊎◌, ℕ, Bool, true, false, List, [], ◌∷◌, ◌++◌, map, fold, Option, Some, None}
use Rattle.std.specs.Prelude.{IsSome, if◌then◌else◌}
use Rattle.lsp_message.specs.Id.{Id, id_cmp, same_id}
use Rattle.lsp_message.specs.Message.{Message, request, notification, response}
use Rattle.lsp_message.specs.Methods.{is_initialized}
use Rattle.lsp_session.specs.Session.{Exchange}
use Rattle.lsp_acts.specs.Acts.{Act, tells, asks, replies, cancels, cancelled_by, TakesBack}
use Rattle.lsp_acts.specs.Law.{Call}
use Rattle.lsp_acts.specs.declared.server.Server.{Ghosts as Plain}
use Rattle.lsp_jobs.specs.Asking.{by_server, of_job}
use Rattle.lsp_jobs.specs.Ends.{Came, ComesTo, End, Outcome, end_of, ended}
use Rattle.lsp_jobs.specs.Pooled.{reply_at, IsAtOnce}
use Rattle.lsp_jobs.specs.declared.asking.RequestOrigin.{RequestOrigin}
use Rattle.lsp_jobs.specs.declared.asking.RequestOrigin.TheVariants.{ByJob}
use Rattle.lsp_jobs.specs.Stated.{SeesEnd, StatedJobs}
use Rattle.lsp_jobs.specs.declared.job_server.JobEnd.{JobEnd}
use Rattle.lsp_jobs.specs.declared.job_server.JobEnd.TheVariants.{Refused, Replaced, Stopped}
use Rattle.lsp_jobs.specs.declared.job_server.JobCommand.{JobCommand}
use Rattle.lsp_jobs.specs.declared.job_server.JobCommand.TheVariants.{Start, StartAfter, Stop}
use Rattle.lsp_jobs.specs.declared.names.JobName.{JobName}
use Rattle.lsp_jobs.specs.declared.names.JobName.TheVariants.{Request, Keyed}

abbrev pub is_that : Id → Option Id → Bool
is_that id None = false
is_that id (Some i) = eq_by_cmp id_cmp id i

-- a request under this id comes, or its cancellation
abbrev pub concerns : Id → Option Message → Bool
concerns id (Some (request i method params)) = eq_by_cmp id_cmp id i
concerns id (Some (notification method params)) = is_that id (cancelled_by method params)
concerns id came = false

-- a job ended before it came to something
abbrev pub IsLeft : {F : Type 0} → End F → Type 0
IsLeft (ended Refused) = Unit {0}
IsLeft (ended Replaced) = Unit {0}
IsLeft (ended Stopped) = Unit {0}
IsLeft end = ⊥

module _ {P : Type 0} where
  -- none of these acts replies under the id
  abbrev pub Spares : Id → List (Act P) → Type 0
  Spares id [] = Unit {0}
  Spares id (replies i outcome ∷ acts) = (same_id id i ≡ false) × Spares id acts
  Spares id (act ∷ acts) = Spares id acts

module _ {J : Type 0} where
  -- the key of a command
  abbrev pub key_of : JobCommand J → Id
  key_of (Start key job) = key
  key_of (StartAfter key time job) = key
  key_of (Stop key) = key

  -- the job that a command starts, with its key
  abbrev pub started_by : JobCommand J → Option (Id × J)
  started_by (Start key job) = Some (key, job)
  started_by (StartAfter key time job) = Some (key, job)
  started_by (Stop key) = None

  -- none of these commands is for this key
  abbrev pub LeavesAlone : Id → List (JobCommand J) → Type 0
  LeavesAlone key [] = Unit {0}
  LeavesAlone key (change ∷ changes) = (same_id key (key_of change) ≡ false) × LeavesAlone key changes

  -- The last of these commands that is for this key starts this job.
  pub record StartsLast (changes : List (JobCommand J)) (key : Id) (job : J) : Type 0 where
    pub before : List (JobCommand J)
    pub after : List (JobCommand J)
    pub start : JobCommand J
    pub started : started_by start ≡ Some (key, job)
    pub cut : changes ≡ before ++ start ∷ after
    pub alone : LeavesAlone key after

module _ {S J F P : Type 0} (may : StatedJobs S J F P) where
  -- The job of a key ended before it came to something. The server sees that, and does this.
  pub record Left : Type 0 where
    pub key : Id
    pub end : End F
    pub is_left : IsLeft end
    pub old : S
    pub acts : List (Act P)
    pub new : S
    pub saw : SeesEnd may old (Keyed key) end acts new

  -- what is done at these ends
  abbrev pub at_ends : List Left → List (Act P)
  at_ends [] = []
  at_ends (l ∷ ls) = l.acts ++ at_ends ls

-- what happens under a key
pub data KeyEvent {S J F P : Type 0} (may : StatedJobs S J F P) : Type 0 where
  -- this job starts there
  starts : Id → J → KeyEvent may
  -- its job came to something, and the server hears it
  ends_heard : Id → KeyEvent may
  -- its job ended before, and the server sees that
  ends_left : Left may → KeyEvent may

module _ {S J F P : Type 0} (may : StatedJobs S J F P) where
  -- the ends of jobs that came to nothing
  abbrev pub lefts_of : List (KeyEvent may) → List (Left may)
  lefts_of [] = []
  lefts_of (ends_left l ∷ events) = l ∷ lefts_of events
  lefts_of (event ∷ events) = lefts_of events

  -- the job under each key, and what it is after these events
  abbrev pub after_event : (Id → Option J) → KeyEvent may → Id → Option J
  after_event keys (starts key job) = λ s. if same_id s key then Some job else keys s
  after_event keys (ends_heard key) = λ s. if same_id s key then None else keys s
  after_event keys (ends_left l) = λ s. if same_id s l.key then None else keys s

  abbrev pub after_events : (Id → Option J) → List (KeyEvent may) → Id → Option J
  after_events keys events = fold after_event keys events

  -- A job starts where none is. The job that ends is there.
  abbrev pub Fits : (Id → Option J) → KeyEvent may → Type 0
  Fits keys (starts key job) = keys key ≡ None
  Fits keys (ends_heard key) = IsSome (keys key)
  Fits keys (ends_left l) = IsSome (keys l.key)

  -- Under each key starts and ends take turns: each job that starts has one end, and no other is heard or seen.
  abbrev pub TakeTurns : (Id → Option J) → List (KeyEvent may) → Type 0
  TakeTurns keys [] = Unit {0}
  TakeTurns keys (event ∷ events) = Fits keys event × TakeTurns (after_event keys event) events

  -- the job of this key ends so, if one is there
  abbrev pub MayLeave : Id → JobEnd → List (KeyEvent may) → Type 0
  MayLeave key end [] = Unit {0}
  MayLeave key end (ends_left l ∷ []) = (l.key ≡ key) × (l.end ≡ ended end)
  MayLeave key end events = ⊥

  -- What happens under its key when a job is started, before these events. It takes the place of the one that is
  -- there. If too many jobs wait and run, it ends at once.
  abbrev pub Begins : Id → J → List (KeyEvent may) → List (KeyEvent may) → Type 0
  Begins key job more events =
      (before : List (KeyEvent may)) × (after : List (KeyEvent may)) × MayLeave key Replaced before
      × MayLeave key Refused after × (events ≡ before ++ (starts key job ∷ (after ++ more)))

  -- What happens under keys at these commands, in order. A job that is to run after a time is started like any other.
  abbrev pub Becomes : List (JobCommand J) → List (KeyEvent may) → Type 0
  Becomes [] events = events ≡ []
  Becomes (Start key job ∷ changes) events =
      (more : List (KeyEvent may)) × Begins key job more events × Becomes changes more
  Becomes (StartAfter key time job ∷ changes) events =
      (more : List (KeyEvent may)) × Begins key job more events × Becomes changes more
  Becomes (Stop key ∷ changes) events =
      (before : List (KeyEvent may)) × (more : List (KeyEvent may)) × MayLeave key Stopped before
      × (events ≡ before ++ more) × Becomes changes more

module _ {S J F P : Type 0} (plain : Plain S P) (may : StatedJobs S J F P) where
  -- the server sees, one after another, how jobs ended that it replaced, stopped, or found no room for
  abbrev pub SeesLeft : S → List (Left may) → S → Type 0
  SeesLeft old [] new = new ≡ old
  SeesLeft old (l ∷ ls) new = (l.old ≡ old) × SeesLeft l.new ls new

  -- What a server did at a message, or at a wake, as far as it states that: it came from `old` to `asked`, where it was
  -- asked for its commands. These took it to `made`. Then it saw how jobs ended. `given` is the job that it gave for a
  -- long request, `heard` the name of the job whose end it heard at a wake, and `became` what happened under keys at
  -- the commands.
  pub record Turn : Type 0 where
    pub call : Call (RequestOrigin P)
    pub old : S
    pub given : Option J
    pub heard : Option JobName
    pub asked : S
    pub changes : List (JobCommand J)
    pub made : S
    pub became : List (KeyEvent may)
    pub left : List (Left may)
    pub new : S

  -- what happens under the key of a job that was heard
  abbrev pub heard_in : Option JobName → List (KeyEvent may)
  heard_in (Some (Keyed key)) = ends_heard key ∷ []
  heard_in heard = []

  -- what happens under keys in these turns
  abbrev pub events_of : List Turn → List (KeyEvent may)
  events_of [] = []
  events_of (t ∷ turns) = (heard_in t.heard ++ t.became) ++ events_of turns

  -- the job under each key after these turns
  abbrev pub keys_after : List Turn → Id → Option J
  keys_after turns = after_events may (λ key. None) (events_of turns)

  -- A message, or how the job with this name ended, takes the server from old to new, and these acts are done. It does
  -- not call that request long.
  abbrev pub IsCalled : S → Option Message → Option JobName → List (Act P) → S → Type 0
  IsCalled old (Some (request id method params)) heard acts new =
      may.is_long_post old method params false × plain.request_post old id method params acts new × (heard ≡ None)
  IsCalled old (Some (notification method params)) heard acts new =
      (plain.notification_post old method params acts new
      ⊎ ((is_initialized (notification method params) ≡ true) × plain.initialized_post old acts new))
      × (heard ≡ None)
  IsCalled old (Some (response id outcome)) heard acts new =
      (payload : P) × plain.response_post old payload outcome acts new × (heard ≡ None)
  IsCalled old None heard acts new =
      (name : JobName) × (came : Came F) × (first : List (Act P))
      × SeesEnd may old name (end_of came) first new × (acts ≡ first ++ reply_at name came) × (heard ≡ Some name)

  -- The server calls this request long and gives this job, which is for it. Nothing is done yet.
  abbrev pub IsGiven : S → List (Act (RequestOrigin P)) → Id → List ℕ → Data → J → Type 0
  IsGiven server acts id method params job =
      may.is_long_post server method params true × may.job_post server id method params job × may.is_for job method
      params
      × (acts ≡ [])

  -- The server calls this request long. It gives a job. Or this is the reply at once.
  abbrev pub IsLong : S → Id → List ℕ → Data → List (Act (RequestOrigin P)) → Type 0
  IsLong server id method params acts =
      ((job : J) × IsGiven server acts id method params job)
      ⊎ (may.is_long_post server method params true × (outcome : Outcome)
      × IsAtOnce may server id method params outcome × (acts ≡ replies id outcome ∷ []))

  -- It may come that the server does nothing: at a long request; at a reply to a job, or to nobody; at a wake at which
  -- no job ended.
  abbrev pub MayPass : S → Option Message → List (Act (RequestOrigin P)) → Type 0
  MayPass server (Some (request id method params)) acts = IsLong server id method params acts
  MayPass server (Some (notification method params)) acts = ⊥
  MayPass server (Some (response id outcome)) acts = acts ≡ []
  MayPass server None acts = Unit {0}

  -- What is done at a call is what the server did, and then at the ends of jobs that it replaced or stopped.
  abbrev pub IsTurn : Turn → Type 0
  IsTurn t =
      ((acts : List (Act P)) × IsCalled t.old t.call.came t.heard acts t.asked × may.take_commands_post t.asked
      t.changes t.made
      × SeesLeft t.made t.left t.new × (t.call.acts ≡ map by_server (acts ++ at_ends may t.left))
      × Becomes may t.changes t.became × (t.left ≡ lefts_of may t.became))
      ⊎ (MayPass t.old t.call.came t.call.acts × (t.changes ≡ []) × (t.left ≡ []) × (t.new ≡ t.old)
      × (t.heard ≡ None) × (t.became ≡ []))

  -- Turns take the server from one state to another. Each begins where the one before ended, but that the server took
  -- back what found no id for a request.
  abbrev pub AreTurns : S → List Turn → S → Type 0
  AreTurns start [] now = (payloads : List P) × TakesBack plain.ids_exhausted_post start payloads now
  AreTurns start (t ∷ turns) now =
      ((payloads : List P) × TakesBack plain.ids_exhausted_post start payloads t.old) × IsTurn t × AreTurns t.new turns
      now

  abbrev pub AllLeaveAlone : Id → List Turn → Type 0
  AllLeaveAlone key [] = Unit {0}
  AllLeaveAlone key (t ∷ turns) = LeavesAlone key t.changes × AllLeaveAlone key turns

  -- This job was started under the key in one of these turns, and no command was for the key since.
  pub record LastStart (turns : List Turn) (key : Id) (job : J) : Type 0 where
    pub before : List Turn
    pub turn : Turn
    pub since : List Turn
    pub cut : turns ≡ before ++ turn ∷ since
    pub started : StartsLast turn.changes key job
    pub alone : AllLeaveAlone key since

  -- This job is under the key: it is the last that was started there, and it did not end since.
  pub record IsIn (turns : List Turn) (key : Id) (job : J) : Type 0 where
    pub last : LastStart turns key job
    pub there : keys_after turns key ≡ Some job

  -- in none of these turns a request under this id came, or its cancellation, or a reply under it was given
  abbrev pub AllQuiet : Id → List Turn → Type 0
  AllQuiet id [] = Unit {0}
  AllQuiet id (t ∷ turns) = (concerns id t.call.came ≡ false) × Spares id t.call.acts × AllQuiet id turns

  -- The last request under this id came in one of these turns, and the server gave this job for it. The request was not
  -- cancelled since, and there was no reply to it.
  pub record LastGiven (turns : List Turn) (id : Id) (job : J) : Type 0 where
    pub before : List Turn
    pub turn : Turn
    pub since : List Turn
    pub cut : turns ≡ before ++ turn ∷ since
    pub method : List ℕ
    pub params : Data
    pub came : turn.call.came ≡ Some (request id method params)
    pub given : turn.given ≡ Some job
    pub is_given : IsGiven turn.old turn.call.acts id method params job
    pub quiet : AllQuiet id since

  -- The job of a key is the one under it. That of a request is the one that was given for it.
  abbrev pub Stands : List Turn → JobName → J → Type 0
  Stands turns (Request id) job = LastGiven turns id job
  Stands turns (Keyed key) job = IsIn turns key job

  -- a job says this at a wake: it reports, asks, or came to something, of which the server hears
  abbrev pub JobSays : Turn → JobName → J → Type 0
  JobSays t name job =
      ((method : List ℕ) × (params : Data) × may.reports job method params
      × (t.call.acts ≡ tells method params ∷ []) × (t.heard ≡ None))
      ⊎ (((method : List ℕ) × (params : Data) × (number : ℕ) × may.asks job method params
      × (t.call.acts ≡ asks method params (ByJob number) ∷ []) × (t.heard ≡ None))
      ⊎ ((came : Came F) × (first : List (Act P)) × ComesTo may.run_post job came
      × SeesEnd may t.old name (end_of came) first t.asked
      × (t.call.acts ≡ map by_server ((first ++ reply_at name came) ++ at_ends may t.left))
      × (t.heard ≡ Some name)))

  -- At a wake, after these turns, nothing is done and nothing heard, or a job says something that stands there. Or what
  -- a job asked is cancelled. Where nothing is heard, the server stays as it is (`IsTurn`).
  abbrev pub WakeDoes : List Turn → Turn → Type 0
  WakeDoes earlier t = ((t.call.acts ≡ []) × (t.heard ≡ None))
      ⊎ (((name : JobName) × (job : J) × Stands earlier name job × JobSays t name job)
      ⊎ ((number : ℕ) × (t.call.acts ≡ cancels (of_job number) ∷ []) × (t.heard ≡ None)))

  -- From the state at the result of `initialize` on, these are the turns of a server: what it began at `initialized`,
  -- and its calls. At each wake only the job under a key has a say, and only the job that a request waits for. Under
  -- each key starts and ends take turns, so of each job one end is heard or seen at most.
  pub record KeyHistory (start : S) (opening : Exchange) (begun : List (Act (RequestOrigin P)))
      (calls : List (Call (RequestOrigin P))) : Type 0 where
    pub turns : List Turn
    pub are : map (λ (t : Turn). t.call) turns
        ≡ record { came = opening.came; payload = None; acts = begun } ∷ calls
    pub last : S
    pub linked : AreTurns start turns last
    pub wakes : (earlier later : List Turn) (t : Turn) → turns ≡ earlier ++ t ∷ later → t.call.came ≡ None
        → WakeDoes earlier t
    pub once : TakeTurns may (λ key. None) (events_of turns)
