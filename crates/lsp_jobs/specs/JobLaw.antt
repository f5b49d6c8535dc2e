-- What a client sees of jobs, in the exchanges of a session: what a wake sends, and whose outcome that is.
use Rattle.serde_json.specs.Data.{Data}
use Rattle.std.specs.Prelude.{◌≡◌, ◌⊎◌, ℕ, true, false, List, [], ◌∷◌, ◌++◌, Option, Some, None}
use Rattle.lsp_message.specs.Id.{Id}
use Rattle.lsp_message.specs.Message.{Message, request}
use Rattle.lsp_session.specs.Session.{Exchange, offered, SessionAnswer, Stop, refused}
use Rattle.lsp_session.specs.SessionLaws.{EndsWithResult}
use Rattle.lsp_acts.specs.Acts.{Act, Queues, replies}
use Rattle.lsp_acts.specs.Law.{AnswersInitialize, KeepsLaws, how_many, is_reply_under}
use Rattle.lsp_acts.specs.ServerApplication.{held_by}
use Rattle.lsp_acts.specs.SentByActs.{acts_done_at, all_sends}
use Rattle.lsp_acts.specs.declared.server.Server.{Ghosts as Plain}
use Rattle.lsp_jobs.specs.Ends.{Came, ComesTo, End, Outcome, reply_of}
use Rattle.lsp_jobs.specs.JobSession.{JobSession, seen_with_jobs}
use Rattle.lsp_jobs.specs.KeyedJobLaw.{AreTurns, IsTurn, Left, Turn, WakeDoes, concerns}
use Rattle.lsp_jobs.specs.Stated.{SeesEnd, StatedJobs}
use Rattle.lsp_jobs.specs.declared.names.JobName.{JobName}
use Rattle.lsp_jobs.specs.declared.names.JobName.TheVariants.{Keyed}

-- in none of these exchanges a request under this id came, or its cancellation, or was a reply under it sent
abbrev pub IsQuiet : Id → List Exchange → Type 0
IsQuiet id [] = Unit {0}
IsQuiet id (x ∷ xs) =
    (concerns id x.came ≡ false) × (how_many (is_reply_under id) (offered x) ≡ 0) × IsQuiet id xs

-- The last request under this id has this method and these params. Since it came, no reply under the id was sent, and
-- no cancellation of it came.
pub record LastRequest (earlier : List Exchange) (id : Id) (method : List ℕ)
    (params : Data) : Type 0 where
  pub before : List Exchange
  pub asking : Exchange
  pub since : List Exchange
  pub cut : earlier ≡ before ++ asking ∷ since
  pub came : asking.came ≡ Some (request id method params)
  pub unanswered : how_many (is_reply_under id) (offered asking) ≡ 0
  pub quiet : IsQuiet id since

-- Each reply of these goes to the last request under its id, to which none was sent since it came, and which was not
-- cancelled.
abbrev pub RepliesToLast : List Exchange → List Message → Type 0
RepliesToLast earlier output =
    (id : Id) → (how_many (is_reply_under id) output ≡ 0)
    ⊎ ((method : List ℕ) × (params : Data) × LastRequest earlier id method params)

-- these acts send this, in some state of the queues
abbrev pub SendsSo : {P : Type 0} → List (Act P) → List Message → Type 0
SendsSo {P} acts output = (queues : Queues P) × (all_sends queues acts ≡ output)

-- Nothing is lost. Or no exchange follows, since the outbox refused a message, and this was to be sent after it.
abbrev pub MayLose : Stop → List Exchange → List Message → Type 0
MayLose (refused fault) [] lost = Unit {0}
MayLose stop later lost = lost ≡ []

module _ {S J F P : Type 0} (plain : Plain S P) (may : StatedJobs S J F P) where
  -- This turn was taken at this exchange: what is done in it is sent.
  abbrev pub IsTakenAt : Exchange → Turn plain may → Type 0
  IsTakenAt x t = (t.call.came ≡ x.came) × SendsSo (acts_done_at x.came t.call.acts) (offered x)

  -- one turn at each of these exchanges
  abbrev pub AreTakenAt : List Exchange → List (Turn plain may) → Type 0
  AreTakenAt [] [] = Unit {0}
  AreTakenAt (x ∷ xs) (t ∷ turns) = IsTakenAt x t × AreTakenAt xs turns
  AreTakenAt xs turns = ⊥

  -- These exchanges took the server from its first state to this one. Up to the result of `initialize` it was only
  -- initialized. Then it took these turns, one at each exchange.
  pub record Leads (first : S) (exchanges : List Exchange) (turns : List (Turn plain may)) (now : S) : Type 0 where
    pub early : List Exchange
    pub later : List Exchange
    pub cut : exchanges ≡ early ++ later
    pub result : EndsWithResult early
    pub start : S
    pub initialized : AnswersInitialize plain first early start
    pub taken : AreTakenAt later turns
    pub linked : AreTurns plain may start turns now

  -- A wake-up after these exchanges is the turn that follows theirs. The acts of the turn are sent, except those that
  -- are lost. In the turn nothing is done, or a job that stands there sends a message, or a request of a job is
  -- cancelled.
  pub record WakeSends (first : S) (earlier : List Exchange) (output : List Message) : Type 0 where
    pub turns : List (Turn plain may)
    pub turn : Turn plain may
    pub led : Leads first earlier turns turn.old
    pub is_turn : IsTurn plain may turn
    pub woken : turn.call.came ≡ None
    pub does : WakeDoes plain may turns turn
    pub lost : List Message
    pub sent : SendsSo turn.call.acts (output ++ lost)

  -- at each wake this is sent, and replies go to no other requests
  abbrev pub AnswersByJobs : S → Stop → List Exchange → Type 0
  AnswersByJobs first stop exchanges =
      (earlier later : List Exchange) (x : Exchange) → exchanges ≡ earlier ++ x ∷ later
      → x.came ≡ None
      → (wake : WakeSends first earlier (offered x)) × MayLose stop later wake.lost × RepliesToLast earlier (offered x)

  -- The last request under the id came after these exchanges, which had taken the server to this state. It called the
  -- request long and gave this job, which is for it.
  pub record JobOfLast (first : S) (earlier : List Exchange) (id : Id) (job : J) : Type 0 where
    pub method : List ℕ
    pub params : Data
    pub last : LastRequest earlier id method params
    pub turns : List (Turn plain may)
    pub server : S
    pub led : Leads first last.before turns server
    pub long : may.is_long_post server method params true
    pub gives : may.job_post server id method params job
    pub is_for : may.is_for job method params

  -- This is the reply to the last request under the id, whatever its job came to: what it may come to, or an error: it
  -- gave no reply, an allocation failed, or it ended as cancelled.
  pub record AnswersRequest (first : S) (earlier : List Exchange) (id : Id) (outcome : Outcome) : Type 0 where
    pub job : J
    pub given : JobOfLast first earlier id job
    pub came : Came F
    pub comes : ComesTo may.run_post job came
    pub reply : outcome ≡ reply_of came

  -- In this turn the server came from `old` to `new` and did this, as it heard how the job with this name ended, or saw
  -- it of one that it replaced, stopped, or found no room for.
  abbrev pub SawInTurn : Turn plain may → JobName → End F → S → List (Act P) → S → Type 0
  SawInTurn t name end old acts new =
      ((t.heard ≡ Some name) × (old ≡ t.old) × (new ≡ t.asked))
      ⊎ ((l : Left may) × (sooner : List (Left may)) × (later : List (Left may)) × (t.left ≡ sooner ++ l ∷ later)
      × (name ≡ Keyed l.key) × (end ≡ l.end) × (old ≡ l.old) × (acts ≡ l.acts) × (new ≡ l.new))

  -- At the wake after these exchanges, which sends this, the server sees how a job ended, and then answers this request
  -- by itself.
  pub record RepliesItself (first : S) (earlier : List Exchange) (output : List Message) (id : Id) (outcome : Outcome)
      : Type 0 where
    pub wake : WakeSends first earlier output
    pub name : JobName
    pub end : End F
    pub old : S
    pub before : List (Act P)
    pub after : List (Act P)
    pub new : S
    pub saw : SeesEnd may old name end (before ++ replies id outcome ∷ after) new
    pub at : SawInTurn wake.turn name end old (before ++ replies id outcome ∷ after) new

module _ (T : Type 0) {S J F P : Type 0} (plain : Plain S P) (may : StatedJobs S J F P) where
  -- a session of a server with jobs, which keeps the laws of a session of a server, and in which each job answers its
  -- own request
  pub record LawfulJobSession (first last : S) (exchanges : List Exchange) (stop : Stop)
      (answer : SessionAnswer)
      : Type 0 where
    pub session : JobSession T plain may first last exchanges stop answer
    pub laws : KeepsLaws (seen_with_jobs T plain may) session.old session.new
        (held_by (seen_with_jobs T plain may) session.session) exchanges stop answer
    pub jobs : AnswersByJobs plain may first stop exchanges
