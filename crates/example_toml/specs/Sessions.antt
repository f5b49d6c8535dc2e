-- What the author of the server knows of each of its sessions.
use Rattle.serde_json.specs.Data.{Data}
use Rattle.std.specs.Prelude.{◌≡◌, ℕ, List}
use Rattle.lsp_acts.specs.Law.{IsWhole, NeverMore, OnceOrEnded, how_many, is_request_under}
use Rattle.lsp_acts.specs.ServerApplication.{ServerSession, held_by}
use Rattle.lsp_acts.specs.declared.server.Server.{Ghosts as Plain}
use Rattle.lsp_diagnostics.specs.Answered.{AnswersFromOpenTexts}
use Rattle.lsp_diagnostics.specs.Shown.{ShowsOpenTexts}
use Rattle.lsp_jobs.specs.Ends.{Outcome}
use Rattle.lsp_jobs.specs.JobLaw.{LawfulJobSession}
use Rattle.lsp_jobs.specs.Stated.{StatedJobs}
use Rattle.lsp_message.specs.Id.{Id}
use Rattle.lsp_session.specs.Session.{Exchange, SessionAnswer, Stop, messages_of}
use Rattle.lsp_text.specs.Lines.{LinedText}

-- A session with jobs keeps the laws of one without. What it shows at wake-ups belongs to the texts that are open then.
-- What it replies at wake-ups is about the texts that were open when the request arrived.
pub record TomlSession (T : Type 0) {S J F P : Type 0} (are : LinedText → List Data → Type 0)
    (answers : List (List ℕ × LinedText) → List ℕ → Data → Outcome → Type 0) (plain : Plain S P)
    (may : StatedJobs S J F P) (first last : S) (exchanges : List Exchange) (stop : Stop) (answer : SessionAnswer)
    : Type 0 where
  pub session : LawfulJobSession T plain may first last exchanges stop answer
  pub shows : ShowsOpenTexts are exchanges
  pub replies : AnswersFromOpenTexts answers exchanges

-- A session without a pool, from the server's first state to its last. In no prefix of the session did the client get
-- more replies under an id than it had sent requests. A request whose id it used once has exactly one reply. This has
-- two exceptions: the server still holds the request, or the session ended at it, since the lifecycle does not allow
-- it. If a write or an allocation failed, replies may be missing.
pub record AnswersOnce {S P : Type 0} (may : Plain S P) (first last : S) (exchanges : List Exchange) (stop : Stop)
    (answer : SessionAnswer) : Type 0 where
  pub session : ServerSession may first last exchanges stop answer
  pub no_more : (id : Id) → NeverMore id exchanges
  pub answered : IsWhole stop → (id : Id)
      → how_many (is_request_under id) (messages_of exchanges) ≡ 1
      → OnceOrEnded id exchanges stop (held_by may session) answer
