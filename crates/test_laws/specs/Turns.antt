-- The turns of a server with jobs, over a whole session.
use Rattle.std.specs.Bool.{MatchBool}
use Rattle.std.specs.Prelude.{◌≡◌, ◌⊎◌, List, [], ◌∷◌, ◌++◌, IsSomeAnd}
use Rattle.lsp_acts.specs.Acts.{Act}
use Rattle.lsp_acts.specs.Law.{Call}
use Rattle.lsp_acts.specs.declared.server.Server.{Ghosts as Plain}
use Rattle.lsp_jobs.specs.KeyedJobLaw.{KeyHistory}
use Rattle.lsp_jobs.specs.Stated.{StatedJobs}
use Rattle.lsp_jobs.specs.declared.asking.RequestOrigin.{RequestOrigin}
use Rattle.lsp_message.specs.Methods.{is_initialized}
use Rattle.lsp_session.specs.Session.{Exchange, sends_of}
use Rattle.lsp_session.specs.SessionLaws.{AllRefused, EndsWithResult}

module _ {S J F P : Type 0} (plain : Plain S P) (may : StatedJobs S J F P) where
  -- a server has turns from this exchange on
  abbrev pub TurnsFrom : Exchange → Type 0
  TurnsFrom opening =
      (start : S) × (begun : List (Act (RequestOrigin P))) × (calls : List (Call (RequestOrigin P)))
      × KeyHistory plain may start opening begun calls

  -- from `initialized` on the server has its turns; without it nothing is sent
  abbrev pub HasTurnsFrom : List Exchange → Type 0
  HasTurnsFrom [] = Unit {0}
  HasTurnsFrom (x ∷ later) =
      IsSomeAnd x.came (λ m.
      MatchBool (is_initialized m) (TurnsFrom x) (sends_of (x ∷ later) ≡ []))

  -- Errors alone are sent. Or `initialize` gets its result, and the server has its turns after it.
  abbrev pub HasTurns : List Exchange → Type 0
  HasTurns exchanges =
      AllRefused exchanges
      ⊎ ((early : List Exchange) × (rest : List Exchange) × (exchanges ≡ early ++ rest) × EndsWithResult early
      × HasTurnsFrom rest)
