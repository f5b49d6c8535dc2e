-- The turns of a server with jobs, from what its session keeps.
use Rattle.std.proofs.Common.{◌≡◌, Bool, true, false, List, [], ◌∷◌, Option, Some, None, inl, inr, refl, ◌∙◌}
use Rattle.std.specs.Bool.{MatchBool}
use Rattle.std.specs.Prelude.{IsSomeAnd}
use Rattle.lsp_acts.specs.Law.{AnswersInitialize, GivesPayloads, GoesOn, TakesPart}
use Rattle.lsp_acts.specs.declared.server.Server.{Ghosts as Plain}
use Rattle.lsp_jobs.specs.JobSession.{seen_with_jobs}
use Rattle.lsp_jobs.specs.KeyedJobLaw.{KeyHistory}
use Rattle.lsp_jobs.specs.PendingJobs.{no_jobs}
use Rattle.lsp_jobs.specs.PoolView.{pending_jobs}
use Rattle.lsp_jobs.specs.Stated.{StatedJobs}
use Rattle.lsp_jobs.specs.declared.asking.RequestOrigin.{RequestOrigin}
use Rattle.lsp_jobs.specs.declared.pooled_server.PooledServer.{PooledServer}
use Rattle.lsp_message.specs.Message.{Message}
use Rattle.lsp_message.specs.Methods.{is_initialized}
use Rattle.lsp_session.specs.Session.{Exchange, sends_of}
use Rattle.test_laws.specs.Turns.{HasTurns, HasTurnsFrom, TurnsFrom}

module _ (T : Type 0) {S J F P : Type 0} (plain : Plain S P) (may : StatedJobs S J F P)
    (turns : (start last : PooledServer T S J F) (opening : Exchange) (later : List Exchange) (m : Message)
    → pending_jobs start.pool ≡ no_jobs → opening.came ≡ Some m → is_initialized m ≡ true
    → (part : TakesPart (seen_with_jobs T plain may) start last opening later)
    → KeyHistory plain may start.server opening part.begun part.calls)
    (first : (early : List Exchange) (old start : PooledServer T S J F)
    → AnswersInitialize (seen_with_jobs T plain may) old early start → pending_jobs start.pool ≡ pending_jobs old.pool)
  where
    abbrev jobs : Plain (PooledServer T S J F) (RequestOrigin P)
    jobs = seen_with_jobs T plain may

    after : (start last : PooledServer T S J F) → pending_jobs start.pool ≡ no_jobs → (rest : List Exchange)
        → GoesOn jobs start last rest → HasTurnsFrom plain may rest
    after start last none [] goes = tt
    after start last none (x ∷ later) goes = at x.came refl goes where
      on : (m : Message) → x.came ≡ Some m → (b : Bool) → is_initialized m ≡ b
          → MatchBool b (TakesPart jobs start last x later) ((sends_of (x ∷ later) ≡ []) × (last ≡ start))
          → MatchBool b (TurnsFrom plain may x) (sends_of (x ∷ later) ≡ [])
      on m came true is part = (start.server, part.begun, part.calls, turns start last x later m none came is part)
      on m came false is rest = rest.0

      at : (came : Option Message) → x.came ≡ came
          → IsSomeAnd came (λ m. MatchBool (is_initialized m) (TakesPart jobs start last x later)
          ((sends_of (x ∷ later) ≡ []) × (last ≡ start)))
          → IsSomeAnd came (λ m. MatchBool (is_initialized m) (TurnsFrom plain may x) (sends_of (x ∷ later) ≡ []))
      at None is said = said
      at (Some m) is said = on m is (is_initialized m) refl said

    pub has_turns : (old last : PooledServer T S J F) → pending_jobs old.pool ≡ no_jobs → (exchanges : List Exchange)
        → GivesPayloads jobs old last exchanges → HasTurns plain may exchanges
    has_turns old last none exchanges (inl refused) = inl refused.0
    has_turns old last none exchanges (inr (early, rest, cut, ends, refused, start, answers, goes)) =
        inr (early, rest, cut, ends, after start last (first early old start answers ∙ none) rest goes)
