-- Which job it is that stands for a request: the one that was given for the last request under the id, in the exchanges
-- of a session.
use Rattle.serde_json.specs.Data.{Data}
use Rattle.std.proofs.Common.{◌≡◌, ◌⊎◌, refl, sym, ◌∙◌, ap, subst, inl, inr, ℕ, false, List, [], ◌∷◌, ◌++◌}
use Rattle.std.proofs.Common.{append_assoc, Some}
use Rattle.lsp_message.specs.Id.{Id}
use Rattle.lsp_message.specs.Message.{Message, request}
use Rattle.lsp_session.specs.Session.{Exchange, offered}
use Rattle.lsp_acts.specs.Law.{how_many, is_reply_under}
use Rattle.lsp_acts.specs.SentByActs.{acts_done_at, all_sends}
use Rattle.lsp_acts.specs.declared.server.Server.{Ghosts as Plain}
use Rattle.lsp_jobs.proofs.Answering.{mute, settled_spares}
use Rattle.lsp_jobs.specs.JobLaw.{AreTakenAt, IsQuiet, IsTakenAt, JobOfLast, Leads}
use Rattle.lsp_jobs.specs.KeyedJobLaw.{AllQuiet, AreTurns, LastGiven, Spares, Turn, concerns}
use Rattle.lsp_jobs.specs.Stated.{StatedJobs}

module _ {S J F P : Type 0} (plain : Plain S P) (may : StatedJobs S J F P) where
  -- where no reply is given under the id, none is sent
  silent_at : (id : Id) (x : Exchange) (t : Turn plain may) → IsTakenAt plain may x t → Spares id t.call.acts
      → (concerns id x.came ≡ false) ⊎ ((method : List ℕ) × (params : Data)
      × (x.came ≡ Some (request id method params))) → how_many (is_reply_under id) (offered x) ≡ 0
  silent_at id x t taken spares calm =
      ap (how_many (is_reply_under id)) (sym taken.1.1)
      ∙ mute id (acts_done_at x.came t.call.acts) taken.1.0 (settled_spares x.came t.call.acts id spares calm)

  quiet_at : (id : Id) (xs : List Exchange) (turns : List (Turn plain may)) → AreTakenAt plain may xs turns
      → AllQuiet plain may id turns → IsQuiet id xs
  quiet_at id [] [] taken quiet = tt
  quiet_at id [] (t ∷ turns) taken quiet = absurd taken
  quiet_at id (x ∷ xs) [] taken quiet = absurd taken
  quiet_at id (x ∷ xs) (t ∷ turns) taken quiet =
      let calm : concerns id x.came ≡ false = ap (concerns id) (sym taken.0.0) ∙ quiet.0 in
      (calm, silent_at id x t taken.0 quiet.1 (inl calm), quiet_at id xs turns taken.1 quiet.2)

  -- the exchange of one of these turns
  record Place (xs : List Exchange) (before : List (Turn plain may)) (t : Turn plain may)
      (since : List (Turn plain may)) : Type 0 where
    earlier : List Exchange
    at : Exchange
    later : List Exchange
    cut : xs ≡ earlier ++ at ∷ later
    first : AreTakenAt plain may earlier before
    taken : IsTakenAt plain may at t
    rest : AreTakenAt plain may later since

  place : (xs : List Exchange) (before : List (Turn plain may)) (t : Turn plain may) (since : List (Turn plain may))
      → AreTakenAt plain may xs (before ++ t ∷ since) → Place xs before t since
  place [] [] t since taken = absurd taken
  place [] (b ∷ before) t since taken = absurd taken
  place (x ∷ xs) [] t since taken = record {
    earlier = [];
    at = x;
    later = xs;
    cut = refl;
    first = tt;
    taken = taken.0;
    rest = taken.1;
  }
  place (x ∷ xs) (b ∷ before) t since taken =
      let p = place xs before t since taken.1 in record {
        earlier = x ∷ p.earlier;
        at = p.at;
        later = p.later;
        cut = ap (λ (l : List Exchange). x ∷ l) p.cut;
        first = (taken.0, p.first);
        taken = p.taken;
        rest = p.rest;
      }

  -- the turns before one lead to it
  led_to : (start now : S) (before since : List (Turn plain may)) (t : Turn plain may)
      → AreTurns plain may start (before ++ t ∷ since) now → AreTurns plain may start before t.old
  led_to start now [] since t are = are.0
  led_to start now (b ∷ before) since t are = (are.0, are.1, led_to b.new now before since t are.2)

  pub job_of_last : (first : S) (earlier : List Exchange) (turns : List (Turn plain may)) (now : S) (id : Id) (job : J)
      → Leads plain may first earlier turns now → LastGiven plain may turns id job
      → JobOfLast plain may first earlier id job
  job_of_last first earlier turns now id job led l =
      let p = place led.later l.before l.turn l.since (subst (AreTakenAt plain may led.later) l.cut led.taken) in
      let came : p.at.came ≡ Some (request id l.method l.params) = sym p.taken.0 ∙ l.came in
      record {
        method = l.method;
        params = l.params;
        last = record {
          before = led.early ++ p.earlier;
          asking = p.at;
          since = p.later;
          cut = led.cut ∙ ap (λ (xs : List Exchange). led.early ++ xs) p.cut
              ∙ sym (append_assoc led.early p.earlier (p.at ∷ p.later));
          came = came;
          unanswered = silent_at id p.at l.turn p.taken (subst (Spares id) (sym l.is_given.3) tt)
              (inr (l.method, l.params, came));
          quiet = quiet_at id p.later l.since p.rest l.quiet;
        };
        turns = l.before;
        server = l.turn.old;
        led = record {
          early = led.early;
          later = p.earlier;
          cut = refl;
          result = led.result;
          start = led.start;
          initialized = led.initialized;
          taken = p.first;
          linked = led_to led.start now l.before l.since l.turn
              (subst (λ (ts : List (Turn plain may)). AreTurns plain may led.start ts now) l.cut led.linked);
        };
        long = l.is_given.0;
        gives = l.is_given.1;
        is_for = l.is_given.2;
      }
