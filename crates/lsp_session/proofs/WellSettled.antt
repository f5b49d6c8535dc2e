-- A session that ended well, over a reader and a writer: all that was offered was sent, also a reply that is noted as
-- refused, since the writer has it.
use Rattle.lsp_message.specs.Frame.{Begins, reading_within}
use Rattle.lsp_message.specs.Message.{Message}
use Rattle.lsp_message.specs.declared.frame.limits.Limits.{Limits}
use Rattle.lsp_session.proofs.WellNoted.{AllTaken}
use Rattle.lsp_session.specs.Session.{AfterRefusal, Behavior, Exchange, IsOffered, Phase, SessionOut, Steps, Stop}
use Rattle.lsp_session.specs.Session.{Stops}
use Rattle.lsp_session.specs.Session.{TakesTurn, and_refused, asked, broken, decided, ended, exhausted}
use Rattle.lsp_session.specs.Session.{messages_of, no_more, offered, refused, replied, sends_of, serving, starting}
use Rattle.lsp_session.specs.Session.{timed_out}
use Rattle.lsp_session.specs.SessionBytes.{LeftAfter, ReadsMessage}
use Rattle.lsp_session.specs.declared.lifecycle.SendFault.{SendFault}
use Rattle.lsp_session.specs.declared.loops.handler.SessionEnd.{SessionEnd}
use Rattle.std.proofs.Common.{◌≡◌, refl, sym, ◌∙◌, ap, subst, ℕ, List, [], ◌∷◌, ◌++◌, map, Option, Some, None}
use Rattle.std.specs.List.{FoldsTo, cons_option, filter_map}
use Rattle.std.specs.Prelude.{Ok}

-- the exchange, with all that was offered as sent
abbrev pub settled : Exchange → Exchange
settled x = record { came = x.came; sent = offered x; not_sent = None }

pub messages_settled : (xs : List Exchange) → messages_of (map settled xs) ≡ messages_of xs
messages_settled [] = refl
messages_settled (x ∷ xs) = ap (λ ms. cons_option x.came ms) (messages_settled xs)

pub sends_settled : (xs : List Exchange) → sends_of (map settled xs) ≡ sends_of xs
sends_settled [] = refl
sends_settled (x ∷ xs) = ap (λ ms. offered x ++ ms) (sends_settled xs)

pub all_settled : (xs : List Exchange) → AllTaken (map settled xs)
all_settled [] = tt
all_settled (x ∷ xs) = (refl, all_settled xs)

-- the messages of a text
pub messages_come : (limit : Limits) (text : List ℕ) (came : List (Option Message)) (at : List ℕ)
    → FoldsTo (ReadsMessage limit) text came at → FoldsTo (Begins limit) text (filter_map (λ c. c) came) at
messages_come limit text [] at read = read
messages_come limit text (Some m ∷ came) at read = (read.0, read.1, messages_come limit read.0 came at read.2)
messages_come limit text (None ∷ came) at read = absurd read.1

-- what is left
pub left_after : (limit : Limits) (stop : Stop) (at : List ℕ) (remaining : Option (List ℕ))
    → LeftAfter limit stop at remaining
    → (left : List ℕ) × (remaining ≡ Some left) × (stop ≡ decided → at ≡ left)
    × (stop ≡ no_more → reading_within limit at ≡ record { outcome = Ok None; rest = left })
left_after limit decided at remaining is = (at, is, λ e. refl, λ e. absurd (cc (e)))
left_after limit no_more at remaining (rest, reads, is) = (rest, is, λ e. absurd (cc (e)), λ e. reads)
left_after limit timed_out at remaining is = absurd is
left_after limit (refused fault) at remaining is = absurd is
left_after limit exhausted at remaining is = absurd is

-- a refused message after which the session is not broken is the last one that was to be sent
refused_last : (more : List Message) (next new : Phase) → AfterRefusal more next new
    → ((fault : SendFault) → new ≡ broken fault → ⊥) → (more ≡ []) × (new ≡ next)
refused_last [] (asked i) new is never = (refl, is)
refused_last [] starting new is never = absurd (never is.0 is.1)
refused_last [] replied new is never = absurd (never is.0 is.1)
refused_last [] serving new is never = absurd (never is.0 is.1)
refused_last [] (broken fault) new is never = absurd (never is.0 is.1)
refused_last [] (ended by) new is never = absurd (never is.0 is.1)
refused_last (m ∷ more) next new is never = absurd (never is.0 is.1)

module _ {H : Type 0} (plain : Behavior H) where
  -- a broken session has no good end
  never_broken : (fault : SendFault) (h h' h'' : H) (q : Phase) (xs : List Exchange) (stop : Stop) (end : SessionEnd)
      → Steps plain (broken fault) h xs q h' → Stops plain q h' stop (Ok end) h'' → ⊥
  never_broken fault h h' h'' q [] stop end run stops = at stop (subst (λ (p : Phase × H). Stops plain p.0 p.1 stop
      (Ok end) h'') (sym run) stops)
    where
      at : (stop : Stop) → Stops plain (broken fault) h stop (Ok end) h'' → ⊥
      at decided stops = stops
      at no_more stops = stops
      at timed_out stops = stops
      at (refused by) stops = cc (stops.1)
      at exhausted stops = stops
  never_broken fault h h' h'' q (x ∷ xs) stop end run stops = run.1.step

  turn_settled : (p q : Phase) (h h' : H) (x : Exchange) → TakesTurn plain (p, h) x (q, h')
      → ((fault : SendFault) → q ≡ broken fault → ⊥) → TakesTurn plain (p, h) (settled x) (q, h')
  turn_settled p q h h' x turn never =
      let offers = at x.not_sent turn.offers in
      record { given = turn.given; next = turn.next; step = turn.step; offers = offers }
    where
      at : (lost : Option Message) → IsOffered turn.given x.sent lost turn.next q
          → (and_refused x.sent lost ≡ turn.given) × (q ≡ turn.next)
      at None offers = offers
      at (Some m) (more, cut, after) =
          let last = refused_last more turn.next q after never in (
            ap (λ ms. x.sent ++ m ∷ ms) (sym last.0) ∙ sym cut,
            last.1,
          )

  steps_settled : (p q : Phase) (h h' h'' : H) (xs : List Exchange) (stop : Stop) (end : SessionEnd)
      → Steps plain p h xs q h' → Stops plain q h' stop (Ok end) h'' → Steps plain p h (map settled xs) q h'
  steps_settled p q h h' h'' [] stop end run stops = run
  steps_settled p q h h' h'' (x ∷ xs) stop end run stops = (
    run.0,
    turn_settled p run.0.0 h run.0.1 x run.1 (λ fault is. never_broken fault run.0.1 h' h'' q xs stop end (subst
        (λ (r : Phase). Steps plain r run.0.1 xs q h') is run.2) stops),
    steps_settled run.0.0 q run.0.1 h' h'' xs stop end run.2 stops,
  )

  pub settled_out : (old new : H) (xs : List Exchange) (stop : Stop) (end : SessionEnd) → SessionOut plain old new xs
      stop
      (Ok end) → SessionOut plain old new (map settled xs) stop (Ok end)
  settled_out old new xs stop end out = record {
    last = out.last;
    after = out.after;
    reached = steps_settled starting out.last old out.after new xs stop end out.reached out.stopped;
    stopped = out.stopped;
  }
