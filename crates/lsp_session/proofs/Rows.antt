-- The exchanges of a session with all that was to be sent at them, each by a row of the table.
use Rattle.lsp_message.specs.Message.{Message}
use Rattle.lsp_session.proofs.Ran.{TurnCase, turn_case, whole, lost_reply, breaks, none_broken, phase_unbroken, row}
use Rattle.lsp_session.proofs.Ran.{ended_by, no_one, stops_by, IsSound}
use Rattle.lsp_session.specs.ProtocolError.{fault_of_refusal}
use Rattle.lsp_session.specs.Session.{Behavior, Exchange, offered, SessionAnswer, Stop, decided, refused, Phase}
use Rattle.lsp_session.specs.Session.{broken, Step, Steps, Stops}
use Rattle.lsp_session.specs.declared.lifecycle.SendFault.{SendFault}
use Rattle.std.proofs.Common.{◌≡◌, refl, sym, ◌∙◌, ap, subst, inl, inr, ◌⊎◌, List, [], ◌∷◌, ◌++◌, append_assoc, None}
use Rattle.std.specs.Prelude.{Err, MatchOption}

-- the exchange, if all of this was offered for it
abbrev pub with_all : Exchange → List Message → Exchange
with_all x lost = record { came = x.came; sent = offered x ++ lost; not_sent = None }

module _ {S : Type 0} (may : Behavior S) where
  -- rows, one after another
  abbrev pub Rows : Phase → S → List Exchange → Phase → S → Type 0
  Rows p s [] q s' = (q ≡ p) × (s' ≡ s)
  Rows p s (x ∷ xs) q s' =
      (next : Phase) × (mid : S) × Step may p s x.came (offered x) next mid × Rows next mid xs q s'

  pub rows_both : (p p' p'' : Phase) (s s' s'' : S) (xs ys : List Exchange) → Rows p s xs p' s' → Rows p' s' ys p'' s''
      → Rows p s (xs ++ ys) p'' s''
  rows_both p p' p'' s s' s'' [] ys first second = rw (sym first.0, sym first.1) second
  rows_both p p' p'' s s' s'' (x ∷ xs) ys first second =
      (first.0, first.1, first.2, rows_both first.0 p' p'' first.1 s' s'' xs ys first.3 second)

  -- The rows lead to where the session is, and all was offered. Or the outbox refused a message of the last exchange,
  -- and these were to follow it.
  abbrev pub Completes : List Exchange → List Exchange → Phase → Phase → Type 0
  Completes xs all end q =
      ((end ≡ q) × (all ≡ xs))
      ⊎ ((fault : SendFault) × (q ≡ broken fault) × (ended_by end ≡ None) × (earlier : List Exchange)
      × (last : Exchange) × (lost : List Message) × (xs ≡ earlier ++ last ∷ [])
      × (all ≡ earlier ++ with_all last lost ∷ []))

  pub rows_of : (p q : Phase) (s s' : S) (xs : List Exchange) → Steps may p s xs q s'
      → (all : List Exchange) × (end : Phase) × Rows p s all end s' × Completes xs all end q
  rows_of p q s s' [] run = (
    [],
    p,
    (refl, ap (λ (a : Phase × S). a.1) (sym run)),
    inl (ap (λ (a : Phase × S). a.0) run, refl),
  )
  rows_of p q s s' (x ∷ xs) run = at (turn_case may p run.0.0 s run.0.1 x run.1) (rows_of run.0.0 q run.0.1 s' xs run.2)
    where
      more : Step may p s x.came (offered x) run.0.0 run.0.1
          → (all : List Exchange) × (end : Phase) × Rows run.0.0 run.0.1 all end s' × Completes xs all end q
          → (all : List Exchange) × (end : Phase) × Rows p s all end s' × Completes (x ∷ xs) all end q
      more step rest = (
        x ∷ rest.0,
        rest.1,
        (run.0.0, run.0.1, step, rest.2),
        elim rest.3 [
          | inl so ↦ inl (so.0, ap (λ (l : List Exchange). x ∷ l) so.1)
          | inr broke ↦ inr (
            broke.0,
            broke.1,
            broke.2,
            x ∷ broke.3,
            broke.4,
            broke.5,
            ap (λ (l : List Exchange). x ∷ l) broke.6,
            ap (λ (l : List Exchange). x ∷ l) broke.7,
          )
        ],
      )

      at : TurnCase may p s x run.0.0 run.0.1
          → (all : List Exchange) × (end : Phase) × Rows run.0.0 run.0.1 all end s' × Completes xs all end q
          → (all : List Exchange) × (end : Phase) × Rows p s all end s' × Completes (x ∷ xs) all end q
      at (whole is step) rest = more (rw is step) rest
      at (lost_reply m i is next step) rest = more (rw (is, next) step) rest
      at (breaks m lost fault next is gone step other) rest =
          let over = none_broken may fault q run.0.1 s' xs (subst (λ (r : Phase). Steps may r run.0.1 xs q s') gone
          run.2) in
          let known = phase_unbroken may p next s run.0.1 x.came (x.sent ++ m ∷ lost) (row may p next s run.0.1 x.came
          (x.sent ++ m ∷ lost) step) in
          let going : ended_by next ≡ None = elim known.1 [
            | inl none ↦ absurd (no_one x.sent lost m none)
            | inr e ↦ e
          ] in (
            with_all x lost ∷ [],
            next,
            (next, run.0.1, rw (is, append_assoc x.sent (m ∷ []) lost) step, (refl, over.2)),
            inr (fault, over.1, going, [], x, lost, ap (λ (l : List Exchange). x ∷ l) over.0, refl),
          )

  -- Where the rows lead, the session stopped so. Or the outbox refused a message.
  abbrev pub StopsAfter : Phase → S → Stop → SessionAnswer → S → Type 0
  StopsAfter end s stop answer s' = Stops may end s stop answer s'
      ⊎ ((fault : SendFault) × (stop ≡ refused fault) × (answer ≡ Err (fault_of_refusal fault)) × (s' ≡ s)
      × (ended_by end ≡ None))

  pub stops_after : (xs all : List Exchange) (end q : Phase) (s s' : S) (stop : Stop) (answer : SessionAnswer)
      → Completes xs all end q → Stops may q s stop answer s' → StopsAfter end s stop answer s'
  stops_after xs all end q s s' stop answer (inl so) stops = inl (rw so.0 stops)
  stops_after xs all end q s s' stop answer (inr broke) stops = inr (at stop refl (rw broke.1 at stops))
    where
      at : (other : Stop) → stop ≡ other → Stops may (broken broke.0) s other answer s' → (fault : SendFault)
          × (stop ≡ refused fault) × (answer ≡ Err (fault_of_refusal fault)) × (s' ≡ s) × (ended_by end ≡ None)
      at (refused fault) is stops = (fault, is, stops.1, stops.2, broke.2)
      at other is stops = absurd stops

  -- if a message decided, the session stopped there with that answer, and elsewhere it did not
  pub decided_by : (end : Phase) (s s' : S) (stop : Stop) (answer : SessionAnswer) → StopsAfter end s stop answer s'
      → MatchOption (ended_by end) (stop ≡ decided → ⊥) (λ by. (stop ≡ decided) × (answer ≡ by))
  decided_by end s s' stop answer (inl stops) = stops_by may end end s s' stop answer (inl refl) stops
  decided_by end s s' stop answer (inr broke) = rw broke.4 (λ e. cc (sym broke.1 ∙ e))

  -- rows lead to no refusal
  pub rows_sound : (p q : Phase) (s s' : S) (xs : List Exchange) → IsSound p → Rows p s xs q s' → IsSound q
  rows_sound p q s s' [] sound run = rw run.0 sound
  rows_sound p q s s' (x ∷ xs) sound run =
      rows_sound run.0 q run.1 s' xs (phase_unbroken may p run.0 s run.1 x.came (offered x) (row may p run.0 s run.1
      x.came (offered x) run.2)).0 run.3
