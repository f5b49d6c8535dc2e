-- An inbox over content parts that waits: what it collects, wakes that it passes over, and content parts that are no
-- messages.
use Rattle.std.proofs.Common.{arith, ◌≡◌, ◌≤◌, List, [], ◌∷◌, ◌++◌, ◌∙◌, ℕ, ap, sym, refl, append_assoc, append-nil}
use Rattle.std.proofs.Common.{inl, inr, Some, Ok, Err, Bool, true, false, true≢false, Vec, Global, length}
use Rattle.std.specs.Bool.{MatchBool}
use Rattle.lsp_message.specs.Message.{Message}
use Rattle.lsp_message.specs.declared.frame.ReadFault.{ReadFault}
use Rattle.lsp_relay.specs.declared.ends.Parcel.{Parcel}
use Rattle.lsp_relay.specs.declared.ends.Parcel.TheVariants as parcel
use Rattle.lsp_session.specs.Event.{message, closed, woken}
use Rattle.lsp_session.specs.declared.loops.ReadEnd.TheVariants.{Fault}
use Rattle.lsp_threads.proofs.ContentReads.{contents_of-append}
use Rattle.lsp_threads.specs.Contents.{bytes_of, Collects, ComesNext, Contents, contents_of, ContentsGive, HearsNothing}
use Rattle.lsp_threads.specs.Contents.{is_over, OpenGives, Receiving}

pub empty_list : {A : Type 0} (xs : List A) → length xs ≡ 0 → xs ≡ []
empty_list [] none = refl
empty_list (x ∷ xs) none = absurd (omega (arith, none))

-- more is collected
pub collects_then : (a b c : List (Parcel Contents)) (x y z : List (List ℕ)) → Collects a x b y → Collects b y c z
    → Collects a x c z
collects_then a b c x y z first second = (
  first.0 ++ second.0,
  second.1 ∙ ap (λ l. l ++ second.0) first.1 ∙ append_assoc a first.0 second.0,
  ap (λ l. x ++ l) (contents_of-append first.0 second.0) ∙ sym (append_assoc x (contents_of first.0)
      (contents_of second.0)) ∙ ap (λ l. l ++ contents_of second.0) first.2 ∙ second.2,
)

first_empty : {A : Type 0} (xs ys : List A) → xs ++ ys ≡ [] → xs ≡ []
first_empty [] ys none = refl
first_empty (x ∷ xs) ys none = absurd (cc (none))

-- one parcel, if no content part waits
pub collects_parcel : (taken new : List (Parcel Contents)) (waiting items : List (Vec ℕ Global)) (contents : Contents)
    → waiting ≡ [] → new ≡ taken ++ parcel.Message contents ∷ []
    → items ≡ contents.parts.items → Collects taken (bytes_of waiting) new (bytes_of items)
collects_parcel taken new waiting items contents none grown same =
    (parcel.Message contents ∷ [], grown, rw (none, same) (append-nil (bytes_of contents.parts.items)))

pub collects_end : (taken new : List (Parcel Contents)) (waiting : List (Vec ℕ Global)) → waiting ≡ [] → new ≡ taken
    ++ parcel.End ∷ [] → Collects taken (bytes_of waiting) new []
collects_end taken new waiting none grown = (parcel.End ∷ [], grown, rw none refl)

-- an inbox passed over wakes of the relay
abbrev pub PassesWakes : {L : Type 0} → Receiving × L → Receiving × L → Type 0
PassesWakes old new =
    (new.0.relay ≡ old.0.relay) × (old.0.wakes ≤ new.0.wakes)
    × MatchBool (is_over old.0) (new ≡ old) (Collects old.0.taken old.0.waiting new.0.taken new.0.waiting
    × (is_over new.0 ≡ false) × (new.1 ≡ old.1))

pub passes_none : {L : Type 0} (old : Receiving × L) → PassesWakes old old
passes_none {L} old = (refl, omega arith, at (is_over old.0) refl)
  where
    at : (b : Bool) → is_over old.0 ≡ b → MatchBool b (old ≡ old) (Collects old.0.taken old.0.waiting old.0.taken
        old.0.waiting × (is_over old.0 ≡ false) × (old.1 ≡ old.1))
    at true over = refl
    at false over = (([], sym (append-nil old.0.taken), append-nil old.0.waiting), over, refl)

module _ {L : Type 0} (old mid new : Receiving × L) (passed : PassesWakes old mid) where
  -- what was passed over
  abbrev Passed : Bool → Type 0
  Passed b = MatchBool b (mid ≡ old) (Collects old.0.taken old.0.waiting mid.0.taken mid.0.waiting × (is_over mid.0
      ≡ false) × (mid.1 ≡ old.1))

  -- none waited before if none does now
  pub none_waited : mid.0.waiting ≡ [] → old.0.waiting ≡ []
  none_waited none = at (is_over old.0) passed.2
    where
      at : (b : Bool) → Passed b → old.0.waiting ≡ []
      at true same = sym (ap (λ (s : Receiving × _). s.0.waiting) same) ∙ none
      at false (collects, still_open, told) = first_empty old.0.waiting (contents_of collects.0) (collects.2 ∙ none)

  -- a wake more
  pub passes_wake : ComesNext mid (Ok woken) new → PassesWakes old new
  passes_wake comes =
      let gives = comes.0 in
      (gives.0 ∙ passed.0, omega (arith, passed.1, gives.1), at (is_over old.0) refl passed.2)
    where
      more : Collects old.0.taken old.0.waiting mid.0.taken mid.0.waiting → mid.1 ≡ old.1 → OpenGives HearsNothing mid
          woken new
          → Collects old.0.taken old.0.waiting new.0.taken new.0.waiting × (is_over new.0 ≡ false) × (new.1 ≡ old.1)
      more collects told (inl (wakes, same)) = (
        collects_then old.0.taken mid.0.taken new.0.taken old.0.waiting mid.0.waiting new.0.waiting collects wakes.0,
        rw (wakes.1, wakes.2) refl,
        same ∙ told,
      )
      more collects told (inr passes) = absurd passes.7

      at : (b : Bool) → is_over old.0 ≡ b → Passed b
          → MatchBool b (new ≡ old) (Collects old.0.taken old.0.waiting new.0.taken new.0.waiting × (is_over new.0
          ≡ false) × (new.1 ≡ old.1))
      at true over same = let step = rw (same, over) at comes.0.2 in absurd (cc (step.0))
      at false going (collects, still_open, told) = more collects told (rw still_open at comes.0.2)

  module _ (passes : L → ReadFault → L → Type 0) where
    -- what comes after them
    pub message_after : (m : Message) → ComesNext mid (Ok (message m)) new → ContentsGive passes old (message m) new
    message_after m comes =
        let gives = comes.0 in
        (gives.0 ∙ passed.0, omega (arith, passed.1, gives.1), at (is_over old.0) refl passed.2)
      where
        at : (b : Bool) → is_over old.0 ≡ b → Passed b → MatchBool b ((message m ≡ closed) × (new ≡ old))
            (OpenGives passes old (message m) new)
        at true over same = let step = rw (same, over) at comes.0.2 in absurd (cc (step.0))
        at false going (collects, still_open, told) =
            let step : OpenGives HearsNothing mid (message m) new = rw still_open at comes.0.2 in
            let content = step.0.0 in
            let all = collects_then old.0.taken mid.0.taken new.0.taken old.0.waiting mid.0.waiting (content
            ∷ new.0.waiting) collects step.0.1.0 in
            ((content, (all, step.0.1.1), step.0.2), step.1 ∙ told)

    pub closed_after : ComesNext mid (Ok closed) new → ContentsGive passes old closed new
    closed_after comes =
        let gives = comes.0 in
        (gives.0 ∙ passed.0, omega (arith, passed.1, gives.1), at (is_over old.0) refl passed.2)
      where
        more : Collects old.0.taken old.0.waiting mid.0.taken mid.0.waiting → mid.1 ≡ old.1 → OpenGives HearsNothing mid
            closed new → OpenGives passes old closed new
        more collects told (inl drains, same) = (
          inl (
            collects_then old.0.taken mid.0.taken new.0.taken old.0.waiting mid.0.waiting [] collects drains.0,
            drains.1,
            drains.2,
          ),
          same ∙ told,
        )
        more collects told (inr step, same) =
            let content = step.0 in
            let all = collects_then old.0.taken mid.0.taken new.0.taken old.0.waiting mid.0.waiting (content
            ∷ new.0.waiting) collects step.1.0 in
            (inr (content, (all, step.1.1), step.2), same ∙ told)

        at : (b : Bool) → is_over old.0 ≡ b → Passed b → MatchBool b ((closed ≡ closed) × (new ≡ old)) (OpenGives passes
            old closed new)
        at true over same = let step = rw (same, over) at comes.0.2 in step
        at false going (collects, still_open, told) = more collects told (rw still_open at comes.0.2)

    -- what is no message ends the messages, or an allocation that failed
    pub fault_after : (fault : ReadFault) → ComesNext mid (Err fault) new → ContentsGive passes old closed
        (record new.0 { end = Some (Fault fault) }, new.1)
    fault_after fault comes = (comes.4 ∙ passed.0, omega (arith, passed.1, comes.3), at (is_over old.0) refl passed.2)
      where
        at : (b : Bool) → is_over old.0 ≡ b → Passed b
            → MatchBool b ((closed ≡ closed) × ((record new.0 { end = Some (Fault fault) }, new.1) ≡ old))
            (OpenGives passes old closed (record new.0 { end = Some (Fault fault) }, new.1))
        at true over same = absurd (true≢false (sym over ∙ ap (λ (t : Receiving × L). is_over t.0) (sym same)
            ∙ comes.0))
        at false going (collects, still_open, told) =
            let content = comes.1.0 in
            let all = collects_then old.0.taken mid.0.taken new.0.taken old.0.waiting mid.0.waiting (content
            ∷ new.0.waiting) collects comes.1.1.0 in
            (inr (content, (all, comes.1.1.1), comes.1.2), comes.5 ∙ told)
