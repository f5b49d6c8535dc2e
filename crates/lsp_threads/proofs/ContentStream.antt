-- What an inbox over content parts gave: it is what an inbox over the text itself gives.
use Rattle.std.proofs.Common.{arith, ◌≡◌, ◌≤◌, ◌||◌, List, [], ◌∷◌, ◌++◌, ◌∙◌, ℕ, ap, sym, refl, append_assoc}
use Rattle.std.proofs.Common.{append-nil, inl, inr, Option, Some, None, is_some, Ok, Err, subst, Bool, true, false}
use Rattle.std.proofs.lemmas.List.{append_cancel_left}
use Rattle.std.specs.Bool.{MatchBool}
use Rattle.std.specs.Io.KnownBytes.{Keeps}
use Rattle.std.specs.List.{FoldsTo}
use mathlib.Core.List.{IsPrefix}
use Rattle.lsp_message.proofs.ContentParts.{content_outcome, same_rest}
use Rattle.lsp_message.proofs.Contents.{frame_unread}
use Rattle.lsp_message.specs.Frame.{body_means, reading_within}
use Rattle.lsp_message.specs.Gathering.{TakesFront}
use Rattle.lsp_message.specs.Messages.{is_exit}
use Rattle.lsp_message.specs.Message.{Message}
use Rattle.lsp_message.specs.Reading.{Reading, found}
use Rattle.lsp_message.specs.ReadingSteps.{Decodes}
use Rattle.lsp_message.specs.declared.frame.ReadFault.{ReadFault}
use Rattle.lsp_message.specs.declared.frame.ReadFault.TheVariants.{BodyNotText, NoJson, NoMessage, Batch, Input}
use Rattle.lsp_message.specs.declared.frame.ReadFault.TheVariants.{Memory as NoMemory}
use Rattle.lsp_message.specs.declared.frame.limits.Limits.{Limits}
use Rattle.lsp_relay.specs.Relay.{ended, has_end, Sending}
use Rattle.lsp_relay.specs.declared.ends.Parcel.{Parcel}
use Rattle.lsp_relay.specs.declared.ends.Parcel.TheVariants as parcel
use Rattle.lsp_session.proofs.Passing.{GivesOr}
use Rattle.lsp_session.specs.Event.{Event, message, closed, woken}
use Rattle.lsp_session.specs.Passing.{is_bad_content}
use Rattle.lsp_session.specs.Streams.{Stream, StreamReads, Reads}
use Rattle.lsp_session.specs.declared.loops.ReadEnd.{ReadEnd}
use Rattle.lsp_session.specs.declared.loops.ReadEnd.TheVariants.{Exit, End, Fault}
use Rattle.lsp_threads.proofs.ContentReads.{contents_of-append}
use Rattle.lsp_threads.specs.Contents.{ArrivesAs, BeginsWithContent, Collects, Contents, contents_of, ContentsGive}
use Rattle.lsp_threads.specs.Contents.{GivesContent, HandsWhole, is_over, OpenGives, ReadsContents, Receiving, StopsAt}
use Rattle.lsp_threads.specs.Threads.{session_end}

-- ---- what was taken
-- what was taken stays taken
collected : (old_taken taken : List (Parcel Contents)) (old_waiting waiting : List (List ℕ)) → Collects old_taken
    old_waiting taken waiting → IsPrefix old_taken taken
collected old_taken taken old_waiting waiting collects = (collects.0, sym collects.1)

gives_collected : (event : Event) (old new : Receiving) → GivesContent old new event → IsPrefix old.taken new.taken
gives_collected event old new gives = collected old.taken new.taken old.waiting (gives.0 ∷ new.waiting) gives.1.0

-- of an inbox and its policy
module _ {L : Type 0} (passes : L → ReadFault → L → Type 0) where
  abbrev Run : Receiving × L → List Event → Receiving × L → Type 0
  Run = FoldsTo (ContentsGive passes)

  -- an inbox keeps the relay
  pub gives_relay : (events : List Event) (old new : Receiving × L) → Run old events new → new.0.relay ≡ old.0.relay
  gives_relay [] old new run = sym (ap (λ (t : Receiving × L). t.0.relay) run)
  gives_relay (event ∷ events) old new run = gives_relay events run.0 new run.2 ∙ run.1.0

  -- wakes that were taken stay taken
  wakes_grow : (events : List Event) (old new : Receiving × L) → Run old events new → old.0.wakes ≤ new.0.wakes
  wakes_grow [] old new run = omega (arith, ap (λ (t : Receiving × L). t.0.wakes) run)
  wakes_grow (event ∷ events) old new run = omega (arith, run.1.1, wakes_grow events run.0 new run.2)

  open_grows : (event : Event) (old new : Receiving × L) → OpenGives passes old event new → IsPrefix old.0.taken
      new.0.taken
  open_grows (message m) old new gives = gives_collected (message m) old.0 new.0 gives.0
  open_grows closed old new gives = elim gives.0 [
    | inl drains ↦ collected old.0.taken new.0.taken old.0.waiting [] drains.0
    | inr came ↦ gives_collected closed old.0 new.0 came
  ]
  open_grows woken old new (inl wakes) = collected old.0.taken new.0.taken old.0.waiting new.0.waiting wakes.0.0
  open_grows woken old new (inr passes) = collected old.0.taken new.0.taken old.0.waiting (passes.0 ∷ new.0.waiting)
      passes.2.0
  open_grows event old new gives = absurd gives

  gives_grow : (event : Event) (old new : Receiving × L) (over : Bool) → MatchBool over ((event ≡ closed) × (new ≡ old))
      (OpenGives passes old event new)
      → IsPrefix old.0.taken new.0.taken
  gives_grow event old new true same = ([], append-nil old.0.taken ∙ ap (λ (t : Receiving × L). t.0.taken) (sym same.1))
  gives_grow event old new false gives = open_grows event old new gives

  grows : (events : List Event) (old new : Receiving × L) → Run old events new → IsPrefix old.0.taken new.0.taken
  grows [] old new run = ([], append-nil old.0.taken ∙ ap (λ (t : Receiving × L). t.0.taken) run)
  grows (event ∷ events) old new run =
      let first = gives_grow event old run.0 (is_over old.0) run.1.2 in
      let later = grows events run.0 new run.2 in
      (first.0 ++ later.0, sym (append_assoc old.0.taken first.0 later.0) ∙ ap (λ l. l ++ later.0) first.1 ∙ later.1)

-- nothing follows End
none_behind : (a b : List (Parcel Contents)) → a ++ b ≡ [] → b ≡ []
none_behind [] b same = same
none_behind (x ∷ a) b same = absurd (cc (same))

nothing_after : (parcels : List Contents) (taken later : List (Parcel Contents)) → taken ++ later ≡ ended parcels
    → has_end taken ≡ true → later ≡ []
nothing_after parcels [] later same has = absurd (cc (has))
nothing_after [] (parcel.Message x ∷ taken) later same has = absurd (cc (same))
nothing_after [] (parcel.End ∷ taken) later same has = let tails : taken ++ later ≡ [] = cc (same) in none_behind taken
    later tails
nothing_after (p ∷ parcels) (parcel.Message x ∷ taken) later same has = let tails : taken ++ later ≡ ended parcels = cc
    (same) in nothing_after parcels taken later tails has
nothing_after (p ∷ parcels) (parcel.End ∷ taken) later same has = absurd (cc (same))

-- neither test holds
neither : (a b : Bool) → (a || b) ≡ false → (a ≡ false) × (b ≡ false)
neither true b none = absurd (cc (none))
neither false b none = (refl, none)

not_ended : (end : Option ReadEnd) → is_some end ≡ false → end ≡ None
not_ended None none = refl
not_ended (Some end) none = absurd (cc (none))

module _ (limit : Limits) where
  -- bytes that were read are the first
  front : (at : List ℕ) → TakesFront (Some at) (Some (reading_within limit at).rest)
  front at = let unread = frame_unread body_means limit at in (unread.0, some_is unread.1)
    where
      some_is : {x y : List ℕ} → Some x ≡ Some y → x ≡ y
      some_is e = cc (e)

  -- a content part that means this is read so
  content_read : (at content rest : List ℕ) → BeginsWithContent limit at content rest
      → (reading_within limit at).outcome ≡ found (body_means content)
  content_read at content rest begins = content_outcome body_means limit at content
      (ap (λ (r : Reading (List ℕ)). r.outcome) begins)

  rest_is : (at content rest : List ℕ) → BeginsWithContent limit at content rest → (reading_within limit at).rest ≡ rest
  rest_is at content rest begins = same_rest body_means limit at ∙ ap (λ (r : Reading (List ℕ)). r.rest) begins

  reads_one : (at content rest : List ℕ) (m : Message) → BeginsWithContent limit at content rest → body_means content
      ≡ Ok m → Reads limit (Some at) (Ok (Some m)) (Some rest)
  reads_one at content rest m begins means =
      let left = rest_is at content rest begins in
      ((content_read at content rest begins ∙ ap found means, ap Some (sym left)), rw left at (front at))

  -- how an inbox over the text finds a content part that is no message
  fails : (fault : ReadFault) (at content rest : List ℕ) → BeginsWithContent limit at content rest
      → Decodes (λ (m : Message). m) (Err fault) (body_means content)
      → (left : Option (List ℕ)) × StreamReads limit (Some at) closed (Some (Fault fault)) left
  fails (Input kind) at content rest begins decodes = (Some at, (frame_unread body_means limit at, ([], refl)))
  fails NoMemory at content rest begins decodes = (Some at, (frame_unread body_means limit at, ([], refl)))
  fails fault at content rest begins decodes = (
    Some (reading_within limit at).rest,
    ((content_read at content rest begins ∙ ap found decodes, refl), front at),
  )

  -- and how it reads one that is passed over
  read_as : (fault : ReadFault) (at content rest : List ℕ) → BeginsWithContent limit at content rest
      → body_means content ≡ Err fault
      → (((reading_within limit at).outcome ≡ Err fault) × (Some rest ≡ Some (reading_within limit at).rest))
      × TakesFront (Some at) (Some rest)
  read_as fault at content rest begins means =
      let left = rest_is at content rest begins in
      ((content_read at content rest begins ∙ ap found means, ap Some (sym left)), rw left at (front at))

  passes_read : (fault : ReadFault) (at content rest : List ℕ) → is_bad_content fault ≡ true → BeginsWithContent limit
      at
      content rest → body_means content ≡ Err fault
      → Reads limit (Some at) (Err fault) (Some rest)
  passes_read BodyNotText at content rest is begins means = read_as BodyNotText at content rest begins means
  passes_read NoJson at content rest is begins means = read_as NoJson at content rest begins means
  passes_read NoMessage at content rest is begins means = read_as NoMessage at content rest begins means
  passes_read Batch at content rest is begins means = read_as Batch at content rest begins means
  passes_read fault at content rest is begins means = absurd (cc (is))

  -- how it finds that no more come
  closes : (end : ReadEnd) (at : List ℕ) → StopsAt limit at end → (left : Option (List ℕ)) × StreamReads limit (Some at)
      closed (Some end) left
  closes End at stops = (
    Some (reading_within limit at).rest,
    (
      (ap (λ (r : Reading Message). r.outcome) stops.1, refl),
      front at,
    ),
  )
  closes (Fault (Input kind)) at stops = (Some at, (frame_unread body_means limit at, ([], refl)))
  closes (Fault NoMemory) at stops = (Some at, (frame_unread body_means limit at, ([], refl)))
  closes (Fault fault) at stops = (
    Some (reading_within limit at).rest,
    ((ap (λ (r : Reading Message). r.outcome) stops.2, refl), front at),
  )
  closes end at stops = absurd stops

  -- an inbox that ends as `new`, if these parcels follow up to End; a wake that was taken tells that others can wake it
  module _ {L : Type 0} (passes : L → ReadFault → L → Type 0) (others : Type 0) (read : ReadEnd) (new : Receiving × L)
      (woke : 1 ≤ new.0.wakes → others)
      (rest : List (Parcel Contents)) (parcels : List Contents) (whole : new.0.taken ++ rest ≡ ended parcels) where
    -- these content parts come after those that were given
    abbrev ToCome : Receiving → List (List ℕ) → Type 0
    ToCome old contents = (later : List (Parcel Contents)) × (new.0.taken ++ rest ≡ old.taken ++ later) × (old.waiting
        ++ contents_of later ≡ contents)

    -- what comes first of them, and what comes then
    comes : (events : List Event) (old mid : Receiving × L) (contents waiting : List (List ℕ)) → Collects old.0.taken
        old.0.waiting mid.0.taken waiting → Run passes mid events new
        → ToCome old.0 contents → (later : List (Parcel Contents)) × (new.0.taken ++ rest ≡ mid.0.taken ++ later)
        × (contents ≡ waiting ++ contents_of later)
    comes events old mid contents waiting collects run to_come =
        let grown = grows passes events mid new run in
        let later = grown.0 ++ rest in
        let after : new.0.taken ++ rest ≡ mid.0.taken ++ later = ap (λ l. l ++ rest) (sym grown.1)
        ∙ append_assoc mid.0.taken grown.0 rest in
        let all = sym to_come.1 ∙ after ∙ ap (λ l. l ++ later) collects.1 ∙ append_assoc old.0.taken collects.0 later in
        let parts : to_come.0 ≡ collects.0 ++ later = append_cancel_left old.0.taken to_come.0 (collects.0 ++ later)
        all in (
          later,
          after,
          sym to_come.2 ∙ ap (λ ps. old.0.waiting ++ contents_of ps) parts ∙ ap (λ l. old.0.waiting ++ l)
              (contents_of-append collects.0 later)
              ∙ sym (append_assoc old.0.waiting (contents_of collects.0) (contents_of later))
              ∙ ap (λ l. l ++ contents_of later) collects.2,
        )

    -- an inbox over a text did the same, and ended so
    abbrev Over : List Event → Stream × L → Stream × L → Type 0
    Over events old s = FoldsTo (GivesOr others passes limit) old events s × (s.0.end ≡ session_end new.0.end
        (has_end new.0.taken) read) × (s.1 ≡ new.1)

    abbrev going : List ℕ → L → Stream × L
    going at policy = (record { remaining = Some at; end = None }, policy)

    abbrev done : ReadEnd → Option (List ℕ) → L → Stream × L
    done end left policy = (record { remaining = left; end = Some end }, policy)

    keeps : (left : Option (List ℕ)) → Keeps left left
    keeps None = tt
    keeps (Some bytes) = refl

    when_over : (events : List Event) (old : Receiving × L) (end : ReadEnd) (left : Option (List ℕ))
        → is_over old.0 ≡ true
        → session_end old.0.end (has_end old.0.taken) read ≡ Some end → Run passes old events new
        → Over events (done end left old.1) (done end left old.1)
    when_over [] old end left over ends run = (
      refl,
      sym ends ∙ ap (λ (t : Receiving × L). session_end t.0.end (has_end t.0.taken) read) run,
      ap (λ (t : Receiving × L). t.1) run,
    )
    when_over (closed ∷ events) old end left over ends run =
        let same = rw over at run.1.2 in
        let later = when_over events old end left over ends (rw same.1 at run.2) in
        ((done end left old.1, ((refl, refl, keeps left), refl), later.0), later.1, later.2)
    when_over (event ∷ events) old end left over ends run = let same = rw over at run.1.2 in absurd (cc (same.0))

    -- after a content part that is a message
    module _ (m : Message) (events : List Event) (policy : L) (mid : Receiving × L) (at content next : List ℕ)
        (still_open : has_end mid.0.taken ≡ false)
        (begins : BeginsWithContent limit at content next) (means : body_means content ≡ Ok m) (same : mid.1 ≡ policy)
        (run : Run passes mid events new) where
      after_message : (b : Bool) → is_exit m ≡ b → ArrivesAs content (message m) mid.0.end
          → (is_exit m ≡ false → is_over mid.0 ≡ false → mid.0.end ≡ None → (s : Stream × L)
          × Over events (going next mid.1) s)
          → (s : Stream × L) × Over (message m ∷ events) (going at policy) s
      after_message true exits arrives again =
          let end : mid.0.end ≡ Some Exit = rw exits at arrives.1 in
          let later = when_over events mid Exit (Some next) (rw (still_open, end) refl) (rw (still_open, end)
          refl) run in (
            done Exit (Some next) mid.1,
            (
              (
                done Exit (Some next) mid.1,
                ((rw exits refl, reads_one at content next m begins means), same),
                later.0,
              ),
              later.1,
              later.2,
            ),
          )
      after_message false goes arrives again =
          let end : mid.0.end ≡ None = rw goes at arrives.1 in
          let later = again goes (rw (still_open, end) refl) end in (
            later.0,
            (
              (going next mid.1, ((rw goes refl, reads_one at content next m begins means), same), later.1.0),
              later.1.1,
              later.1.2,
            ),
          )

    goes_on : (events : List Event) (old : Receiving × L) (at : List ℕ) (contents : List (List ℕ)) → is_over old.0
        ≡ false → ToCome old.0 contents
        → ReadsContents limit at read contents → Run passes old events new → (s : Stream × L)
        × Over events (going at old.1) s
    goes_on [] old at contents over to_come reads run =
        let none = neither (has_end old.0.taken) (is_some old.0.end) over in (
          going at old.1,
          (
            refl,
            rw (sym run, not_ended old.0.end none.1, none.0) refl,
            ap (λ (t : Receiving × L). t.1) run,
          ),
        )
    goes_on (message m ∷ events) old at contents over to_come reads run =
        let gives : GivesContent old.0 run.0.0 (message m) × (run.0.1 ≡ old.1) = rw over at run.1.2 in
        let content = gives.0.0 in
        let next = comes events old run.0 contents (content ∷ run.0.0.waiting) gives.0.1.0 run.2 to_come in
        let reads' : ReadsContents limit at read (content ∷ run.0.0.waiting ++ contents_of next.0) = subst
        (ReadsContents limit at read) next.2 reads in
        after_message m events old.1 run.0 at content reads'.0 gives.0.1.1 reads'.1 gives.0.2.0 gives.1 run.2
        (is_exit m) refl gives.0.2
        (λ goes over' ended'. goes_on events run.0 reads'.0 (run.0.0.waiting ++ contents_of next.0) over' (
          next.0,
          next.1,
          refl,
        ) reads'.2 run.2)
    goes_on (closed ∷ events) old at contents over to_come reads run = pick (rw over at run.1.2)
      where
        bad : run.0.1 ≡ old.1 → (content : List ℕ) → Collects old.0.taken old.0.waiting run.0.0.taken (content
            ∷ run.0.0.waiting) → has_end run.0.0.taken ≡ false
            → (end : Option ReadEnd) → run.0.0.end ≡ end → ArrivesAs content closed end → (s : Stream × L)
            × Over (closed ∷ events) (going at old.1) s
        bad same content collects still_open (Some (Fault fault)) ends arrives =
            let next = comes events old run.0 contents (content ∷ run.0.0.waiting) collects run.2 to_come in
            let reads' : ReadsContents limit at read (content ∷ run.0.0.waiting ++ contents_of next.0) = subst
            (ReadsContents limit at read) next.2 reads in
            let left = fails fault at content reads'.0 reads'.1 arrives in
            let later = when_over events run.0 (Fault fault) left.0 (rw (still_open, ends) refl) (rw ends refl)
            run.2 in (
              done (Fault fault) left.0 run.0.1,
              (
                (done (Fault fault) left.0 run.0.1, (left.1, same), later.0),
                later.1,
                later.2,
              ),
            )
        bad same content collects still_open end ends arrives = absurd arrives

        pick : OpenGives passes old closed run.0 → (s : Stream × L) × Over (closed ∷ events) (going at old.1) s
        pick (inl drains, same) =
            let next = comes events old run.0 contents [] drains.0 run.2 to_come in
            let none = nothing_after parcels run.0.0.taken next.0 (sym next.1 ∙ whole) drains.1 in
            let reads' : StopsAt limit at read = subst (ReadsContents limit at read) (next.2 ∙ ap contents_of none)
            reads in
            let left = closes read at reads' in
            let later = when_over events run.0 read left.0 (rw drains.1 refl) (rw (drains.2, drains.1) refl) run.2 in
            (done read left.0 run.0.1, ((done read left.0 run.0.1, (left.1, same), later.0), later.1, later.2))
        pick (inr gives, same) = bad same gives.0 gives.1.0 gives.1.1 run.0.0.end refl gives.2
    goes_on (woken ∷ events) old at contents over to_come reads run =
        let gives : OpenGives passes old woken run.0 = rw over at run.1.2 in
        elim gives [
          | inl came ↦
              let wakes = came.0 in
              let next = comes events old run.0 contents run.0.0.waiting wakes.0 run.2 to_come in
              let later = goes_on events run.0 at contents (rw (wakes.1, wakes.2) refl) (next.0, next.1, sym next.2)
              reads run.2 in
              let may = woke (omega (arith, wakes.3, wakes_grow passes events run.0 new run.2)) in
              (later.0, ((going at run.0.1, inl (may, refl, ap (going at) came.1), later.1.0), later.1.1, later.1.2))
          | inr passes ↦
              let content = passes.0 in
              let next = comes events old run.0 contents (content ∷ run.0.0.waiting) passes.2.0 run.2 to_come in
              let reads' : ReadsContents limit at read (content ∷ run.0.0.waiting ++ contents_of next.0) = subst
              (ReadsContents limit at read) next.2 reads in
              let later = goes_on events run.0 reads'.0 (run.0.0.waiting ++ contents_of next.0) (rw (
                passes.2.1,
                passes.3,
              ) refl) (next.0, next.1, refl) reads'.2 run.2 in
              let read_so = passes_read passes.1 at content reads'.0 passes.5 reads'.1 passes.6 in (
                later.0,
                (
                  (going reads'.0 run.0.1, inr (passes.1, passes.5, read_so, passes.7, refl, refl), later.1.0),
                  later.1.1,
                  later.1.2,
                ),
              )
        ]
    goes_on (event ∷ events) old at contents over to_come reads run = let gives = rw over at run.1.2 in absurd gives

  -- what is taken to the end begins with what the inbox took
  taken_first : (b : Bool) (inbox taken sent : List (Parcel Contents)) → MatchBool b (taken ≡ inbox)
      ((more : List Contents) × (taken ≡ inbox ++ ended more)) → IsPrefix taken sent
      → IsPrefix inbox sent
  taken_first true inbox taken sent same settled = (settled.0, ap (λ l. l ++ settled.0) (sym same) ∙ settled.1)
  taken_first false inbox taken sent more settled = (
    ended more.0 ++ settled.0,
    sym (append_assoc inbox (ended more.0) settled.0) ∙ ap (λ l. l ++ settled.0)
        (sym more.1) ∙ settled.1,
  )

  module _ {L : Type 0} (passes : L → ReadFault → L → Type 0) (others : Type 0) (inbox inbox' : Receiving × L)
      (none : inbox.0.taken ≡ []) (all_given : inbox.0.waiting ≡ []) (unended : inbox.0.end ≡ None)
      (events : List Event) (run : Run passes inbox events inbox') (woke : 1 ≤ inbox'.0.wakes → others)
      (taken : List (Parcel Contents)) (tx back : Sending Contents)
      (drained : MatchBool (has_end inbox'.0.taken) (taken ≡ inbox'.0.taken) ((more : List Contents)
      × (taken ≡ inbox'.0.taken ++ ended more)))
      (settled : IsPrefix taken back.sent) (read : ReadEnd) where
    -- what the inbox did over the relay, as an inbox over the text
    pub as_stream : (text : List ℕ) → HandsWhole limit text tx read back
        → (s : Stream × L) × (FoldsTo (GivesOr others passes limit) (
          record { remaining = Some text; end = None },
          inbox.1,
        ) events s
        × (s.0.end ≡ session_end inbox'.0.end (has_end inbox'.0.taken) read) × (s.1 ≡ inbox'.1))
    as_stream text handed =
        let begun = taken_first (has_end inbox'.0.taken) inbox'.0.taken taken back.sent drained settled in
        goes_on passes others read inbox' woke begun.0 handed.0.0 (begun.1 ∙ handed.0.1) events inbox text
        (contents_of back.sent) (rw (none, unended) refl)
        (back.sent, begun.1 ∙ ap (λ l. l ++ back.sent) (sym none), ap (λ l. l ++ contents_of back.sent) all_given)
        handed.1 run
