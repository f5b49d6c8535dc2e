-- What one more entry adds to what the entries of a side come to.
use Rattle.std.proofs.Common.{◌≡◌, ℕ, ◌+◌, ◌≤◌, List, [], ◌∷◌, ◌++◌, length, take, drop, refl, sym, ap, ◌∙◌, subst}
use Rattle.std.proofs.Common.{arith, append-nil, append_assoc, length-append, length-drop}
use Rattle.std.proofs.lemmas.Grind.{flat_map-append}
use Rattle.std.proofs.lemmas.List.{take-append-le, drop-append-le, drop-drop}
use Rattle.std.proofs.Math.Seq.{take-add}
use Rattle.std.specs.List.{flat_map, AllByRecursion}
use Rattle.std.specs.Option.{option_map_or}
use Rattle.std.specs.Prelude.{Option, None, Some, nat_le, if◌then◌else◌, true, false, Bool}
use Rattle.lsp_message.specs.Id.{Id}
use Rattle.lsp_peers.specs.declared.step.Outcome.{Outcome}
use Rattle.lsp_peers.specs.declared.step.Outcome.TheVariants.{Waiting}
use Rattle.lsp_peers.specs.declared.step.Side.{Side}
use Rattle.lsp_peers.specs.declared.step.Side.TheVariants.{A, B}
use Rattle.lsp_peers.specs.declared.step.Step.{Step}
use Rattle.lsp_peers.specs.History.{Entry, payload_in, arrival_in, closed_in, replied_in, returned_in, count_in}
use Rattle.lsp_peers.specs.History.{bytes_in, taken_count, passed_count, frames_written, frames_taken, frames_left}
use Rattle.lsp_peers.specs.History.{outcome_of_taking, Follows, only_of, entries_of, AllFollow, IsHistory}
use Rattle.lsp_peers.specs.Post.{Post}
use Rattle.lsp_peers.specs.SentFrame.{SentFrame, first_passed}
use Rattle.lsp_peers.specs.Sides.{side_of, other}

abbrev pub entry : Step → Outcome → List SentFrame → Entry
entry step outcome wrote = record { step = step; outcome = outcome; wrote = wrote }

-- what an entry is, by its step and outcome
abbrev pub payload_of : Entry → List ℕ
payload_of e = payload_in e.step e.outcome

abbrev pub label_of_arrival : Entry → List ℕ
label_of_arrival e = arrival_in e.step e.outcome

abbrev pub closed_id : Entry → List Id
closed_id e = closed_in e.step e.outcome

abbrev pub replied_id : Entry → List Id
replied_id e = replied_in e.step e.outcome

abbrev pub returned_id : Entry → List Id
returned_id e = returned_in e.step e.outcome

-- what comes of taking this frame, if there is one
abbrev pub taking : List Entry → List Entry → Option SentFrame → Outcome
taking own others o = option_map_or (λ sent_frame. outcome_of_taking own others sent_frame.message) o Waiting

-- an entry follows those that were before it
abbrev pub Happens : List Entry → Entry → Type 0
Happens before e = Follows (entries_of (side_of e.step) before) (entries_of (other (side_of e.step)) before) e

-- the frames of one direction, by the entries of the side that takes them and of the one that writes them
abbrev pub post_of : List Entry → List Entry → Post
post_of own others =
    record {
      taken = frames_taken own others;
      waiting = frames_left own others;
      passed = passed_count own;
    }

-- ---- one more entry

pub flat_push : {X Y : Type 0} (f : X → List Y) (xs : List X) (x : X) → flat_map f (xs ++ x ∷ []) ≡ flat_map f xs ++ f x
flat_push f xs x = flat_map-append f xs (x ∷ []) ∙ ap (λ l. flat_map f xs ++ l) (append-nil (f x))

pub flat_push_none : {X Y : Type 0} (f : X → List Y) (xs : List X) (x : X) → f x ≡ [] → flat_map f (xs ++ x ∷ [])
    ≡ flat_map f xs
flat_push_none f xs x none = flat_push f xs x ∙ ap (λ l. flat_map f xs ++ l) none ∙ append-nil (flat_map f xs)

pub length-push : {X : Type 0} (xs : List X) (x : X) → length (xs ++ x ∷ []) ≡ length xs + 1
length-push xs x = length-append xs (x ∷ [])

pub count_push : (entries : List Entry) (e : Entry) → taken_count (entries ++ e ∷ []) ≡ taken_count entries + count_in
    e.step e.outcome
count_push [] e = omega arith
count_push (x ∷ entries) e = omega (arith, count_push entries e)

pub passed_push : (entries : List Entry) (e : Entry) → passed_count (entries ++ e ∷ []) ≡ passed_count entries
    + bytes_in e.step e.outcome
passed_push [] e = omega arith
passed_push (x ∷ entries) e = omega (arith, passed_push entries e)

pub written_push : (entries : List Entry) (e : Entry) → frames_written (entries ++ e ∷ []) ≡ frames_written entries
    ++ e.wrote
written_push entries e = flat_push (λ (x : Entry). x.wrote) entries e

-- the frames of a side that takes no more
module _ (own others : List Entry) (e : Entry) (none : count_in e.step e.outcome ≡ 0) where
  same_count : taken_count (own ++ e ∷ []) ≡ taken_count own
  same_count = omega (arith, count_push own e, none)

  pub left_same : frames_left (own ++ e ∷ []) others ≡ frames_left own others
  left_same = ap (λ (n : ℕ). drop n (frames_written others)) same_count

  pub taken_same : frames_taken (own ++ e ∷ []) others ≡ frames_taken own others
  taken_same = ap (λ (n : ℕ). take n (frames_written others)) same_count

-- of one that takes one more
module _ (own others : List Entry) (e : Entry) (one : count_in e.step e.outcome ≡ 1) (sent_frame : SentFrame)
    (rest : List SentFrame) (first : frames_left own others ≡ sent_frame ∷ rest) where
  next_count : taken_count (own ++ e ∷ []) ≡ taken_count own + 1
  next_count = count_push own e ∙ ap (λ (n : ℕ). taken_count own + n) one

  pub left_took : frames_left (own ++ e ∷ []) others ≡ rest
  left_took = ap (λ (n : ℕ). drop n (frames_written others)) next_count
      ∙ sym (drop-drop 1 (taken_count own) (frames_written others)) ∙ ap (λ (l : List SentFrame). drop 1 l) first

  pub taken_took : frames_taken (own ++ e ∷ []) others ≡ frames_taken own others ++ sent_frame ∷ []
  taken_took = ap (λ (n : ℕ). take n (frames_written others)) next_count
      ∙ take-add (taken_count own) 1 (frames_written others)
      ∙ ap (λ (l : List SentFrame). frames_taken own others ++ take 1 l) first

  pub within_took : taken_count own ≤ length (frames_written others) → taken_count (own ++ e ∷ []) ≤ length
      (frames_written others)
  within_took within = omega (
    arith,
    next_count,
    within,
    length-drop (taken_count own) (frames_written others),
    ap (λ (l : List SentFrame). length l) first,
  )

-- of the other side
module _ (own others : List Entry) (e : Entry) (within : taken_count own ≤ length (frames_written others)) where
  pub left_wrote : frames_left own (others ++ e ∷ []) ≡ frames_left own others ++ e.wrote
  left_wrote = ap (λ (l : List SentFrame). drop (taken_count own) l) (written_push others e)
      ∙ drop-append-le (taken_count own) (frames_written others) e.wrote within

  pub taken_wrote : frames_taken own (others ++ e ∷ []) ≡ frames_taken own others
  taken_wrote = ap (λ (l : List SentFrame). take (taken_count own) l) (written_push others e)
      ∙ take-append-le (taken_count own) (frames_written others) e.wrote within

  pub within_wrote : taken_count own ≤ length (frames_written (others ++ e ∷ []))
  within_wrote = omega (
    arith,
    within,
    ap (λ (l : List SentFrame). length l) (written_push others e),
    length-append (frames_written others) e.wrote,
  )

-- the next frame is the first that is left
pub next_first : (before passed : ℕ) (left : List SentFrame) (sent_frame : SentFrame) → first_passed before passed left
    ≡ Some sent_frame → (rest : List SentFrame) × (left ≡ sent_frame ∷ rest)
next_first before passed [] sent_frame is = cc
next_first before passed (l ∷ left) sent_frame is = (left, go (nat_le (before + length l.frame) passed) is)
  where
    go : (b : Bool) → (if b then Some l else None) ≡ Some sent_frame → l ∷ left ≡ sent_frame ∷ left
    go true e = let f : l ≡ sent_frame = cc in ap (λ x. x ∷ left) f
    go false e = cc

-- ---- one more entry of a history

pub of_own : (side : Side) (history : List Entry) (e : Entry) → side_of e.step ≡ side → entries_of side (history ++ e
    ∷ []) ≡ entries_of side history ++ e ∷ []
of_own side history e is =
    flat_push (λ (x : Entry). only_of side (side_of x.step) x) history e ∙ ap (λ (l : List Entry). entries_of side
    history ++ l) (ap (λ (s : Side). only_of side s e) is ∙ at side)
  where
    at : (s : Side) → only_of s s e ≡ e ∷ []
    at A = refl
    at B = refl

pub of_other : (side : Side) (history : List Entry) (e : Entry) → side_of e.step ≡ side → entries_of (other side)
    (history ++ e ∷ []) ≡ entries_of (other side) history
of_other side history e is =
    flat_push_none (λ (x : Entry). only_of (other side) (side_of x.step) x) history e
    (ap (λ (s : Side). only_of (other side) s e) is ∙ at side)
  where
    at : (s : Side) → only_of (other s) s e ≡ []
    at A = refl
    at B = refl

follow_more : (before entries : List Entry) (e : Entry) → AllFollow before entries → Happens (before ++ entries) e
    → AllFollow before (entries ++ e ∷ [])
follow_more before [] e all happens = (subst (λ (l : List Entry). Happens l e) (append-nil before) happens, tt)
follow_more before (x ∷ entries) e all happens = (
  all.0,
  follow_more (before ++ x ∷ []) entries e all.1 (subst (λ (l : List Entry). Happens l e)
      (sym (append_assoc before (x ∷ []) entries)) happens),
)

pub history_more : (history : List Entry) (e : Entry) → IsHistory history → Happens history e → IsHistory (history ++ e
    ∷ [])
history_more history e lawful happens = follow_more [] history e lawful happens

beginning : (before xs ys : List Entry) → AllFollow before (xs ++ ys) → AllFollow before xs
beginning before [] ys all = tt
beginning before (x ∷ xs) ys all = (all.0, beginning (before ++ x ∷ []) xs ys all.1)

pub beginning_of : (xs ys : List Entry) → IsHistory (xs ++ ys) → IsHistory xs
beginning_of xs ys all = beginning [] xs ys all

pub last_of : (before xs : List Entry) (e : Entry) → AllFollow before (xs ++ e ∷ []) → Happens (before ++ xs) e
last_of before [] e all = subst (λ (l : List Entry). Happens l e) (sym (append-nil before)) all.0
last_of before (x ∷ xs) e all = subst (λ (l : List Entry). Happens l e) (append_assoc before (x ∷ []) xs)
    (last_of (before ++ x ∷ []) xs e all.1)

-- one of these, of which all have this
pub all_at : {X : Type 0} (P : X → Type 0) (before rest all : List X) (x : X) → before ++ x ∷ rest ≡ all
    → AllByRecursion P all → P x
all_at {X} P before rest all x is holds = at before (subst (AllByRecursion P) (sym is) holds)
  where
    at : (before : List X) → AllByRecursion P (before ++ x ∷ rest) → P x
    at [] holds = holds.0
    at (y ∷ before) holds = at before holds.1
