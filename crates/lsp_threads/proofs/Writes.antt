-- Marks of texts, and the writes of the thread that takes the texts.
use Rattle.std.proofs.Common.{◌≡◌, ◌<◌, refl, sym, ◌∙◌, ap, subst, inl, inr, ◌⊎◌, ℕ, List, [], ◌∷◌, ◌++◌, append-nil}
use Rattle.std.proofs.Common.{append_assoc, Option, Some, None, Result, Ok, Err, IfErr, string_bytes}
use Rattle.std.proofs.Common.{arith, false, length}
use Rattle.std.specs.List.{concat}
use Rattle.std.specs.Prelude.{is_some}
use mathlib.Core.List.{IsPrefix}
use Rattle.std.proofs.lemmas.List.Folds.{concat-append}
use Rattle.lsp_message.specs.Told.{Parts, Given, WritesText}
use Rattle.lsp_message.specs.Written.{IsOutput}
use Rattle.lsp_message.specs.declared.frame.WriteFault.{WriteFault}
use Rattle.lsp_message.specs.declared.frame.WriteFault.TheVariants.{Output, Memory as NoMemory}
use Rattle.lsp_relay.specs.declared.ends.Parcel.{Parcel}
use Rattle.lsp_relay.specs.declared.ends.Parcel.TheVariants as parcel
use Rattle.lsp_message.specs.declared.frame.byte_trace.ByteTrace.{ByteTrace}
use Rattle.lsp_threads.proofs.Frames.{parcel_bytes-push, Unwritten}
use Rattle.lsp_threads.specs.Framing.{parcel_bytes, WritesBytes}
use Rattle.lsp_threads.specs.Passing.{IsFlushed, IsFlushedUnless, noted}
use Rattle.lsp_threads.specs.Writes.{AddsMark, all_marks, AllWrites, Begun, EachWrite, EndsAtMark, given_before}
use Rattle.lsp_threads.specs.Writes.{IsAmong, KeepsMarks, Mark, marks_after, marks_of, NotesWrite}
use Rattle.lsp_threads.specs.declared.frame_text.FrameText.{FrameText}

-- ---- marks
module _ (mark : Mark) where
  pub among_split : (a b : List Mark) → IsAmong mark (a ++ b) → IsAmong mark a ⊎ IsAmong mark b
  among_split [] b is = inr is
  among_split (x ∷ a) b (inl same) = inl (inl same)
  among_split (x ∷ a) b (inr more) = elim (among_split a b more) [
    | inl first ↦ inl (inr first)
    | inr last ↦ inr last
  ]

  pub among_first : (a b : List Mark) → IsAmong mark a → IsAmong mark (a ++ b)
  among_first [] b is = absurd is
  among_first (x ∷ a) b (inl same) = inl same
  among_first (x ∷ a) b (inr more) = inr (among_first a b more)

  pub among_last : (a b : List Mark) → IsAmong mark b → IsAmong mark (a ++ b)
  among_last [] b is = is
  among_last (x ∷ a) b is = inr (among_last a b is)

  only : (x : Mark) → IsAmong mark (x ∷ []) → mark ≡ x
  only x (inl same) = same
  only x (inr none) = absurd none

  -- it is one of these, or the last
  pub first_or_last : (a : List Mark) (x : Mark) → IsAmong mark (a ++ x ∷ []) → IsAmong mark a ⊎ (mark ≡ x)
  first_or_last a x is = elim (among_split a (x ∷ []) is) [
    | inl first ↦ inl first
    | inr last ↦ inr (only x last)
  ]

abbrev mark_of : FrameText → List ℕ → Mark
mark_of t before = record { taken = t.taken.parts; bytes = before ++ string_bytes t.text }

-- one text more
marks-push : (before : List ℕ) (sent : List (Parcel FrameText)) (t : FrameText) → marks_after before (sent
    ++ parcel.Message t ∷ []) ≡ marks_after before sent ++ mark_of t (before ++ parcel_bytes sent) ∷ []
marks-push before [] t = ap (λ l. mark_of t l ∷ []) (sym (append-nil before))
marks-push before (parcel.Message x ∷ sent) t =
    let now = before ++ string_bytes x.text in
    ap (λ l. mark_of x before ∷ l) (marks-push now sent t ∙ ap (λ l. marks_after now sent ++ mark_of t l ∷ [])
    (append_assoc before (string_bytes x.text) (parcel_bytes sent)))
marks-push before (parcel.End ∷ sent) t = marks-push before sent t

pub marks-end : (before : List ℕ) (sent : List (Parcel FrameText)) → marks_after before (sent ++ parcel.End ∷ [])
    ≡ marks_after before sent
marks-end before [] = refl
marks-end before (parcel.Message x ∷ sent) = ap (λ l. mark_of x before ∷ l) (marks-end (before ++ string_bytes x.text)
    sent)
marks-end before (parcel.End ∷ sent) = marks-end before sent

-- a text more was sent or taken
module _ (sent now : List (Parcel FrameText)) (t : FrameText) (grown : now ≡ sent ++ parcel.Message t ∷ []) where
  pub text_added : AddsMark (marks_of sent) t.taken.parts (parcel_bytes sent ++ string_bytes t.text) (marks_of now)
  text_added mark is = first_or_last mark (marks_of sent) _ (subst (IsAmong mark) (ap marks_of grown ∙ marks-push []
      sent t) is)

  -- it is the last, and the earlier ones are there still
  pub text_last : IsAmong (record { taken = t.taken.parts; bytes = parcel_bytes now }) (marks_of now)
  text_last =
      let last : Mark = record { taken = t.taken.parts; bytes = parcel_bytes now } in
      subst (IsAmong last) (sym (ap marks_of grown ∙ marks-push [] sent t)) (among_last last (marks_of sent) _
      (inl (ap (λ l. record { taken = t.taken.parts; bytes = l }) (ap parcel_bytes grown ∙ parcel_bytes-push sent t))))

  pub text_keeps : (mark : Mark) → IsAmong mark (marks_of sent) → IsAmong mark (marks_of now)
  text_keeps mark is = subst (IsAmong mark) (sym (ap marks_of grown ∙ marks-push [] sent t)) (among_first mark
      (marks_of sent) _ is)

-- no text was added
pub same_marks : (old new : List Mark) → new ≡ old → KeepsMarks old new
same_marks old new same mark is = subst (IsAmong mark) same is

pub none_added : (old new : List Mark) (taken : Parts) (bytes : List ℕ) → KeepsMarks old new → AddsMark old taken bytes
    new
none_added old new taken bytes keeps mark is = inl (keeps mark is)

pub keeps_then : (a b c : List Mark) → KeepsMarks a b → KeepsMarks b c → KeepsMarks a c
keeps_then a b c first second mark is = first mark (second mark is)

pub adds_then : (a b c : List Mark) (taken : Parts) (bytes : List ℕ) → AddsMark a taken bytes b → KeepsMarks b c
    → AddsMark a taken bytes c
adds_then a b c taken bytes first second mark is = first mark (second mark is)

pub keeps_adds : (a b c : List Mark) (taken : Parts) (bytes : List ℕ) → KeepsMarks a b → AddsMark b taken bytes c
    → AddsMark a taken bytes c
keeps_adds a b c taken bytes first second mark is = elim (second mark is) [
  | inl old ↦ inl (first mark old)
  | inr same ↦ inr same
]

-- ---- an outbox that holds frames
-- what was held was sent, or nothing
module _ (sent now : List (Parcel FrameText)) (taken : Parts) (held left : List ℕ)
    (adds : AddsMark (marks_of sent) taken (parcel_bytes sent ++ held) (marks_of now)) where
  pub held_kept : KeepsMarks (all_marks sent taken held) (marks_of now)
  held_kept mark is = elim (adds mark is) [
    | inl old ↦ among_first mark (marks_of sent) _ old
    | inr same ↦ among_last mark (marks_of sent) _ (inl same)
  ]

  pub held_sent : parcel_bytes now ++ left ≡ parcel_bytes sent ++ held
      → KeepsMarks (all_marks sent taken held) (all_marks now taken left)
  held_sent bytes mark is = elim (first_or_last mark (marks_of now) _ is) [
    | inl first ↦ held_kept mark first
    | inr same ↦ among_last mark (marks_of sent) _ (inl (same ∙ ap (λ l. record { taken = taken; bytes = l }) bytes))
  ]

-- other frames are held
pub held_now : (sent : List (Parcel FrameText)) (taken before : Parts) (held left bytes : List ℕ)
    → parcel_bytes sent ++ held ≡ bytes
    → AddsMark (all_marks sent before left) taken bytes (all_marks sent taken held)
held_now sent taken before held left bytes is mark among = at (first_or_last mark (marks_of sent) _ among)
  where
    at : IsAmong mark (marks_of sent) ⊎ (mark ≡ record { taken = taken; bytes = parcel_bytes sent ++ held })
        → IsAmong mark (all_marks sent before left) ⊎ (mark ≡ record { taken = taken; bytes = bytes })
    at (inl old) = inl (among_first mark (marks_of sent) _ old)
    at (inr same) = inr (same ∙ ap (λ l. record { taken = taken; bytes = l }) is)

-- ---- writes
module _ (P : Parts → List ℕ → Type 0) where
  given_push : (writes : List Begun) (taken old new : Parts) → given_before (writes
      ++ record { taken = taken; given = old } ∷ []) new ≡ given_before writes old
  given_push [] taken old new = refl
  given_push (write ∷ writes) taken old new = refl

  each-push : (writes : List Begun) (taken old new : Parts) → EachWrite P writes old → IsFlushed old
      → P taken (concat new) → EachWrite P (writes ++ record { taken = taken; given = old } ∷ []) new
  each-push [] taken old new each flushed is = (is, flushed, tt)
  each-push (write ∷ writes) taken old new each flushed is = (
    subst (λ parts. P write.taken (concat parts)) (sym (given_push writes taken old new)) each.0,
    each.1,
    each-push writes taken old new each.2 flushed is,
  )

  -- one write more, or none
  pub writes_more : (before : Option WriteFault) (text : List ℕ) (taken old new : Parts) (writes writes' : List Begun)
      → AllWrites P writes old → NotesWrite before text taken old new writes writes'
      → (before ≡ None → IsFlushed old)
      → (before ≡ None → 0 < length text → (part : List ℕ) → IsPrefix part text → P taken (concat old ++ part))
      → AllWrites P writes' new
  writes_more before text taken old new writes writes' all (inl same) flushed is = rw (same.0, same.1) all
  writes_more before text taken old new writes writes' all (inr (none, some, begun, (part, first, grown))) flushed is =
      let now = is none some part first in
      rw begun (
        given_push writes taken old new ∙ all.0,
        each-push writes taken old new all.1 (flushed none) (subst (P taken) (sym grown) now),
      )

-- another thing is said of each
module _ (P Q : Parts → List ℕ → Type 0) (to : (taken : Parts) (given : List ℕ) → P taken given → Q taken given) where
  each-as : (writes : List Begun) (given : Parts) → EachWrite P writes given → EachWrite Q writes given
  each-as [] given each = tt
  each-as (write ∷ writes) given each = (
    to write.taken (concat (given_before writes given)) each.0,
    each.1,
    each-as writes given each.2,
  )

  pub writes-as : (writes : List Begun) (given : Parts) → AllWrites P writes given → AllWrites Q writes given
  writes-as writes given all = (all.0, each-as writes given all.1)

-- texts that were taken later change nothing
pub ends_later : (old new : List Mark) → ((mark : Mark) → IsAmong mark old → IsAmong mark new) → (taken : Parts)
    (given : List ℕ) → EndsAtMark old taken given → EndsAtMark new taken given
ends_later old new keeps taken given (bytes, among, first) = (bytes, keeps _ among, first)

not_failed : (before : Option WriteFault) → is_some before ≡ false → before ≡ None
not_failed None none = refl
not_failed (Some fault) none = absurd (cc (none))

-- a write, as the traces have it
pub write_noted : (before : Option WriteFault) (text : List ℕ) (taken old new : Parts) (writes writes' : List Begun)
    (a b : Option (List ℕ)) (r : Result (Unit {0}) WriteFault) → is_some before ≡ false → 0 < length text
    → IfErr r IsOutput → Given (WritesText text r) old new a b
    → writes' ≡ writes ++ record { taken = taken; given = old } ∷ []
    → NotesWrite before text taken old new writes writes'
write_noted before text taken old new writes writes' a b r none some output given begun = inr (
  not_failed before none,
  some,
  begun,
  (concat given.0, first r output given.2, ap concat given.1.added ∙ concat-append old given.0),
)
  where
    first : (r : Result (Unit {0}) WriteFault) → IfErr r IsOutput → WritesText text r given.0 → IsPrefix
        (concat given.0) text
    first (Ok done) output is = ([], append-nil (concat given.0) ∙ sym is.0)
    first (Err (Output kind)) output is = (is.0, sym is.1)
    first (Err NoMemory) output is = absurd output

-- What was taken and is not written: it ends with the text that has this mark, or it is nothing.
abbrev pub HeldMark : List ℕ → Parts → List ℕ → List Mark → Type 0
HeldMark pending last bytes marks = (pending ≡ []) ⊎ IsAmong (record { taken = last; bytes = bytes }) marks

-- of the thread that writes, when it writes what it holds
module _ (taken : List (Parcel FrameText)) (pending : List ℕ) (last : Parts) (before : Option WriteFault)
    (writes writes' : List Begun) (first now new : ByteTrace) (none : first.parts ≡ [])
    (unwritten : Unwritten (parcel_bytes taken) pending before (noted first) (noted now))
    (held : HeldMark pending last (parcel_bytes taken) (marks_of taken)) (flushed : IsFlushedUnless before now.parts)
    (all : AllWrites (EndsAtMark (marks_of taken)) writes now.parts)
    (notes : NotesWrite before pending last now.parts new.parts writes writes') where
  up_to_here : before ≡ None → 0 < length pending → (part : List ℕ) → IsPrefix part pending
      → EndsAtMark (marks_of taken) last (concat now.parts ++ part)
  up_to_here is some part begins = at held
    where
      written : concat now.parts ≡ concat first.parts ++ unwritten.0
      written = subst (λ b. WritesBytes unwritten.0 b (noted first) (noted now)) is unwritten.2

      so_far : concat now.parts ≡ unwritten.0
      so_far = written ∙ ap (λ l. concat l ++ unwritten.0) none

      at : HeldMark pending last (parcel_bytes taken) (marks_of taken) → EndsAtMark (marks_of taken) last
          (concat now.parts ++ part)
      at (inl empty) = absurd (omega (arith, ap length empty, some))
      at (inr among) = (
        parcel_bytes taken,
        among,
        (
          begins.0,
          append_assoc (concat now.parts) part begins.0 ∙ ap (λ l. l ++ (part ++ begins.0)) so_far
              ∙ ap (λ l. unwritten.0 ++ l) begins.1 ∙ sym unwritten.1,
        ),
      )

  pub wrote_on : AllWrites (EndsAtMark (marks_of taken)) writes' new.parts
  wrote_on = writes_more (EndsAtMark (marks_of taken)) before pending last now.parts new.parts writes writes' all notes
      (λ is. subst (λ b. IsFlushedUnless b now.parts) is flushed) up_to_here
