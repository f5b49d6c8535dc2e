-- Frames gathered in texts, sent, taken and written, and what a reader's thread read and the caller wrote, as `pump`
-- says it.
use Rattle.std.proofs.Common.{◌≡◌, true, false, ◌⊎◌, inl, inr, ℕ, ◌<◌, arith, List, [], ◌∷◌, ◌++◌, ◌∙◌, ap, sym, refl}
use Rattle.std.proofs.Common.{map, length, length-append, append_assoc, append-nil, Option, Some, None, IfSome, OnSome}
use Rattle.std.proofs.Common.{Result, Ok, Err, string_bytes, subst}
use Rattle.std.proofs.KnownBytes.{Appends-nil, Appends-trans}
use Rattle.std.specs.Io.KnownBytes.{Keeps}
use Rattle.std.specs.List.{concat, FoldsTo}
use Rattle.std.specs.declared.io.ErrorKind.TheVariants.{Other}
use mathlib.Core.List.{IsPrefix}
use Rattle.lsp_message.specs.Frame.{reading_within}
use Rattle.lsp_message.specs.Message as plain
use Rattle.lsp_message.specs.Messages.{is_exit}
use Rattle.lsp_message.specs.Told.{Parts, Told, IsOfParts}
use Rattle.lsp_message.specs.View.{message_view}
use Rattle.lsp_message.specs.declared.frame.ReadFault.{ReadFault}
use Rattle.lsp_message.specs.declared.msg.Message as msg
use Rattle.lsp_message.specs.Written.{AppendsBeginning, AreFramesOf, IsFrameOf, GetsFrames}
use Rattle.lsp_message.specs.declared.frame.WriteFault.{WriteFault}
use Rattle.lsp_relay.proofs.Parcels.{same_messages}
use Rattle.lsp_relay.specs.Relay.{ended, IsOpen, Sending}
use Rattle.lsp_relay.specs.declared.ends.Parcel.{Parcel}
use Rattle.lsp_relay.specs.declared.ends.Parcel.TheVariants as parcel
use Rattle.lsp_session.proofs.Handing.{Handed, Handed-more, hands_end, hands_exit, hands_fault, hands_on, hands_refused}
use Rattle.lsp_session.specs.Boxes.{Takes}
use Rattle.lsp_session.specs.ReadLoop.{HasRead, Hands}
use Rattle.lsp_session.specs.declared.loops.ReadEnd.{ReadEnd}
use Rattle.lsp_session.specs.declared.loops.ReadEnd.TheVariants.{Exit, End, Fault, Closed, Memory}
use Rattle.lsp_threads.proofs.Handed.{After, extent_of, HandedOn, handed_on, IsNotClosed, ReadsTo, reads_split}
use Rattle.lsp_threads.specs.Framing.{parcel_bytes, AreEnded, Framing, FramingSends, Gathers, HandsFrames, HandsSome}
use Rattle.lsp_threads.specs.Framing.{TellsFrames, WritesBytes, WritesParcels, WritesUnlessFailed}
use Rattle.lsp_message.specs.declared.frame.ReadFault.TheVariants.{Input, Memory as NoMemoryToRead}
use Rattle.lsp_message.specs.declared.frame.WriteFault.TheVariants.{Output, Memory as NoMemory}
use Rattle.lsp_message.specs.declared.frame.limits.Limits.{Limits}
use Rattle.lsp_session.specs.declared.lifecycle.SendFault.TheVariants.{Memory as NoRoom}
use Rattle.lsp_threads.proofs.Taken.{told_last, told_next}
use Rattle.lsp_threads.specs.Passing.{OfTaken, TakenFrom}
use Rattle.lsp_threads.specs.Pump.{Pumps, pump_answer}
use Rattle.lsp_threads.specs.Threads.{BreaksOffWithin}
use Rattle.lsp_threads.specs.declared.frame_text.FrameText.{FrameText}

-- ---- bytes of parcels
pub parcel_bytes-append : (a b : List (Parcel FrameText)) → parcel_bytes (a ++ b) ≡ parcel_bytes a
    ++ parcel_bytes b
parcel_bytes-append [] b = refl
parcel_bytes-append (parcel.Message t ∷ rest) b =
    ap (λ l. string_bytes t.text ++ l) (parcel_bytes-append rest b) ∙ sym (append_assoc (string_bytes t.text)
    (parcel_bytes rest) (parcel_bytes b))
parcel_bytes-append (parcel.End ∷ rest) b = parcel_bytes-append rest b

-- one text more
pub parcel_bytes-push : (sent : List (Parcel FrameText)) (t : FrameText) → parcel_bytes (sent
    ++ parcel.Message t ∷ []) ≡ parcel_bytes sent ++ string_bytes t.text
parcel_bytes-push sent t = parcel_bytes-append sent (parcel.Message t ∷ []) ∙ ap (λ l. parcel_bytes sent ++ l)
    (append-nil (string_bytes t.text))

pub parcel_bytes-end : (sent : List (Parcel FrameText)) → parcel_bytes (sent ++ parcel.End ∷ [])
    ≡ parcel_bytes sent
parcel_bytes-end sent = parcel_bytes-append sent (parcel.End ∷ []) ∙ append-nil (parcel_bytes sent)

-- if no End was sent, texts were
open_texts : (sent : List (Parcel FrameText)) → IsOpen sent → (texts : List FrameText)
    × (sent ≡ map parcel.Message texts)
open_texts [] still_open = ([], refl)
open_texts (parcel.Message text ∷ rest) still_open = let more = open_texts rest still_open in (
  text ∷ more.0,
  ap (λ l. parcel.Message text ∷ l) more.1,
)
open_texts (parcel.End ∷ rest) still_open = absurd still_open

pub ended_after : (sent : List (Parcel FrameText)) → IsOpen sent → AreEnded (sent ++ parcel.End ∷ [])
ended_after sent still_open = let all = open_texts sent still_open in (all.0, ap (λ l. l ++ parcel.End ∷ []) all.1)

-- what was taken up to End is what was sent
pub same_parcels : (taken sent : List (Parcel FrameText)) → AreEnded taken → AreEnded sent → IsPrefix taken sent
    → sent ≡ taken
same_parcels taken sent t s settled = s.1 ∙ ap ended (sym (same_messages t.0 s.0 taken sent t.1 s.1 settled)) ∙ sym t.1

-- ---- what was sent
-- messages that an outbox took added their frames
framed : (old new : Framing) (ms : List plain.Message) → FoldsTo (Takes FramingSends) old ms new → (text : List ℕ)
    × AreFramesOf ms text × (new.bytes ≡ old.bytes ++ text)
framed old new [] run = ([], refl, sym (ap (λ (f : Framing). f.bytes) run) ∙ sym (append-nil old.bytes))
framed old new (m ∷ ms) run =
    let later = framed run.0 new ms run.2 in
    let first = run.1.1 in (
      first.0 ++ later.0,
      (first.0, later.0, first.1, later.1, refl),
      later.2 ∙ ap (λ l. l ++ later.0) first.2
          ∙ append_assoc old.bytes first.0 later.0,
    )

-- one message more
pub frame_added : (m : plain.Message) (old new : Framing) (frame : List ℕ) → IsFrameOf m frame
    → new ≡ record old { bytes = old.bytes ++ frame } → FramingSends old m (Ok tt) new
frame_added m old new frame is added = (
  ap (λ (f : Framing). f.relay) added,
  (frame, is, ap (λ (f : Framing). f.bytes) added),
)

-- ---- what a thread that reads sent
module _ (limit : Limits) where
  pub handed_frames : (known : Option (List ℕ)) (tx : Sending FrameText) (start mid : Framing) (left : Option
      (List ℕ)) (back : Sending FrameText) (end : ReadEnd)
      → start ≡ record { relay = tx.relay; bytes = [] } → IfSome known (λ text. Hands limit FramingSends text start mid
      left end)
      → parcel_bytes back.sent ≡ mid.bytes → AreEnded back.sent → IfSome known (λ text. HandsFrames limit text tx
      end back)
  handed_frames None tx start mid left back end same handed all ended = tt
  handed_frames (Some text) tx start mid left back end same handed all ended =
      (mid, left, subst (λ f. Hands limit FramingSends text f mid left end) same handed, all, ended)

  -- the same of the bytes that were taken
  pub tells_frames : (known : Option (List ℕ)) (tx : Sending FrameText) (start mid : Framing) (back : Sending
      FrameText) (end : ReadEnd) (taken : Parts)
      → start ≡ record { relay = tx.relay; bytes = [] } → OfTaken taken (λ text. HandsSome limit text start mid end)
      → TakenFrom known taken
      → parcel_bytes back.sent ≡ mid.bytes → AreEnded back.sent → TellsFrames limit known tx end taken back
  tells_frames known tx start mid back end taken same handed from all ended = (
    λ rest ends. let some = handed rest ends in handed_frames (Some (concat taken ++ rest)) tx start mid some.0 back
        end same some.1 all ended,
    from,
  )

  same_bytes : (end : ReadEnd) (mid new : Framing) → After limit FramingSends mid end new → new.bytes ≡ mid.bytes
  same_bytes Memory mid new after = ap (λ (f : Framing). f.bytes) after.2
  same_bytes end mid new after = ap (λ (f : Framing). f.bytes) after

  abbrev pub unsent : Sending FrameText → Framing
  unsent tx = record { relay = tx.relay; bytes = [] }

  pub sent_frames : (tx back : Sending FrameText) (text : List ℕ) (end : ReadEnd) → HandsFrames limit text tx
      end back
      → (new : Framing) × (on : HandedOn limit FramingSends text (unsent tx) end new) × AreFramesOf on.messages
      (parcel_bytes back.sent)
  sent_frames tx back text end (mid, left, handed, all, ended) =
      let on = handed_on limit FramingSends (λ old m back new refuses. refuses) text (unsent tx) mid left end handed in
      let frames = framed (unsent tx) on.mid on.messages on.taken in
      let bytes = all ∙ same_bytes end on.mid mid on.after ∙ frames.2 in
      (mid, on, rw bytes frames.1)

-- a look at the reader keeps what was handed on
module _ (limit : Limits) where
  pub Handed-kept : (a b c : Option (List ℕ)) (old new : Framing) → Handed limit FramingSends a b old new → Keeps b c
      → Handed limit FramingSends a c old new
  Handed-kept None b c old new so_far kept = tt
  Handed-kept (Some text) None c old new so_far kept = absurd so_far
  Handed-kept (Some text) (Some left) None old new so_far kept = absurd kept
  Handed-kept (Some text) (Some left) (Some more) old new so_far kept = rw kept so_far

-- ---- what a thread that reads handed on, of the bytes that were taken
module _ (limit : Limits) (t u : Parts) (a b : Option (List ℕ)) (old mid : Framing)
    (so_far : (at : List ℕ) → Handed limit FramingSends (Some (concat t ++ at)) (Some at) old mid) where
  abbrev Reads : Result (Option msg.Message) ReadFault → Type 0
  Reads r = Told (IsOfParts message_view (reading_within limit) r) t u a b

  pub told_frames_end : Reads (Ok None) → OfTaken u (λ text. HandsSome limit text old mid End)
  told_frames_end told rest ends =
      let at = told_last message_view (reading_within limit) t u a b (Ok None) told rest ends in
      subst (λ text. HandsSome limit text old mid End) (sym at.1) (
        Some rest,
        hands_end limit FramingSends message_view (Some rest) old mid (Some (concat t ++ at.0)) (Some at.0)
            (so_far at.0) at.2,
      )

  pub told_frames_fault : (fault : ReadFault) → Reads (Err fault) → OfTaken u (λ text. HandsSome limit text old mid
      (Fault fault))
  told_frames_fault fault told rest ends =
      let at = told_last message_view (reading_within limit) t u a b (Err fault) told rest ends in
      subst (λ text. HandsSome limit text old mid (Fault fault)) (sym at.1) (
        Some rest,
        hands_fault limit FramingSends message_view (Some rest) old mid fault (Some (concat t ++ at.0))
            (Some at.0) (so_far at.0) at.2,
      )

  module _ (x : msg.Message) (told : Reads (Ok (Some x))) (new : Framing) where
    pub told_frames_full : new ≡ mid → OfTaken u (λ text. HandsSome limit text old new Memory)
    told_frames_full refused rest ends =
        let at = told_next message_view (reading_within limit) t u a b x told rest in
        subst (λ text. HandsSome limit text old new Memory) (sym at.1) (
          Some rest,
          hands_refused limit FramingSends message_view (Some (concat t ++ at.0)) (Some at.0) (Some rest) old
              mid new x (so_far at.0) at.2 (NoRoom x) refused,
        )

    module _ (sent : FramingSends mid (message_view x) (Ok tt) new) where
      pub told_frames_exit : is_exit (message_view x) ≡ true → OfTaken u (λ text. HandsSome limit text old new Exit)
      told_frames_exit last rest ends =
          let at = told_next message_view (reading_within limit) t u a b x told rest in
          subst (λ text. HandsSome limit text old new Exit) (sym at.1) (
            Some rest,
            hands_exit limit FramingSends message_view (Some (concat t ++ at.0)) (Some at.0) (Some rest) old
                mid new x (so_far at.0) at.2 sent last,
          )

      pub told_frames_more : is_exit (message_view x) ≡ false → (rest : List ℕ) → Handed limit FramingSends
          (Some (concat u ++ rest)) (Some rest) old new
      told_frames_more goes rest =
          let at = told_next message_view (reading_within limit) t u a b x told rest in
          subst (λ text. Handed limit FramingSends (Some text) (Some rest) old new) (sym at.1)
          (Handed-more limit FramingSends message_view (Some (concat t ++ at.0)) (Some at.0) (Some rest) old mid new x
          (so_far at.0) at.2 sent goes)

pub told_frames_on : (limit : Limits) (t : Parts) (old mid : Framing) → ((at : List ℕ) → Handed limit FramingSends
    (Some (concat t ++ at)) (Some at) old mid)
    → OfTaken t (λ text. HandsSome limit text old mid (Fault (Input Other)))
told_frames_on limit t old mid so_far rest ends = (
  Some rest,
  hands_on limit FramingSends old mid (Some (concat t
      ++ rest)) (Some rest) (so_far rest),
)

-- ---- what was written
module _ (bytes text : List ℕ) (a b c : Option (List ℕ)) where
  -- a text more was written, or a beginning of it
  pub writes_more : (fault : Option WriteFault) → WritesBytes bytes None a b → WritesBytes text fault b c
      → WritesBytes (bytes ++ text) fault a c
  writes_more None before next = Appends-trans a b c bytes text before next
  writes_more (Some fault) before (output, some, (part, rest, split, got)) = (
    output,
    omega (arith, length-append bytes text),
    (
      bytes ++ part,
      rest,
      ap (λ l. bytes ++ l) split ∙ sym (append_assoc bytes part rest),
      Appends-trans a b c bytes
          part before got,
    ),
  )

-- a text more after a fault
pub writes_no_more : (bytes text : List ℕ) (a b : Option (List ℕ)) (fault : WriteFault) → WritesBytes bytes (Some fault)
    a b → WritesBytes (bytes ++ text) (Some fault) a b
writes_no_more bytes text a b fault (output, some, (part, rest, split, got)) = (
  output,
  omega (arith, length-append bytes text),
  (part, rest ++ text, ap (λ l. l ++ text) split ∙ append_assoc part rest text, got),
)

module _ {V : Type 0} (contents : V → Option (List ℕ)) (first mid last : V) (bytes text : List ℕ) where
  -- a text was taken, and written unless a write had failed
  pub text_taken : (before after : Option WriteFault) → WritesBytes bytes before (contents first) (contents mid)
      → (before ≡ None → WritesBytes text after (contents mid) (contents last))
      → OnSome before ((after ≡ before) × (last ≡ mid)) → WritesBytes (bytes ++ text) after (contents first)
      (contents last)
  text_taken None after so_far next same = writes_more bytes text (contents first) (contents mid) (contents last) after
      so_far (next refl)
  text_taken (Some fault) after so_far next same =
      rw (same.0, same.1) (writes_no_more bytes text (contents first) (contents mid) fault so_far)

-- Of all these bytes the first were written, or a beginning of them and then a write failed so. The last ones are left.
abbrev pub Unwritten : List ℕ → List ℕ → Option WriteFault → Option (List ℕ) → Option (List ℕ) → Type 0
Unwritten bytes left fault a b = (done : List ℕ) × (bytes ≡ done ++ left) × WritesBytes done fault a b

-- all were written
pub none_left : (bytes : List ℕ) (fault : Option WriteFault) (a b : Option (List ℕ)) → WritesBytes bytes fault a b
    → Unwritten bytes [] fault a b
none_left bytes fault a b written = (bytes, sym (append-nil bytes), written)

-- nothing was written yet
pub all_gathered : (before : Option WriteFault) (bytes left : List ℕ) (a : Option (List ℕ)) → left ≡ bytes
    → Gathers before bytes left before a a
all_gathered None bytes left a same = ([], sym same, Appends-nil a)
all_gathered (Some fault) bytes left a same = ([], sym same, (refl, refl))

-- a write of the first ones, unless one had failed
pub first_gathered : {V : Type 0} (contents : V → Option (List ℕ)) (old new : V) (first last : List ℕ) (before after :
    Option WriteFault)
    → (before ≡ None → WritesBytes first after (contents old) (contents new)) → OnSome before ((after ≡ before)
    × (new ≡ old))
    → Gathers before (first ++ last) last after (contents old) (contents new)
first_gathered contents old new first last None after next same = (first, refl, next refl)
first_gathered contents old new first last (Some fault) after next same = (first, refl, (same.0, ap contents same.1))

-- a text more was taken
module _ (bytes text left more : List ℕ) (a b c : Option (List ℕ)) where
  both_written : (done later : List ℕ) (before after : Option WriteFault) → WritesBytes done before a b
      → WritesUnlessFailed before later after b c → WritesBytes (done ++ later) after a c
  both_written done later None after written next = writes_more done later a b c after written next
  both_written done later (Some fault) after written (same, kept) = rw (same, kept) (writes_no_more done later a b fault
      written)

  pub more_unwritten : (before after : Option WriteFault) → Unwritten bytes left before a b → Gathers before (left
      ++ text) more after b c → Unwritten (bytes ++ text) more after a c
  more_unwritten before after (done, split, written) (later, cut, next) = (
    done ++ later,
    ap (λ l. l ++ text) split ∙ append_assoc done left text ∙ ap (λ l. done ++ l) cut
        ∙ sym (append_assoc done later more),
    both_written done later before after written next,
  )

-- what was left was written, unless a write had failed
module _ {V : Type 0} (contents : V → Option (List ℕ)) (first mid last : V) (bytes left : List ℕ) where
  pub left_written : (before after : Option WriteFault) → Unwritten bytes left before (contents first) (contents mid)
      → (before ≡ None → WritesBytes left after (contents mid) (contents last)) → OnSome before ((after ≡ before)
      × (last ≡ mid))
      → WritesBytes bytes after (contents first) (contents last)
  left_written before after (done, split, written) next same = rw split (text_taken contents first mid last done left
      before after written next same)

-- ---- what a failed write left
-- a beginning of two lists ends in the first, or in the second after at least one element
split_in : (first more part rest : List ℕ) → first ++ more ≡ part ++ rest
    → ((missing : List ℕ) × (first ≡ part ++ missing)) ⊎ ((x : ℕ) × (later : List ℕ) × (part ≡ first ++ x ∷ later)
    × (more ≡ (x ∷ later) ++ rest))
split_in first more [] rest same = inl (first, refl)
split_in [] more (p ∷ part) rest same = inr (p, part, refl, same)
split_in (f ∷ first) more (p ∷ part) rest same = joined (split_in first more part rest tails)
  where
    heads : f ≡ p
    heads = cc

    tails : first ++ more ≡ part ++ rest
    tails = cc

    joined : ((missing : List ℕ) × (first ≡ part ++ missing)) ⊎ ((x : ℕ) × (later : List ℕ) × (part ≡ first ++ x
        ∷ later) × (more ≡ (x ∷ later) ++ rest))
        → ((missing : List ℕ) × (f ∷ first ≡ (p ∷ part) ++ missing)) ⊎ ((x : ℕ) × (later : List ℕ)
        × (p ∷ part ≡ (f ∷ first) ++ x ∷ later) × (more ≡ (x ∷ later) ++ rest))
    joined (inl (missing, cut)) = inl (missing, λ i. heads i ∷ cut i)
    joined (inr (x, later, cut, others)) = inr (x, later, (λ i. sym heads i ∷ cut i), others)

-- of frames, a beginning has whole frames and then a beginning of one more
abbrev Broken : List plain.Message → List ℕ → Type 0
Broken ms part =
    (whole : List plain.Message) × (next : plain.Message) × (unwritten : List plain.Message) × (ms ≡ whole ++ next
    ∷ unwritten)
    × (frames : List ℕ) × AreFramesOf whole frames × (frame : List ℕ) × IsFrameOf next frame
    × (begun : List ℕ) × (missing : List ℕ) × (frame ≡ begun ++ missing) × (part ≡ frames ++ begun)

breaks_in : (ms : List plain.Message) (text part rest : List ℕ) → AreFramesOf ms text → text ≡ part ++ rest
    → 0 < length text → Broken ms part
breaks_in [] text part rest none split some = absurd (omega (arith, ap length none))
breaks_in (m ∷ ms) text part rest (first, more, is, are, same) split some =
    at (λ begun others some'. breaks_in ms more begun rest are others some') (split_in first more part rest (sym same
    ∙ split))
  where
    one_more : (later : List ℕ) → part ≡ first ++ later → Broken ms later → Broken (m ∷ ms) part
    one_more later cut (whole, next, unwritten, parts, frames, are', frame, is', begun, missing, split', all) = (
      m ∷ whole,
      next,
      unwritten,
      ap (λ l. m ∷ l) parts,
      first ++ frames,
      (first, frames, is, are', refl),
      frame,
      is',
      begun,
      missing,
      split',
      cut ∙ ap (λ l. first ++ l) all ∙ sym (append_assoc first frames begun),
    )

    at : ((begun : List ℕ) → more ≡ begun ++ rest → 0 < length more → Broken ms begun)
        → ((missing : List ℕ) × (first ≡ part ++ missing)) ⊎ ((x : ℕ) × (later : List ℕ) × (part ≡ first ++ x ∷ later)
        × (more ≡ (x ∷ later) ++ rest))
        → Broken (m ∷ ms) part
    at again (inl (missing, cut)) = ([], m, ms, refl, [], refl, first, is, part, missing, cut, refl)
    at again (inr (x, later, cut, others)) =
        one_more (x ∷ later) cut (again (x ∷ later) others (omega (arith, ap length others)))

pub breaks : (ms : List plain.Message) (text : List ℕ) (a b : Option (List ℕ)) → AreFramesOf ms text → 0 < length text
    → AppendsBeginning a b text
    → BreaksOffWithin ms a b
breaks ms text a b are some (part, rest, split, got) = at (breaks_in ms text part rest are split some)
  where
    at : Broken ms part
        → BreaksOffWithin ms a b
    at (whole, next, unwritten, cut, frames, are', frame, is', begun, missing, split', all) = (
      whole,
      next,
      unwritten,
      cut,
      record {
        frames = frames;
        frames_of_whole = are';
        frame = frame;
        frame_of_next = is';
        part = begun;
        missing = missing;
        split = split';
        got = rw all at got;
      },
    )

module _ (limit : Limits) where
  module _ (text : List ℕ) (a b : Option (List ℕ)) (ms : List plain.Message) where
    -- all was written
    whole_pumped : (end : ReadEnd) (rest : List ℕ) → HasRead limit (extent_of end) text ms rest → IsNotClosed end
        → GetsFrames ms a b → Pumps limit text a b (pump_answer end None)
    whole_pumped Exit rest read open_still frames = inl (record {
      messages = ms;
      rest = rest;
      read = read;
      got = frames;
      left = tt;
    })
    whole_pumped End rest read open_still frames = inr (record {
      messages = ms;
      rest = rest;
      read = read;
      got = frames;
      left = tt;
    })
    whole_pumped (Fault (Input kind)) rest read open_still frames = record {
      messages = ms;
      rest = rest;
      read = read;
      got = frames;
      left = tt;
    }
    whole_pumped (Fault NoMemoryToRead) rest read open_still frames = record {
      messages = ms;
      rest = rest;
      read = read;
      got = frames;
      left = tt;
    }
    whole_pumped (Fault fault) rest read open_still frames = record {
      messages = ms;
      rest = rest;
      read = read;
      got = frames;
      left = tt;
    }
    whole_pumped Closed rest read open_still frames = absurd open_still
    whole_pumped Memory rest read open_still frames = record {
      messages = ms;
      rest = rest;
      read = read;
      got = frames;
      left = tt;
    }

    -- all was written, or a write failed
    pumped : (bytes : List ℕ) (end : ReadEnd) (fault : Option WriteFault) (rest : List ℕ) → AreFramesOf ms bytes
        → HasRead limit (extent_of end) text ms rest → IsNotClosed end
        → ReadsTo limit text end ms → WritesBytes bytes fault a b → Pumps limit text a b (pump_answer end fault)
    pumped bytes end None rest frames read open_still reads written = whole_pumped end rest read open_still (
      bytes,
      frames,
      written,
    )
    pumped bytes end (Some (Output kind)) rest frames read open_still reads (output, some, begun) =
        let broken = breaks ms bytes a b frames some begun in
        let parts = reads_split limit broken.0 broken.1 broken.2 text end (rw broken.3 at reads) in (
          broken.1,
          record {
            messages = broken.0;
            rest = parts.1;
            read = (parts.0, parts.2, parts.3);
            got = broken.4;
            left = tt;
          },
        )
    pumped bytes end (Some NoMemory) rest frames read open_still reads (output, some, begun) = absurd output

  -- the same of what was sent on a relay and what was taken from it
  pub pumped_over : (known : Option (List ℕ)) (a b : Option (List ℕ)) (tx back : Sending FrameText)
      (taken : List (Parcel FrameText)) (read : ReadEnd) (fault : Option WriteFault)
      → IfSome known (λ text. HandsFrames limit text tx read back) → WritesParcels taken fault a b
      → IsPrefix taken back.sent
      → IfSome known (λ text. Pumps limit text a b (pump_answer read fault))
  pumped_over None a b tx back taken read fault handed written settled = tt
  pumped_over (Some text) a b tx back taken read fault handed written settled =
      let all = sent_frames limit tx back text read handed in
      let on = all.1 in
      let frames = subst (λ ps. AreFramesOf on.messages (parcel_bytes ps)) (same_parcels taken back.sent written.0
      handed.4 settled) all.2 in
      pumped text a b on.messages (parcel_bytes taken) read fault on.rest frames on.read on.never_closed on.reads
      written.1
