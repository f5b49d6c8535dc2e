-- What a link carries after each of its calls, over its bytes and its two marks.
use Rattle.std.proofs.Common.{◌≡◌, ℕ, ◌+◌, ◌-◌, ◌≤◌, List, ◌++◌, length, take, drop, refl, sym, ap, ◌∙◌, arith}
use Rattle.std.proofs.Common.{length-drop, ◌^◌, ◌<◌, [], ◌∷◌, codes, length-append, take_all, take-append-drop, min}
use Rattle.std.proofs.Common.{append_assoc, ⊎_elim, subst, append-nil}
use Rattle.std.proofs.lemmas.List.{take-append-le, drop-append-le, drop-take, drop-drop, length-take-le}
use Rattle.std.proofs.lemmas.List.{take-append-drop, length-take}
use Rattle.std.proofs.Math.Seq.{take-add}
use Rattle.std.proofs.lemmas.Bool.{cases_lt, cond-true, cond-false, lt-leb, le-leb}
use Rattle.std.proofs.lemmas.Grind.{common_steps}
use Rattle.std.specs.Fmt.{decimal}
use Rattle.std.specs.Prelude.{nat_le, Option, Some, Ok, Err, true, is_some}
use Rattle.lsp_message.proofs.FrontOfFrame.{front_of-whole, front_of-part}
use Rattle.lsp_message.specs.Front.{front_of}
use Rattle.lsp_message.specs.Message.{Message}
use Rattle.lsp_message.specs.Written.{frame_text, IsFrameOf}
use Rattle.lsp_message.specs.declared.frame.Front.TheVariants.{Whole, More}
use Rattle.lsp_message.specs.Frame.{reading_of}
use Rattle.lsp_message.specs.Reading.{Answers, Reading}
use Rattle.lsp_message.specs.Readable.{WritesReadably}
use Rattle.lsp_message.specs.Tree.{without_null_details}
use Rattle.lsp_message.specs.View.{message_view}
use Rattle.lsp_message.specs.declared.frame.ReadFault.{ReadFault}
use Rattle.lsp_message.specs.declared.frame.ReadFault.TheVariants.{Input, Memory}
use Rattle.lsp_peers.specs.Post.{Line, line_of, SentFrame, Post, Carries, frames, posted, passed_on, unpassed, Shows}
use Rattle.lsp_peers.specs.Post.{ReadsBack, next, one_taken, after_take, IfNext}
use Rattle.lsp_peers.specs.WorldFault.{fault_of}
use Rattle.lsp_peers.specs.declared.fault.WorldFault.TheVariants.{Memory as NoMemory}

-- ---- a line whose bytes lie in a list, after bytes are added, passed and taken

same_line : (a b c d : List ℕ) → a ≡ b → c ≡ d → ◌≡◌ {A = Line} (record { arrived = a; on_way = c })
    (record { arrived = b; on_way = d })
same_line a b c d e f = λ i. record { arrived = e i; on_way = f i }

pub line_written : (bytes frame : List ℕ) (start end : ℕ) → start ≤ end → end ≤ length bytes → line_of (bytes ++ frame)
    start end ≡ record {
      arrived = (line_of bytes start end).arrived;
      on_way = (line_of bytes start end).on_way
          ++ frame;
    }
line_written bytes frame start end ordered within =
    same_line _ _ _ _
    (ap (take (end - start)) (drop-append-le start bytes frame (omega arith)) ∙ take-append-le (end - start)
    (drop start bytes) frame (omega (arith, length-drop start bytes)))
    (drop-append-le end bytes frame within)

pub line_passed : (bytes : List ℕ) (start end count : ℕ) → start ≤ end → line_of bytes start (end + count)
    ≡ record {
      arrived = (line_of bytes start end).arrived ++ take count (line_of bytes start end).on_way;
      on_way = drop
          count (line_of bytes start end).on_way;
    }
line_passed bytes start end count ordered =
    let sum : end + count - start ≡ (end - start) + count = omega arith in
    let whole : start + (end - start) ≡ end = omega arith in
    same_line _ _ _ _
    (ap (λ n. take n (drop start bytes)) sum ∙ take-add (end - start) count (drop start bytes)
    ∙ ap (λ l. take (end - start) (drop start bytes) ++ take count l) (drop-drop (end - start) start bytes
    ∙ ap (λ n. drop n bytes) whole))
    (sym (drop-drop count end bytes))

pub line_taken : (bytes : List ℕ) (start end count : ℕ) → start + count ≤ end → line_of bytes (start + count) end
    ≡ record { arrived = drop count (line_of bytes start end).arrived; on_way = (line_of bytes start end).on_way }
line_taken bytes start end count within =
    let sum : end - start ≡ count + (end - (start + count)) = omega arith in
    same_line _ _ _ _
    (sym (ap (λ n. drop count (take n (drop start bytes))) sum ∙ drop-take count (end - (start + count))
    (drop start bytes) ∙ ap (take (end - (start + count))) (drop-drop count start bytes)))
    refl

-- ---- what the front of some bytes is, where a frame begins there

-- where a list begins with `us`, its first elements are those
pub front_taken : (us vs xs ys : List ℕ) → xs ++ ys ≡ us ++ vs → length us ≤ length xs → (take (length us) xs ≡ us)
    × (drop (length us) xs ++ ys ≡ vs)
front_taken [] vs xs ys same short = (refl, same)
front_taken (u ∷ us) vs [] ys same short = absurd (omega arith)
front_taken (u ∷ us) vs (x ∷ xs) ys same short =
    let head : x ≡ u = cc in
    let tail : xs ++ ys ≡ us ++ vs = cc in
    let rest = front_taken us vs xs ys tail (omega arith) in
    ((λ i. head i ∷ rest.0 i), rest.1)

body_small : (body : List ℕ) → length (frame_text body) < 2 ^ 64 → length body < 2 ^ 64
body_small body small = omega (
  arith,
  length-append (codes "Content-Length: ") (decimal (length body) ++ 13 ∷ 10 ∷ 13
      ∷ 10 ∷ body),
  length-append (decimal (length body)) (13 ∷ 10 ∷ 13 ∷ 10 ∷ body),
)

-- the whole frame arrived
pub front_whole : (message : Message) (frame rest arrived on_way : List ℕ) → IsFrameOf message frame → length frame < 2
    ^ 64 → arrived ++ on_way ≡ frame ++ rest → length frame ≤ length arrived → front_of arrived ≡ Whole (length frame)
front_whole message frame rest arrived on_way is small same long =
    let body = is.0 in
    let text : frame ≡ frame_text body = is.2 in
    let fits : length body < 2 ^ 64 = body_small body (omega (arith, ap (λ (l : List ℕ). length l) text)) in
    let first = (front_taken frame rest arrived on_way same long).0 in
    let left = drop (length frame) arrived in
    let whole : arrived ≡ frame_text body ++ left = sym (take-append-drop (length frame) arrived) ∙ ap (λ l. l ++ left)
    (first ∙ text) in
    ap front_of whole ∙ front_of-whole body left fits ∙ ap (λ l. Whole (length l)) (sym text)

-- it didn't
pub front_part : (message : Message) (frame rest arrived on_way : List ℕ) → IsFrameOf message frame → length frame < 2 ^
    64 → arrived ++ on_way ≡ frame ++ rest → length arrived < length frame → front_of arrived ≡ More
front_part message frame rest arrived on_way is small same short =
    let body = is.0 in
    let text : frame ≡ frame_text body = is.2 in
    let size : length frame ≡ length (frame_text body) = ap (λ (l : List ℕ). length l) text in
    let fits : length body < 2 ^ 64 = body_small body (omega arith) in
    let n = length arrived in
    let part : arrived ≡ take n (frame_text body) =
    sym (take_all n arrived (omega arith)) ∙ sym (take-append-le n arrived on_way (omega arith)) ∙ ap (take n) same
    ∙ take-append-le n frame rest (omega arith) ∙ ap (take n) text in
    ap front_of part ∙ front_of-part body n fits (omega arith)

-- no frame is on the line
pub front_empty : (arrived on_way : List ℕ) → arrived ++ on_way ≡ [] → front_of arrived ≡ More
front_empty [] on_way same = refl
front_empty (x ∷ xs) on_way same = cc

-- ---- what a line carries after a frame is written, after bytes are passed, and after a frame is taken

-- the bytes of one more frame
frames_push : (sent_frames : List SentFrame) (sent_frame : SentFrame) → frames (sent_frames ++ sent_frame ∷ [])
    ≡ frames sent_frames ++ sent_frame.frame
frames_push sent_frames sent_frame = grind (arith, common_steps)

pub carries_written : (line : Line) (post : Post) (sent_frame : SentFrame) → Carries line post
    → Carries (record { arrived = line.arrived; on_way = line.on_way ++ sent_frame.frame }) (posted post sent_frame)
carries_written line post sent_frame carries = record {
  bytes = sym (append_assoc line.arrived line.on_way sent_frame.frame) ∙ ap (λ b. b ++ sent_frame.frame) carries.bytes
      ∙ sym (frames_push post.waiting sent_frame);
  count = carries.count;
}

-- what isn't passed is on the way
pub unpassed_is : (line : Line) (post : Post) → Carries line post → unpassed post ≡ length line.on_way
unpassed_is line post carries =
    let all = ap length carries.bytes in
    omega (arith, carries.count, sym (length-append line.arrived line.on_way) ∙ all)

pub carries_passed : (line : Line) (post : Post) (bytes : ℕ) → Carries line post
    → Carries (record {
      arrived = line.arrived ++ take (min bytes (length line.on_way)) line.on_way;
      on_way = drop
          (min bytes (length line.on_way)) line.on_way;
    }) (passed_on post bytes)
carries_passed line post bytes carries =
    let count : ℕ = min bytes (length line.on_way) in
    let short : min bytes (length line.on_way) ≤ length line.on_way = omega arith in
    record {
      bytes = append_assoc line.arrived (take (min bytes (length line.on_way)) line.on_way)
          (drop (min bytes (length line.on_way)) line.on_way) ∙ ap (λ b. line.arrived ++ b) (take-append-drop
          (min bytes (length line.on_way)) line.on_way) ∙ carries.bytes;
      count = omega (
        arith,
        carries.count,
        unpassed_is line post carries,
        length-append line.arrived
            (take (min bytes (length line.on_way)) line.on_way),
        length-take-le (min bytes (length line.on_way))
            line.on_way short,
      );
    }

-- what the front of a line shows, at a written-out list of waiting frames
shown : (line : Line) → length (line.arrived ++ line.on_way) < 2 ^ 64 → (taken waiting : List SentFrame) (passed : ℕ)
    → let post : Post = record { taken = taken; waiting = waiting; passed = passed } in Carries line post
    → Shows line post (front_of line.arrived)
shown line small taken [] passed carries =
    subst (Shows line (record { taken = taken; waiting = []; passed = passed })) (sym (front_empty line.arrived
    line.on_way carries.bytes)) refl
shown line small taken (sent_frame ∷ sent_frames) passed carries =
    let post : Post = record { taken = taken; waiting = sent_frame ∷ sent_frames; passed = passed } in
    let count : length (frames taken) + length line.arrived ≡ passed = carries.count in
    let fits : length sent_frame.frame < 2 ^ 64 = omega (
      arith,
      ap length carries.bytes,
      length-append sent_frame.frame
          (frames sent_frames),
    ) in
    ⊎_elim
    (λ short. subst (Shows line post) (sym (front_part sent_frame.message sent_frame.frame (frames sent_frames)
    line.arrived line.on_way sent_frame.framed fits carries.bytes short)) (cond-false (nat_le (length (frames taken)
    + length sent_frame.frame) passed) _ _ (lt-leb _ _ (omega arith))))
    (λ long.
    let front = front_taken sent_frame.frame (frames sent_frames) line.arrived line.on_way carries.bytes long in
    subst (Shows line post) (sym (front_whole sent_frame.message sent_frame.frame (frames sent_frames) line.arrived
    line.on_way sent_frame.framed fits carries.bytes long)) (
      sent_frame,
      cond-true (nat_le (length (frames taken) + length sent_frame.frame) passed) _ _ (le-leb _ _ (omega arith)),
      front.0,
      record {
        bytes = front.1;
        count = omega (
          arith,
          count,
          ap length (frames_push taken sent_frame),
          length-append (frames taken)
              sent_frame.frame,
          length-drop (length sent_frame.frame) line.arrived,
        );
      },
    ))
    (cases_lt (length line.arrived) (length sent_frame.frame))

pub shows : (line : Line) (post : Post) → length (line.arrived ++ line.on_way) < 2 ^ 64 → Carries line post
    → Shows line post (front_of line.arrived)
shows line post small carries = shown line small post.taken post.waiting post.passed carries

-- ---- what a link carries after each of its calls, over its bytes and its two marks

-- the same bytes, and so the same post
carries_at : (new old : Line) (post : Post) → new.arrived ≡ old.arrived → new.on_way ≡ old.on_way → Carries old post
    → Carries new post
carries_at new old post here away carries = record {
  bytes = (λ i. here i ++ away i) ∙ carries.bytes;
  count = ap (λ (l : List ℕ). length (frames post.taken) + length l) here ∙ carries.count;
}

-- a frame of what was written
pub sent_frame_written : (m : Message) (old new : List ℕ) → WritesReadably m (Some old) (Some new)
    → (sent_frame : SentFrame) × (sent_frame.message ≡ m) × (new ≡ old ++ sent_frame.frame)
sent_frame_written m old new wrote = (
  record { message = m; frame = wrote.0; framed = wrote.1; readable = wrote.3 },
  refl,
  wrote.2,
)

-- what is read of the next frame, if it is read back
pub frame_read : (line : Line) (post : Post) (count : ℕ) (whole : Shows line post (Whole count)) → IfNext ReadsBack post
    → (text : List ℕ) → text ≡ take count line.arrived → (reading_of text).outcome ≡ Ok (Some whole.0.message)
frame_read line post count whole readable text is =
    let sent_frame : SentFrame = whole.0 in
    let reads : ReadsBack sent_frame.message = (rw whole.1 at readable) in
    let at : reading_of (sent_frame.frame ++ [])
    ≡ record { outcome = Ok (Some (without_null_details sent_frame.message)); rest = [] } = sent_frame.readable
    reads.nests [] in
    ap (λ t. (reading_of t).outcome) (is ∙ whole.2 ∙ sym (append-nil sent_frame.frame))
    ∙ ap (λ (r : Reading Message). r.outcome) at ∙ ap (λ (m : Message). Ok (Some m)) reads.same

-- if the reading is a message, the one fault of a reader in memory is want of memory
pub no_other_fault : (fault : ReadFault) (left : Option (List ℕ)) (reading : Reading Message) (m : Message)
    → Answers message_view (Err fault) left reading → reading.outcome ≡ Ok (Some m) → fault_of fault ≡ NoMemory
no_other_fault (Input kind) left reading m is found = refl
no_other_fault Memory left reading m is found = refl
no_other_fault fault left reading m is found = let e = sym is.0 ∙ found in cc

module _ (bytes : List ℕ) (start end : ℕ) (ordered : start ≤ end) (within : end ≤ length bytes) (post : Post)
    (carries : Carries (line_of bytes start end) post) where
  pub write_keeps : (after : List ℕ) (sent_frame : SentFrame) → after ≡ bytes ++ sent_frame.frame
      → Carries (line_of after start end) (posted post sent_frame)
  write_keeps after sent_frame is = subst (λ (b : List ℕ). Carries (line_of b start end) (posted post sent_frame))
      (sym is) (subst (λ (line : Line). Carries line (posted post sent_frame)) (sym (line_written bytes sent_frame.frame
      start end ordered within)) (carries_written _ post sent_frame carries))

  pub pass_keeps : (asked count : ℕ) → count ≡ min asked (length bytes - end) → (count ≡ min asked (unpassed post))
      × Carries (line_of bytes start (end + count)) (passed_on post asked)
  pass_keeps asked count is =
      let way : count ≡ min asked (length (drop end bytes)) = is ∙ ap (min asked) (sym (length-drop end bytes)) in (
        way ∙ ap (min asked) (sym (unpassed_is _ post carries)),
        subst (λ (n : ℕ). Carries (line_of bytes start (end + n)) (passed_on post asked)) (sym way)
            (subst (λ (line : Line). Carries line (passed_on post asked)) (sym (line_passed bytes start end
            (min asked (length (drop end bytes))) ordered)) (carries_passed _ post asked carries)),
      )

  pub first_shows : length bytes < 2 ^ 64 → Shows (line_of bytes start end) post (front_of (line_of bytes start
      end).arrived)
  first_shows room = shows (line_of bytes start end) post (omega (
    arith,
    length-append (take (end - start) (drop start bytes)) (drop end bytes),
    length-take (end - start) (drop start bytes),
    length-drop start bytes,
    length-drop end bytes,
    ordered,
    within,
  )) carries

-- what a link carries whose first frame was taken
pub taken_carries : (old new : Line) (post : Post) (count : ℕ) (whole : Shows old post (Whole count)) → new.arrived
    ≡ drop count old.arrived → new.on_way ≡ old.on_way → (true ≡ is_some (next post)) × Carries new (after_take post)
taken_carries old new post count whole here away =
    let kept : Carries new (one_taken post) = carries_at new (record {
      arrived = drop count old.arrived;
      on_way = old.on_way;
    }) (one_taken post) here away whole.3 in (
      sym (ap (λ (o : Option SentFrame). is_some o) whole.1),
      rw whole.1 kept,
    )
