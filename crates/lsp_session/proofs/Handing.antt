-- Messages handed on from a reader, and written to a writer, one after another.
use Rattle.std.proofs.Common.{◌≡◌, ℕ, true, false, List, [], ◌∷◌, ◌++◌, Option, Some, None, IfSome, IsSomeAnd, Ok, Err}
use Rattle.std.proofs.Common.{refl, ap, MatchOption, Result, sym, subst, ◌∙◌, ◌+◌, length, map}
use Rattle.std.proofs.Common.{inl, append_assoc, append-nil}
use Rattle.std.proofs.lemmas.Fn.{FoldsTo-push}
use Rattle.std.specs.List.{FoldsTo}
use Rattle.lsp_message.specs.Frame.{body_means, reading_within}
use Rattle.lsp_message.specs.Messages.{Begins, Passes, PassesAll, is_exit}
use Rattle.lsp_message.specs.Message.{Message}
use Rattle.lsp_message.specs.Reading.{Answers}
use Rattle.lsp_message.specs.declared.frame.ReadFault.{ReadFault}
use Rattle.lsp_message.specs.declared.frame.ReadFault.TheVariants.{Input, Memory as NoMemory}
use Rattle.lsp_message.specs.declared.msg.Message as msg
use Rattle.lsp_message.proofs.Contents.{frame_unread}
use Rattle.lsp_session.specs.Boxes.{Sends, Takes, Receives, Offers, WaitsFor}
use Rattle.lsp_session.specs.ReadLoop.{in_part, up_to, ReadsOver, Took, TookBefore, Unread, UnreadWithin, Hands}
use Rattle.lsp_session.specs.ReadLoop.{refused_end}
use Rattle.lsp_session.specs.declared.lifecycle.SendFault.{SendFault}
use Rattle.lsp_session.specs.declared.lifecycle.SendFault.TheVariants.{Closed as Shut, Memory as IsFull}
use Rattle.lsp_session.specs.declared.loops.ReadEnd.TheVariants.{Exit, End, Fault}
use Rattle.std.proofs.KnownBytes.{Appends-nil, Appends-trans}
use Rattle.std.specs.Io.KnownBytes.{Keeps, Appends}
use Rattle.lsp_message.specs.Written.{IsFrameOf, GetsFrames, Writes, AreFramesOf}
use Rattle.lsp_message.specs.declared.frame.WriteFault.{WriteFault}
use Rattle.lsp_message.specs.declared.frame.WriteFault.TheVariants.{Output, Memory}
use Rattle.lsp_message.specs.declared.frame.limits.Limits.{Limits}
use Rattle.lsp_session.specs.FrameBoxes.{FrameOutboxSends, IsClosed, Told, kept_write}
use Rattle.lsp_session.specs.WriteLoop.{BreaksOffAt, GivesAll, OffersAll, WritesOut}
use Rattle.lsp_session.specs.declared.loops.frame_outbox.FrameOutbox.{FrameOutbox}
use Rattle.std.proofs.lemmas.List.{length_push, map-append}
use Rattle.lsp_session.specs.Event.{message, closed}
use Rattle.lsp_session.specs.declared.loops.write.WriteEnd.TheVariants.{Closed, Fault as Broken}

module _ (limit : Limits) where
  -- what a read answered, as the reading of the whole text
  pub begins : (at : List ℕ) (m : Message) → (reading_within limit at).outcome ≡ Ok (Some m) → Begins limit at m
      (reading_within limit at).rest
  begins at m outcome = ap (λ o. record { outcome = o; rest = (reading_within limit at).rest }) outcome

  module _ {S : Type 0} (sends : Sends S) where
    -- of the messages that the first bytes begin with, those before the second bytes were handed on
    abbrev pub Handed : Option (List ℕ) → Option (List ℕ) → S → S → Type 0
    Handed a b old new = IfSome a (λ text. IsSomeAnd b (λ at. (ms : List Message) × PassesAll limit text ms at
        × FoldsTo (Takes sends) old ms new))

    -- what follows if both are known
    known : {R A : List ℕ → Type 0} (a b : Option (List ℕ)) (old new : S) → Handed a b old new → IfSome b A
        → ((text left : List ℕ) (ms : List Message) → PassesAll limit text ms left → FoldsTo (Takes sends) old ms new
        → A left → R text) → IfSome a R
    known None b old new so_far read then = tt
    known (Some text) None old new so_far read then = absurd so_far
    known (Some text) (Some left) old new so_far read then = then text left so_far.0 so_far.1 so_far.2 read

    module _ {X : Type 0} (view : X → Message) (a b c : Option (List ℕ)) (old mid new : S) (x : X) (so_far : Handed a b
        old mid)
        (read : IfSome b (λ at. Answers view (Ok (Some x)) c (reading_within limit at))) where
      pub Handed-more : sends mid (view x) (Ok tt) new → is_exit (view x) ≡ false → Handed a c old new
      Handed-more sent goes = known a b old mid so_far read (λ text left ms passed taken answers.
          let all = FoldsTo-push (Passes limit) text ms left (view x) (reading_within limit left).rest passed
          (begins left (view x) answers.0, goes) in
          rw answers.1 (ms ++ view x ∷ [], all, FoldsTo-push (Takes sends) old ms mid (view x) new taken sent))

      pub hands_exit : sends mid (view x) (Ok tt) new → is_exit (view x) ≡ true → IfSome a (λ text. Hands limit sends
          text old new c Exit)
      hands_exit sent last = known a b old mid so_far read (λ text left ms passed taken answers. record {
        messages = ms ++ view x ∷ [];
        rest = (reading_within limit left).rest;
        read = (ms, view x, left, refl, passed, begins left (view x) answers.0, last);
        got = FoldsTo-push (Takes sends) old ms mid (view x) new taken sent;
        left = answers.1;
      })

      refuses : (refusal : msg.Message → SendFault) (back : msg.Message) → sends mid (view x) (Err (refusal back)) new
          → IfSome a (λ text. (m : Message) × ReadsOver limit (up_to m) text (TookBefore limit sends text old new c m
          refusal) (Unread limit sends text old new c))
      refuses refusal back refused = known a b old mid so_far read (λ text left ms passed taken answers. (
        view x,
        record {
          messages = ms;
          rest = (reading_within limit left).rest;
          read = (left, passed, begins left (view x) answers.0);
          got = (mid, taken, back, refused);
          left = answers.1;
        },
      ))

      pub hands_refused : (fault : SendFault) → sends mid (view x) (Err fault) new → IfSome a (λ text. Hands limit sends
          text old new c (refused_end fault))
      hands_refused (Shut back) refused = refuses Shut back refused
      hands_refused (IsFull back) refused = refuses IsFull back refused

    module _ {X : Type 0} (view : X → Message) (c : Option (List ℕ)) (old new : S) where
      pub hands_end : (a b : Option (List ℕ)) → Handed a b old new → IfSome b (λ at. Answers view (Ok None) c
          (reading_within limit at)) → IfSome a (λ text. Hands limit sends text old new c End)
      hands_end a b so_far read = known a b old new so_far read (λ text left ms passed taken answers. record {
        messages = ms;
        rest = (reading_within limit left).rest;
        read = (left, passed, ap (λ o. record { outcome = o; rest = (reading_within limit left).rest }) answers.0);
        got = taken;
        left = answers.1;
      })

      pub hands_fault : (fault : ReadFault) (a b : Option (List ℕ)) → Handed a b old new
          → IfSome b (λ at. Answers view (Err fault) c (reading_within limit at))
          → IfSome a (λ text. Hands limit sends text old new c (Fault fault))
      hands_fault (Input kind) a b so_far read =
          known a b old new so_far read (λ text left ms passed taken stops. record {
            messages = ms;
            rest = left;
            read = passed;
            got = taken;
            left = stops;
          })
      hands_fault NoMemory a b so_far read =
          known a b old new so_far read (λ text left ms passed taken stops. record {
            messages = ms;
            rest = left;
            read = passed;
            got = taken;
            left = stops;
          })
      hands_fault fault a b so_far read = known a b old new so_far read (λ text left ms passed taken answers. record {
        messages = ms;
        rest = (reading_within limit left).rest;
        read = (left, passed, ap (λ o. record { outcome = o; rest = (reading_within limit left).rest }) answers.0);
        got = taken;
        left = answers.1;
      })

    -- and where no more messages are read
    pub hands_on : (old new : S) (a b : Option (List ℕ)) → Handed a b old new → IfSome a (λ text. ReadsOver limit
        in_part text (Took limit sends text old new b) (UnreadWithin limit sends text old new b))
    hands_on old new None b so_far = tt
    hands_on old new (Some text) None so_far = absurd so_far
    hands_on old new (Some text) (Some left) so_far = record {
      messages = so_far.0;
      rest = left;
      read = so_far.1;
      got = so_far.2;
      left = frame_unread body_means limit left;
    }

-- one send while no write has failed
abbrev Sent : Message → Option (List ℕ) → Result (Unit {0}) SendFault → Option WriteFault → Option WriteFault
    → Option (List ℕ) → Type 0
Sent m a outcome old new b = MatchOption old (Writes m a (kept_write new) b × Told outcome new) (λ fault. IsClosed
    outcome × (new ≡ Some fault) × Keeps a b)

sent_frame : (m : Message) (old new : Option WriteFault) (a b : Option (List ℕ)) → old ≡ None → Sent m a (Ok tt)
    old new b
    → (new ≡ None) × ((text : List ℕ) × IsFrameOf m text × Appends a b text)
sent_frame m None None a b open_still sent = (refl, sent.0)
sent_frame m None (Some fault) a b open_still sent = absurd (sent.1)
sent_frame m (Some fault) new a b open_still sent = absurd (cc)

pub Appends-Keeps : (a b c : Option (List ℕ)) (text : List ℕ) → Appends a b text → Keeps b c → Appends a c text
Appends-Keeps None b c text first second = tt
Appends-Keeps (Some xs) None c text first second = absurd first
Appends-Keeps (Some xs) (Some ys) None text first second = absurd second
Appends-Keeps (Some xs) (Some ys) (Some zs) text first second = second ∙ first

-- frames, and what a write that failed left
pub breaks_off : (ms : List Message) (m : Message) (fault : WriteFault) (a b c : Option (List ℕ)) → GetsFrames ms a b
    → Writes m b (Err fault) c → BreaksOffAt ms m fault a c
breaks_off ms m (Output kind) a b c frames broken =
    let part = broken.2 in
    record {
      frames = frames.0;
      frames_of_whole = frames.1;
      frame = broken.0;
      frame_of_next = broken.1;
      part = part.0;
      missing = part.1;
      split = part.2;
      got = Appends-trans a b c frames.0 part.0 frames.2 part.3;
    }
breaks_off ms m Memory a b c frames broken = (frames.0, frames.1, Appends-Keeps a b c frames.0 frames.2 broken)

module _ {W : Type 0} (contents : W → Option (List ℕ)) where
  abbrev at : FrameOutbox W → Option (List ℕ)
  at outbox = contents outbox.writer.now

  -- what an outbox took, its writer got
  pub taken_frames : (old : FrameOutbox W) (ms : List Message) (new : FrameOutbox W) → old.fault ≡ None
      → FoldsTo (Takes (FrameOutboxSends contents)) old ms new
      → (new.fault ≡ None) × GetsFrames ms (at old) (at new)
  taken_frames old [] new unfailed taken = (
    ap (λ o. o.fault) (sym taken) ∙ unfailed,
    (
      [],
      refl,
      subst (λ o. Appends (at old) (at o) []) taken
          (Appends-nil (at old)),
    ),
  )
  taken_frames old (m ∷ ms) new unfailed taken =
      let mid = taken.0 in
      let first = sent_frame m old.fault mid.fault (at old) (at mid) unfailed taken.1.0 in
      let more = taken_frames mid ms new first.0 taken.2 in (
        more.0,
        (
          first.1.0 ++ more.1.0,
          (first.1.0, more.1.0, first.1.1, more.1.1, refl),
          Appends-trans (at old) (at mid)
              (at new) first.1.0 more.1.0 first.1.2 more.1.2,
        ),
      )

  -- an outbox keeps the writer that it was lent
  pub taken_keeps : (old : FrameOutbox W) (ms : List Message) (new : FrameOutbox W)
      → FoldsTo (Takes (FrameOutboxSends contents)) old ms new
      → new.writer.ghost_name ≡ old.writer.ghost_name
  taken_keeps old [] new taken = ap (λ o. o.writer.ghost_name) (sym taken)
  taken_keeps old (m ∷ ms) new taken = taken_keeps taken.0 ms new taken.2 ∙ taken.1.1

-- frames, and one more
pub AreFramesOf-push : (ms : List Message) (text : List ℕ) (m : Message) (frame : List ℕ) → AreFramesOf ms text
    → IsFrameOf m frame → AreFramesOf (ms ++ m ∷ []) (text ++ frame)
AreFramesOf-push [] text m frame none last = rw none (frame, [], last, refl, sym (append-nil frame))
AreFramesOf-push (x ∷ xs) text m frame frames last =
    let more = AreFramesOf-push xs frames.1 m frame frames.3 last in (
      frames.0,
      frames.1 ++ frame,
      frames.2,
      more,
      ap (λ bytes. bytes ++ frame) frames.4 ∙ append_assoc frames.0
          frames.1 frame,
    )

GetsFrames-push : (ms : List Message) (m : Message) (a b c : Option (List ℕ)) → GetsFrames ms a b → Writes m b (Ok tt) c
    → GetsFrames (ms ++ m ∷ []) a c
GetsFrames-push ms m a b c frames last = (
  frames.0 ++ last.0,
  AreFramesOf-push ms frames.0 m last.0 frames.1 last.1,
  Appends-trans a b c frames.0 last.0
      frames.2 last.2,
)

module _ {O : Type 0} (sends : Sends O) where
  pub OffersAll-push : (ms : List Message) (m : Message) (old mid new : O) → OffersAll sends old ms mid
      → Offers sends m mid new → OffersAll sends old (ms ++ m ∷ []) new
  OffersAll-push ms m old mid new offered next = FoldsTo-push (λ from m to. Offers sends m from to) old ms mid m new
      offered next

  -- one message more was offered
  pub offers_more : (m : Message) (outcome : Result (Unit {0}) SendFault) (old mid new : O) → (ms : List Message)
      × OffersAll sends old ms mid → sends mid m outcome new
      → (ms : List Message) × OffersAll sends old ms new
  offers_more m outcome old mid new so_far sent = (
    so_far.0 ++ m ∷ [],
    OffersAll-push so_far.0 m old mid new so_far.1
        (record { outcome = outcome; sent = sent }),
  )

module _ {I O : Type 0} (receives : Receives I) (sends : Sends O) where
  GivesAll-push : (ms : List Message) (m : Message) (old mid new : I) → GivesAll receives old ms mid → WaitsFor receives
      mid (message m) new → GivesAll receives old (ms ++ m ∷ []) new
  GivesAll-push ms m old mid new given next =
      rw (map-append message ms (m ∷ [])) (FoldsTo-push (WaitsFor receives) old (map message ms) mid (message m) new
      given next)

  -- so many messages were received, written and offered
  pub record Carries (count : ℕ) (old new : I × Option (List ℕ) × O) : Type 0 where
    pub ms : List Message
    pub counted : length ms ≡ count
    pub given : GivesAll receives old.0 ms new.0
    pub frames : GetsFrames ms old.1 new.1
    pub offered : OffersAll sends old.2 ms new.2

  module _ (count : ℕ) (old mid new : I × Option (List ℕ) × O) (so_far : Carries count old mid) where
    pub carries_more : (m : Message) → WaitsFor receives mid.0 (message m) new.0 → Writes m mid.1 (Ok tt) new.1
        → Offers sends m mid.2 new.2 → Carries (count + 1) old new
    carries_more m came written offers = record {
      ms = so_far.ms ++ m ∷ [];
      counted = length_push so_far.ms m ∙ ap (λ n. n + 1) so_far.counted;
      given = GivesAll-push so_far.ms m old.0 mid.0 new.0 so_far.given came;
      frames = GetsFrames-push so_far.ms m old.1 mid.1 new.1 so_far.frames written;
      offered = OffersAll-push sends so_far.ms m old.2 mid.2 new.2 so_far.offered offers;
    }

    pub writes_until_fault : (m : Message) (fault : WriteFault) → WaitsFor receives mid.0 (message m) new.0
        → Writes m mid.1 (Err fault) new.1 → Offers sends m mid.2 new.2
        → WritesOut receives sends old (Broken fault) new
    writes_until_fault m fault came broken offers = (
      so_far.ms,
      m,
      GivesAll-push so_far.ms m old.0 mid.0 new.0 so_far.given came,
      breaks_off so_far.ms m fault old.1 mid.1 new.1 so_far.frames broken,
      OffersAll-push sends so_far.ms m old.2 mid.2 new.2 so_far.offered offers,
    )

  pub writes_until_closed : (count : ℕ) (old mid : I × Option (List ℕ) × O) (last : I) → Carries count old mid
      → WaitsFor receives mid.0 closed last
      → WritesOut receives sends old Closed (last, mid.1, mid.2)
  writes_until_closed count old mid last so_far came = (
    so_far.ms,
    inl (FoldsTo-push (WaitsFor receives) old.0 (map message so_far.ms) mid.0 closed last so_far.given
        came),
    so_far.frames,
    so_far.offered,
  )
