-- Frames that are gathered, and written together.
use Rattle.std.proofs.Common.{◌≡◌, inl, inr, ℕ, Bool, map, ◌<◌, arith, List, [], ◌∷◌, ◌++◌, ◌∙◌, ap, sym, subst, refl}
use Rattle.std.proofs.Common.{length, append_assoc, append-nil, Option, Some, Result, Ok, Err, OnOk, IfErr}
use Rattle.std.proofs.KnownBytes.{Appends-nil, Appends-trans}
use Rattle.std.proofs.lemmas.List.{map-append}
use Rattle.std.proofs.lemmas.List.Folds.{concat-append}
use Rattle.std.specs.Io.KnownBytes.{Appends}
use Rattle.std.specs.List.{concat}
use Rattle.lsp_message.specs.Message.{Message}
use Rattle.lsp_message.specs.Told.{Given, WritesText}
use Rattle.lsp_message.specs.View.{message_view}
use Rattle.lsp_message.specs.Written.{AppendsBeginning, AreFramesOf, GetsFrames, IsFrameOf, IsOutput}
use Rattle.lsp_message.specs.declared.frame.WriteFault.{WriteFault}
use Rattle.lsp_message.specs.declared.frame.WriteFault.TheVariants.{Output, Memory}
use Rattle.lsp_message.specs.declared.frame.byte_trace.ByteTrace.{ByteTrace}
use Rattle.lsp_message.specs.declared.msg.Message as msg
use Rattle.lsp_session.proofs.Handing.{AreFramesOf-push}
use Rattle.lsp_threads.proofs.Frames.{breaks}
use Rattle.lsp_threads.specs.Passing.{noted}
use Rattle.lsp_threads.specs.Threads.{BreaksOffWithin}
use Rattle.lsp_server.specs.Taken.{Taken, TakesMore, closed, taken_of, takes, untaken}
use Rattle.lsp_server.specs.Writing.{FailsBehind, IsBehind, WritesBehind, WritesFrom, WritesMessages}
use Rattle.lsp_server.specs.declared.io_fault.IoFault.{IoFault}
use Rattle.lsp_server.specs.declared.io_fault.IoFault.TheVariants.{Write}
use Rattle.lsp_server.specs.declared.outgoing.TakenMessages.{TakenMessages}

-- ---- a text that was written, as the account has it
module _ (text : List ℕ) (old new : ByteTrace) (a b : Option (List ℕ)) where
  grown : (r : Result (Unit {0}) WriteFault) (told : Given (WritesText text r) old.parts new.parts a b)
      → Appends (noted old) (noted new) (concat told.0)
  grown r told = ap concat told.1.added ∙ concat-append old.parts told.0

  pub text_written : (r : Result (Unit {0}) WriteFault) → Given (WritesText text r) old.parts new.parts a b
      → OnOk r (Appends (noted old) (noted new) text)
  text_written (Ok done) told = subst (Appends (noted old) (noted new)) (sym told.2.0) (grown (Ok done) told)
  text_written (Err fault) told = tt

  pub text_begun : (r : Result (Unit {0}) WriteFault) → IfErr r IsOutput → Given (WritesText text r) old.parts new.parts
      a b → AppendsBeginning (noted old) (noted new) text
  text_begun (Ok done) output told = (
    concat told.0,
    [],
    told.2.0 ∙ sym (append-nil (concat told.0)),
    grown (Ok done) told,
  )
  text_begun (Err (Output kind)) output told = (concat told.0, told.2.0, told.2.1, grown (Err (Output kind)) told)
  text_begun (Err Memory) output told = absurd output

-- the fault behind a text that was written
pub fails_after : (text : List ℕ) (fault : WriteFault) (a b : Option (List ℕ)) → IsOutput fault → AppendsBeginning a b
    text → FailsBehind text fault a b
fails_after text (Output kind) a b output begun = begun
fails_after text Memory a b output begun = absurd output

-- ---- messages that were taken, and more of them
abbrev having : List msg.Message → Bool → Taken
having messages is_closed = record { messages = map message_view messages; is_closed = is_closed }

pub one_taken : (old new : List msg.Message) (m : msg.Message) (is_closed : Bool) → new ≡ old ++ m ∷ []
    → having new is_closed ≡ takes (having old is_closed) (message_view m)
one_taken old new m is_closed more = ap (λ messages. having messages is_closed) more
    ∙ ap (λ l. record { messages = l; is_closed = is_closed }) (map-append message_view old (m ∷ []))

pub takes_none : (before : Taken) → TakesMore before [] before
takes_none before = ap (λ l. record { messages = l; is_closed = before.is_closed }) (sym (append-nil before.messages))

pub takes_then : (before mid : Taken) (ms : List Message) (m : Message) → TakesMore before ms mid → TakesMore before (ms
    ++ m ∷ []) (takes mid m)
takes_then before mid ms m more =
    ap (λ (t : Taken). takes t m) more ∙ ap (λ l. record { messages = l; is_closed = before.is_closed })
    (append_assoc before.messages ms (m ∷ []))

-- ---- behind one frame
-- Frames of messages were gathered behind one. The first bytes of all that were written, and these are left.
abbrev pub Gathered : List ℕ → List ℕ → Taken → Taken → Option (List ℕ) → Option (List ℕ) → Type 0
Gathered frame left before after old now = (behind : List Message) × TakesMore before behind after × (text : List ℕ)
    × IsBehind frame behind text
    × (done : List ℕ) × Appends old now done × (text ≡ done ++ left)

pub gathered_none : (frame : List ℕ) (before : Taken) (a : Option (List ℕ)) → Gathered frame frame before before a a
gathered_none frame before a = (
  [],
  takes_none before,
  frame,
  ([], refl, sym (append-nil frame)),
  [],
  Appends-nil a,
  refl,
)

module _ (frame left : List ℕ) (before mid : Taken) (a b c : Option (List ℕ)) (so_far : Gathered frame left before mid a
    b) where
  -- one frame more
  pub gathered_more : (m : Message) (after : Taken) (next more : List ℕ) → after ≡ takes mid m → IsFrameOf m next
      → (done : List ℕ) × Appends b c done × (left ++ next ≡ done ++ more)
      → Gathered frame more before after a c
  gathered_more m after next more taken is (written, got, cut) =
      let text = so_far.2 in
      let behind = so_far.3 in
      let done = so_far.4 in (
        so_far.0 ++ m ∷ [],
        taken ∙ takes_then before mid so_far.0 m so_far.1,
        text ++ next,
        (
          behind.0 ++ next,
          AreFramesOf-push so_far.0 behind.0 m next behind.1 is,
          ap (λ l. l ++ next) behind.2 ∙ append_assoc frame behind.0 next,
        ),
        done ++ written,
        Appends-trans a b c done written so_far.5 got,
        ap (λ l. l ++ next) so_far.6 ∙ append_assoc done left next ∙ ap (λ l. done ++ l) cut
            ∙ sym (append_assoc done written more),
      )

  all_written : Appends b c left → Appends a c so_far.2
  all_written got = subst (λ t. Appends a c t) (sym so_far.6) (Appends-trans a b c so_far.4 left so_far.5 got)

  some_written : AppendsBeginning b c left → AppendsBeginning a c so_far.2
  some_written (part, rest, cut, got) = (
    so_far.4 ++ part,
    rest,
    so_far.6 ∙ ap (λ l. so_far.4 ++ l) cut ∙ sym (append_assoc so_far.4 part rest),
    Appends-trans a b c so_far.4 part so_far.5 got,
  )

  -- a beginning of what was left was written, and perhaps no frame of messages behind
  rest_broken : (fault : WriteFault) (last : List Message) (after : Taken) → TakesMore before (so_far.0 ++ last) after
      → IsOutput fault → AppendsBeginning b c left
      → WritesBehind frame before a (Err fault) after c
  rest_broken (Output kind) last after taken output begun = (
    so_far.0,
    last,
    taken,
    so_far.2,
    so_far.3,
    some_written begun,
  )
  rest_broken Memory last after taken output begun = absurd output

  -- the same, where one message more was taken
  pub last_broken : (fault : WriteFault) (m : Message) (after : Taken) → after ≡ takes mid m → IsOutput fault
      → AppendsBeginning b c left → WritesBehind frame before a (Err fault) after c
  last_broken fault m after taken output begun = rest_broken fault (m ∷ []) after (taken ∙ takes_then before mid
      so_far.0 m so_far.1) output begun

  same_taken : (after : Taken) → after ≡ mid → TakesMore before so_far.0 after
  same_taken after same = same ∙ so_far.1

  -- what was left was written, or a beginning of it
  pub rest_written : (r : Result (Unit {0}) WriteFault) (after : Taken) → after ≡ mid → OnOk r (Appends b c left)
      → IfErr r IsOutput → AppendsBeginning b c left
      → WritesBehind frame before a r after c
  rest_written (Ok done) after same ok output begun = (
    so_far.0,
    same_taken after same,
    so_far.2,
    so_far.3,
    all_written ok,
  )
  rest_written (Err fault) after same ok output begun =
      rest_broken fault [] after (same_taken after same ∙ ap (λ l. record {
        messages = before.messages
            ++ l;
        is_closed = before.is_closed;
      }) (sym (append-nil so_far.0))) output begun

  -- it was written, and there was no memory for the next frame
  pub rest_unmade : (fault : WriteFault) (m : Message) (after : Taken) → after ≡ takes mid m → FailsBehind left fault b
      c → WritesBehind frame before a (Err fault) after c
  rest_unmade (Output kind) m after taken begun = last_broken (Output kind) m after taken tt begun
  rest_unmade Memory m after taken got = (
    so_far.0,
    m,
    taken ∙ takes_then before mid so_far.0 m so_far.1,
    so_far.2,
    so_far.3,
    all_written got,
  )

-- ---- a message, and others behind it
frame_has_bytes : (m : Message) (frame more : List ℕ) → IsFrameOf m frame → 0 < length (frame ++ more)
frame_has_bytes m frame more (body, is, same, means) = rw same omega arith

-- more messages behind those that were broken off
breaks_before : (ms more : List Message) (a b : Option (List ℕ)) → BreaksOffWithin ms a b → BreaksOffWithin (ms
    ++ more) a b
breaks_before ms more a b (whole, next, unwritten, cut, part) =
    (whole, next, unwritten ++ more, ap (λ l. l ++ more) cut ∙ append_assoc whole (next ∷ unwritten) more, part)

pub from_behind : (m : Message) (frame : List ℕ) (before after : Taken) (a b : Option (List ℕ)) (result : Result
    (Unit {0}) WriteFault) → IsFrameOf m frame
    → WritesBehind frame before a result after b → WritesFrom m before a result after b
from_behind m frame before after a b (Ok done) is (behind, taken, text, (frames, are, same), got) = (
  behind,
  taken,
  (text, (frame, frames, is, are, same), got),
)
from_behind m frame before after a b (Err (Output kind)) is (behind, last, taken, text, (frames, are, same), begun) = (
  behind ++ last,
  taken,
  breaks_before (m ∷ behind) last a b (breaks (m ∷ behind) text a b (
    frame,
    frames,
    is,
    are,
    same,
  ) (rw same (frame_has_bytes m frame frames is)) begun),
)
from_behind m frame before after a b (Err Memory) is (behind, last, taken, text, (frames, are, same), got) = inr
    (behind, last, taken, (text, (frame, frames, is, are, same), got))

-- ---- all messages
AreFramesOf-append : (ms ns : List Message) (a b : List ℕ) → AreFramesOf ms a → AreFramesOf ns b → AreFramesOf (ms
    ++ ns) (a ++ b)
AreFramesOf-append [] ns a b none more = rw none more
AreFramesOf-append (m ∷ ms) ns a b (first, rest, is, are, same) more =
    (first, rest ++ b, is, AreFramesOf-append ms ns rest b are more, ap (λ l. l ++ b) same ∙ append_assoc first rest b)

GetsFrames-append : (ms ns : List Message) (a b c : Option (List ℕ)) → GetsFrames ms a b → GetsFrames ns b c
    → GetsFrames (ms ++ ns) a c
GetsFrames-append ms ns a b c (text, are, got) (more, are', got') = (
  text ++ more,
  AreFramesOf-append ms ns text more
      are are',
  Appends-trans a b c text more got got',
)

pub none_written : (taken : Taken) (a : Option (List ℕ)) → taken ≡ untaken → GetsFrames taken.messages a a
none_written taken a none = subst (λ (t : Taken). GetsFrames t.messages a a) (sym none) ([], refl, Appends-nil a)

-- all was written when the channel told that no more come
pub written_to_end : (before after : Taken) (a b : Option (List ℕ)) → after ≡ closed before → GetsFrames before.messages
    a b → WritesMessages after a (Ok tt) b
written_to_end before after a b ends frames = (
  ap (λ (t : Taken). t.is_closed) ends,
  subst (λ (t : Taken). GetsFrames
      t.messages a b) (sym ends) frames,
)

-- the account of a thread that begins with nothing
pub from_nothing : (taken all : TakenMessages) (first : ByteTrace) (answer : Result (Unit {0}) IoFault)
    (b : Option (List ℕ)) → first.parts ≡ [] → all ≡ taken
    → WritesMessages (taken_of taken) (noted first) answer b → WritesMessages (taken_of all) (Some []) answer b
from_nothing taken all first answer b none same written =
    subst (λ (t : TakenMessages). WritesMessages (taken_of t) (Some []) answer b) (sym same)
    (subst (λ parts. WritesMessages (taken_of taken) (Some (concat parts)) answer b) none written)

-- all that was taken so far was written, and then one message more was taken
module _ (before mid after : Taken) (m : Message) (a b c : Option (List ℕ)) (so_far : GetsFrames before.messages a b)
    (taken : mid ≡ takes before m) where
  -- the messages that were taken then
  taken_messages : (behind : List Message) → TakesMore mid behind after → after.messages ≡ before.messages ++ m ∷ behind
  taken_messages behind more = ap (λ (t : Taken). t.messages) more ∙ ap (λ (t : Taken). t.messages ++ behind) taken
      ∙ append_assoc before.messages (m ∷ []) behind

  -- some messages more were written
  pub some_more : WritesFrom m mid b (Ok tt) after c → GetsFrames after.messages a c
  some_more (behind, more, frames) =
      subst (λ ms. GetsFrames ms a c) (sym (taken_messages behind more)) (GetsFrames-append before.messages (m ∷ behind)
      a b c so_far frames)

  -- a write failed
  pub up_to_fault : (fault : WriteFault) → WritesFrom m mid b (Err fault) after c → WritesMessages after a
      (Err (Write fault)) c
  up_to_fault (Output kind) (behind, more, broken) =
      let last = broken.4 in (
        before.messages ++ broken.0,
        broken.1,
        broken.2,
        taken_messages behind more ∙ ap (λ l. before.messages ++ l) broken.3 ∙ sym (append_assoc before.messages
            broken.0 (broken.1 ∷ broken.2)),
        record {
          frames = so_far.0 ++ last.frames;
          frames_of_whole = AreFramesOf-append before.messages broken.0 so_far.0 last.frames so_far.1
              last.frames_of_whole;
          frame = last.frame;
          frame_of_next = last.frame_of_next;
          part = last.part;
          missing = last.missing;
          split = last.split;
          got = rw (append_assoc so_far.0 last.frames last.part) (Appends-trans a b c so_far.0 (last.frames
              ++ last.part) so_far.2 last.got);
        },
      )
  up_to_fault Memory (inl (same, kept)) = (
    before.messages,
    m,
    ap (λ (t : Taken). t.messages) (same ∙ taken),
    subst (λ n. GetsFrames before.messages a n) (sym kept) so_far,
  )
  up_to_fault Memory (inr (behind, last, more, frames)) = (
    before.messages ++ m ∷ behind,
    last,
    taken_messages (behind ++ last ∷ []) more ∙ sym (append_assoc before.messages (m ∷ behind) (last ∷ [])),
    GetsFrames-append before.messages (m ∷ behind) a b c so_far frames,
  )
