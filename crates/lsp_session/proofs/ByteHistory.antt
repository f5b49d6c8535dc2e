-- What a session between bytes did, exchange after exchange.
use Rattle.std.proofs.Common.{◌≡◌, refl, sym, ap, subst, ◌∙◌, inl, inr, ℕ, ◌≤◌, ◌+◌, ◌-◌, List, [], ◌∷◌, ◌++◌}
use Rattle.std.proofs.Common.{append_assoc, take, drop, take_all, length-drop}
use Rattle.std.proofs.Math.Seq.{take-add}
use Rattle.std.proofs.Common.{append-nil, length, arith, Ok, Err, Option, Some}
use Rattle.std.specs.List.{FoldsTo}
use Rattle.lsp_message.specs.Message.{Message}
use Rattle.lsp_message.specs.Written.{AreFramesOf}
use Rattle.lsp_session.proofs.Ran.{no_one}
use Rattle.lsp_message.specs.declared.frame.limits.Limits.{Limits}
use Rattle.lsp_message.specs.declared.frame.ReadFault.{ReadFault}
use Rattle.lsp_session.specs.ByteSession.{Standing, Exchanged, Exchanges, Goes, Answers, Comes, IsFrameRead, reads_of}
use Rattle.lsp_session.specs.ByteSession.{writes_of, WritesTurn, BeginsWithFault, BringMessages, IsMessage}
use Rattle.lsp_session.specs.Event.{Event, message, closed}
use Rattle.lsp_session.specs.Machine.{Advances, End, IsAwaited}
use Rattle.lsp_session.specs.PendingOutput.{AddsFrames, AddsSome}
use Rattle.lsp_session.specs.ProtocolError.{ProtocolFault, out_of_memory}
use Rattle.lsp_session.specs.Session.{Behavior, no_more}
use Rattle.lsp_session.specs.SessionOutcome.{served_by}
use Rattle.lsp_session.specs.TransportTurn.{IsOver}
use Rattle.lsp_session.specs.declared.loops.ReadEnd.{ReadEnd}
use Rattle.lsp_session.specs.declared.loops.ReadEnd.TheVariants.{Fault as AtFault}
use Rattle.lsp_session.specs.declared.loops.machine.Stage.{Stage}
use Rattle.lsp_session.specs.declared.loops.machine.Stage.TheVariants.{Starting, Replied, Serving, Asked, Ended}

-- a session that has not ended counts as one
abbrev pub open_count : Stage → ℕ
open_count (Ended outcome) = 0
open_count stage = 1

pub open_counts : (stage : Stage) → (IsOver stage → ⊥) → open_count stage ≡ 1
open_counts Starting lasts = refl
open_counts Replied lasts = refl
open_counts Serving lasts = refl
open_counts (Asked id) lasts = refl
open_counts (Ended outcome) lasts = absurd (lasts tt)

pub over_counts : (stage : Stage) → IsOver stage → open_count stage ≡ 0
over_counts (Ended outcome) over = refl
over_counts Starting over = absurd over
over_counts Replied over = absurd over
over_counts Serving over = absurd over
over_counts (Asked id) over = absurd over

pub counts_one : (stage : Stage) → open_count stage ≤ 1
counts_one Starting = omega arith
counts_one Replied = omega arith
counts_one Serving = omega arith
counts_one (Asked id) = omega arith
counts_one (Ended outcome) = omega arith

folds_then : {P A : Type 0} (R : P → A → P → Type 0) (p : P) (xs : List A) (q : P) (ys : List A) (r : P)
    → FoldsTo R p xs q → FoldsTo R q ys r → FoldsTo R p (xs ++ ys) r
folds_then R p [] q ys r same more = subst (λ a. FoldsTo R a ys r) (sym same) more
folds_then R p (x ∷ xs) q ys r (mid, one, rest) more = (mid, one, folds_then R mid xs q ys r rest more)

reads_then : (xs ys : List Exchanged) → reads_of (xs ++ ys) ≡ reads_of xs ++ reads_of ys
reads_then [] ys = refl
reads_then (x ∷ xs) ys = ap (λ l. x.read ++ l) (reads_then xs ys) ∙ sym (append_assoc x.read (reads_of xs)
    (reads_of ys))

writes_then : (xs ys : List Exchanged) → writes_of (xs ++ ys) ≡ writes_of xs ++ writes_of ys
writes_then [] ys = refl
writes_then (x ∷ xs) ys = ap (λ l. x.written ++ l) (writes_then xs ys) ∙ sym (append_assoc x.written (writes_of xs)
    (writes_of ys))

-- messages alone
abbrev AreMessages : List Exchanged → Type 0
AreMessages [] = Unit {0}
AreMessages (x ∷ xs) = IsMessage x.event × AreMessages xs

-- they end nothing
end_stays : (limits : Limits) (was : Option ReadEnd) (xs : List Exchanged) (left : List ℕ) (end : Option ReadEnd)
    → AreMessages xs → BringMessages limits was xs left end → end ≡ was
end_stays limits was [] left end are same = same
end_stays limits was (x ∷ xs) left end are (inl first) = end_stays limits was xs left end are.1 first.1
end_stays limits was (x ∷ xs) left end are (inr last) = absurd (subst IsMessage last.0 are.0)

events_then : (limits : Limits) (was : Option ReadEnd) (xs ys : List Exchanged) (left : List ℕ) (end : Option ReadEnd)
    → AreMessages xs → BringMessages limits was ys left end → BringMessages limits was (xs ++ ys) left end
events_then limits was [] ys left end first more = more
events_then limits was (x ∷ xs) ys left end first more =
    inl (first.0, events_then limits was xs ys left end first.1 more)

module _ (limits : Limits) (most : ℕ) {S : Type 0} (may : Behavior S) where
  over_end : (stage : Stage) → IsAwaited stage closed → (s s' : S) (sent : List Message) (gone : Stage) → Advances may
      (stage, s) closed sent (gone, s') → IsOver gone
  over_end stage awaited s s' sent gone ends = subst IsOver (sym ends.now) tt

  over_wrote : (sent : List Message) (written : List ℕ) (gone stage : Stage) → IsOver gone
      → WritesTurn sent written gone
      stage → IsOver stage
  over_wrote sent written gone stage over (inl all) = subst IsOver (sym all.0) over
  over_wrote sent written gone stage over (inr some) = subst IsOver (sym some.over) tt

  pub awaits_end : (stage : Stage) → (IsAwaited stage closed → ⊥) → IsOver stage
  awaits_end Starting never = absurd (never tt)
  awaits_end Replied never = absurd (never tt)
  awaits_end Serving never = absurd (never tt)
  awaits_end (Asked id) never = absurd (never tt)
  awaits_end (Ended outcome) never = tt

  never_awaited : (stage : Stage) (event : Event) → IsOver stage → IsAwaited stage event → ⊥
  never_awaited (Ended outcome) event over awaited = awaited
  never_awaited Starting event over awaited = over
  never_awaited Replied event over awaited = over
  never_awaited Serving event over awaited = over
  never_awaited (Asked id) event over awaited = over

  -- a session that has ended stays so
  pub over_stays : (a c : Standing S) (event : Event) → Comes may a event c → IsOver a.stage → IsOver c.stage
  over_stays a c event (inl (awaited, written, answers)) over = absurd (never_awaited a.stage event over awaited)
  over_stays a c event (inr (never, kept)) over = subst (λ (b : Standing S). IsOver b.stage) (sym kept) over

  -- the end of the messages ends a session
  pub closed_over : (a c : Standing S) → Comes may a closed c → IsOver c.stage
  closed_over a c (inl (awaited, written, answers)) =
      over_wrote answers.sent written answers.gone c.stage (over_end a.stage awaited a.service c.service answers.sent
      answers.gone answers.advances) answers.writes
  closed_over a c (inr (never, kept)) = subst (λ (b : Standing S). IsOver b.stage) (sym kept) (awaits_end a.stage never)

  -- at the end of the messages nothing is sent
  pub closed_silent : (a c : Standing S) → Comes may a closed c → c.pending ≡ a.pending
  closed_silent a c (inl (awaited, written, answers)) =
      answers.pending ∙ ap (λ l. a.pending ++ l) (silent answers.advances answers.writes) ∙ append-nil a.pending
    where
      silent : End may (a.stage, a.service) no_more answers.sent (answers.gone, c.service)
          → WritesTurn answers.sent written answers.gone c.stage → written ≡ []
      silent e (inl all) = subst (λ l. AreFramesOf l written) e.silent all.1
      silent e (inr out) = absurd (no_one out.part out.more out.unsent (sym out.cut ∙ e.silent))
  closed_silent a c (inr (never, kept)) = ap (λ (b : Standing S). b.pending) kept

  -- a session that has not ended got messages alone
  got_messages : (a b : Standing S) (d : Option ReadEnd) (xs : List Exchanged) (left : List ℕ) (e : Option ReadEnd)
      → FoldsTo (Exchanges limits most may) a xs b → (IsOver b.stage → ⊥) → BringMessages limits d xs left e
      → AreMessages xs
  got_messages a b d [] left e same waits events = tt
  got_messages a b d (x ∷ xs) left e (mid, one, rest) waits (inl first) =
      (first.0, got_messages mid b d xs left e rest waits first.1)
  got_messages a b d (x ∷ xs) left e (mid, one, rest) waits (inr last) =
      let at_end = subst (λ (ev : Event). IsAwaited a.stage ev × Answers may a ev x.written mid) last.0 (
        one.awaited,
        one.answers,
      ) in
      let over = closed_over a mid (inl (at_end.0, x.written, at_end.1)) in
      let same : mid ≡ b = subst (λ l. FoldsTo (Exchanges limits most may) mid l b) last.1 rest in
      absurd (waits (subst (λ (s : Standing S). IsOver s.stage) same over))

  -- bytes came, and no message is whole
  pub goes_gathering : (a : Standing S) (u : List ℕ) (d : Option ReadEnd) (x : List ℕ)
      → Goes limits most may a u d x a (u ++ x) d
  goes_gathering a u d x = record {
    exchanges = [];
    taken = refl;
    events = refl;
    read = refl;
    written = sym (append-nil a.pending);
  }

  -- nothing came
  pub goes_nowhere : (a : Standing S) (u : List ℕ) (d : Option ReadEnd) → Goes limits most may a u d [] a u d
  goes_nowhere a u d = record {
    exchanges = [];
    taken = refl;
    events = refl;
    read = append-nil u;
    written = sym (append-nil a.pending);
  }

  goes_then : (a b c : Standing S) (u v w : List ℕ) (d e f : Option ReadEnd) (x y : List ℕ)
      (first : Goes limits most may a u d x b v e) → AreMessages first.exchanges
      → Goes limits most may b v e y c w f → Goes limits most may a u d (x ++ y) c w f
  goes_then a b c u v w d e f x y first open_so more = record {
    exchanges = first.exchanges ++ more.exchanges;
    taken = folds_then (Exchanges limits most may) a first.exchanges b more.exchanges c first.taken more.taken;
    events = events_then limits d first.exchanges more.exchanges w f open_so
        (subst (λ was. BringMessages limits was more.exchanges w f)
        (end_stays limits d first.exchanges v e open_so first.events) more.events);
    read = sym (append_assoc u x y) ∙ ap (λ l. l ++ y) first.read ∙ append_assoc (reads_of first.exchanges) v y
        ∙ ap (λ l. reads_of first.exchanges ++ l) more.read
        ∙ sym (append_assoc (reads_of first.exchanges) (reads_of more.exchanges) w)
        ∙ ap (λ l. l ++ w) (sym (reads_then first.exchanges more.exchanges));
    written = more.written ∙ ap (λ l. l ++ writes_of more.exchanges) first.written
        ∙ append_assoc a.pending (writes_of first.exchanges) (writes_of more.exchanges)
        ∙ ap (λ l. a.pending ++ l) (sym (writes_then first.exchanges more.exchanges));
  }

  -- bytes came, and then something was taken
  pub goes_on : (a c : Standing S) (u v w : List ℕ) (d f : Option ReadEnd) (x : List ℕ) → v ≡ u ++ x
      → Goes limits most may a v d [] c w f → Goes limits most may a u d x c w f
  unfolding goes_gathering
  goes_on a c u v w d f x is more = subst (λ l. Goes limits most may a u d l c w f) (append-nil x)
      (goes_then a a c u (u ++ x) w d d f x [] (goes_gathering a u d x) tt
      (subst (λ l. Goes limits most may a l d [] c w f) is more))

  -- further bytes of the same piece came
  pub goes_more : (a b c : Standing S) (u v w : List ℕ) (d e f : Option ReadEnd) (bytes : List ℕ) (n r : ℕ)
      → (IsOver b.stage → ⊥) → Goes limits most may a u d (take n bytes) b v e
      → Goes limits most may b v e (take r (take (length bytes - n) (drop n bytes))) c w f
      → Goes limits most may a u d (take (n + r) bytes) c w f
  goes_more a b c u v w d e f bytes n r waits first more =
      let behind : take (length bytes - n) (drop n bytes) ≡ drop n bytes = take_all _ _ (omega (
        arith,
        length-drop n bytes,
      )) in
      subst (λ l. Goes limits most may a u d l c w f) (ap (λ l. take n bytes ++ take r l) behind
      ∙ sym (take-add n r bytes)) (goes_then a b c u v w d e f (take n bytes) (take r (take (length bytes - n)
      (drop n bytes))) first (got_messages a b d first.exchanges v e first.taken waits first.events) more)

  -- the same bytes were unread, and the same are
  pub goes_kept : (a c : Standing S) (u v : List ℕ) (d : Option ReadEnd) (x w : List ℕ) (f : Option ReadEnd) → v ≡ u
      → Goes limits most may a v d x c w f → Goes limits most may a u d x c w f
  goes_kept a c u v d x w f same went = subst (λ l. Goes limits most may a l d x c w f) same went

  pub goes_still : (a : Standing S) (u : List ℕ) (d : Option ReadEnd) (w : List ℕ) → w ≡ u
      → Goes limits most may a u d [] a w d
  goes_still a u d w same = subst (λ l. Goes limits most may a u d [] a l d) (sym same) (goes_nowhere a u d)

  one : (a c : Standing S) (x : Exchanged) → Exchanges limits most may a x c → (u w : List ℕ) → u ≡ x.read ++ w
      → (d f : Option ReadEnd) → BringMessages limits d (x ∷ []) w f → Goes limits most may a u d [] c w f
  one a c x is u w same d f events = record {
    exchanges = x ∷ [];
    taken = (c, is, refl);
    events = events;
    read = append-nil u ∙ same ∙ ap (λ l. l ++ w) (sym (append-nil x.read));
    written = is.answers.pending ∙ ap (λ l. a.pending ++ l) (sym (append-nil x.written));
  }

  -- the messages end with a fault, and it is reported
  pub goes_closed : (a c : Standing S) (u w : List ℕ) (d f : Option ReadEnd) (fault : ReadFault)
      → f ≡ Some (AtFault fault) → BeginsWithFault limits u fault → w ≡ u → length a.pending ≤ most
      → (IsOver a.stage → ⊥) → Comes may a closed c → Goes limits most may a u d [] c w f
  goes_closed a c u w d f fault reported begins same room lasts (inl (awaited, written, answers)) =
      one a c (record { event = closed; read = []; written = written }) (record {
        awaited = awaited;
        read = refl;
        room = room;
        answers = answers;
      }) u w (sym same) d f (inr (
        refl,
        refl,
        (
          fault,
          reported,
          subst (λ l. BeginsWithFault limits l fault) (sym same) begins,
        ),
      ))
  goes_closed a c u w d f fault reported begins same room lasts (inr (never, kept)) =
      absurd (lasts (awaits_end a.stage never))

  awaited_message : (stage : Stage) (m : Message) → (IsOver stage → ⊥) → IsAwaited stage (message m)
  awaited_message Starting m lasts = tt
  awaited_message Replied m lasts = tt
  awaited_message Serving m lasts = tt
  awaited_message (Asked id) m lasts = tt
  awaited_message (Ended outcome) m lasts = absurd (lasts tt)

  -- the message of a whole frame is taken
  pub goes_message : (a c : Standing S) (m : Message) (frame u v w : List ℕ) (d f : Option ReadEnd)
      → IsFrameRead limits m frame → u ≡ frame ++ v → w ≡ v → f ≡ d → length a.pending ≤ most → (IsOver a.stage → ⊥)
      → Comes may a (message m) c → Goes limits most may a u d [] c w f
  goes_message a c m frame u v w d f is cut same end room lasts (inl (awaited, written, answers)) =
      one a c (record { event = message m; read = frame; written = written }) (record {
        awaited = awaited;
        read = is;
        room = room;
        answers = answers;
      }) u w (cut ∙ ap (λ l. frame ++ l) (sym same)) d f (inl (tt, end))
  goes_message a c m frame u v w d f is cut same end room lasts (inr (never, kept)) =
      absurd (never (awaited_message a.stage m lasts))

-- what is taken of the rest of a piece is within the piece
pub within_more : (n r : ℕ) (bytes : List ℕ) → n ≤ length bytes → r ≤ length (take (length bytes - n) (drop n bytes))
    → n + r ≤ length bytes
within_more n r bytes first more =
    let all : length (take (length bytes - n) (drop n bytes)) ≡ length (drop n bytes) = ap (λ (l : List ℕ). length l)
    (take_all _ _ (omega (arith, length-drop n bytes))) in
    omega (arith, all, length-drop n bytes, first, more)

-- the same bounds
pub goes_same : (limits limits' : Limits) (most most' : ℕ) {S : Type 0} (may : Behavior S) (a c : Standing S)
    (u : List ℕ) (d : Option ReadEnd) (x w : List ℕ) (f : Option ReadEnd) → limits' ≡ limits → most' ≡ most
    → Goes limits' most' may a u d x c w f → Goes limits most may a u d x c w f
goes_same limits limits' most most' may a c u d x w f same as_many went =
    subst (λ l. Goes l most may a u d x c w f) same (subst (λ n. Goes limits' n may a u d x c w f) as_many went)

module _ {S : Type 0} (may : Behavior S) (old new : Standing S) (event : Event) (sent : List Message) (gone : Stage)
    (advances : Advances may (old.stage, old.service) event sent (gone, new.service)) where
  -- all that a turn sends is written
  pub answers_all : new.stage ≡ gone → AddsFrames {E = ProtocolFault} old.pending sent (Ok tt) new.pending
      → (written : List ℕ) × Answers may old event written new
  answers_all stands (frames, are, added) = (
    frames,
    record {
      sent = sent;
      gone = gone;
      advances = advances;
      writes = inl (stands, are);
      pending = added;
    },
  )

  -- memory ran out for a part of it
  pub answers_some : new.stage ≡ Ended (served_by (Err out_of_memory)) → AddsSome old.pending sent new.pending
      → (written : List ℕ) × Answers may old event written new
  answers_some over r = (
    r.frames,
    record {
      sent = sent;
      gone = gone;
      advances = advances;
      writes = inr (record {
        part = r.part;
        unsent = r.unsent;
        more = r.more;
        cut = r.cut;
        are_frames = r.are_frames;
        over = over;
      });
      pending = r.added;
    },
  )
