-- Runs of a session between bytes and bytes that no bytes bring: a wake or a timeout that nobody reported, an end of
-- the input that nobody reported, a fault that the bytes do not have, and bytes that were taken too many.
use Rattle.lsp_message.specs.Frame.{reading_within}
use Rattle.lsp_message.specs.FrameInput.{AwaitsMore}
use Rattle.lsp_message.specs.Message.{Message}
use Rattle.lsp_message.proofs.FrameInputs.{end_at_start, start_header}
use Rattle.lsp_message.specs.Reading.{Reading}
use Rattle.lsp_message.specs.declared.frame.ReadFault.{ReadFault}
use Rattle.lsp_message.specs.declared.frame.ReadFault.TheVariants.{Memory}
use Rattle.lsp_message.specs.declared.frame.limits.Limits.{Limits}
use Rattle.lsp_session.proofs.FrameReads.{awaits_within, ends_here}
use Rattle.lsp_session.proofs.MessagesEnd.{comes_stops}
use Rattle.lsp_session.specs.ByteSession.{Standing, Exchanged, Exchanges, Goes, Answers, IsFrameRead, reads_of}
use Rattle.lsp_session.specs.ByteSession.{BeginsWithFault, BringMessages, IsEndOf, IsMessage, IsReadFor}
use Rattle.lsp_session.specs.ByteSession.{StopsOtherwise}
use Rattle.lsp_session.specs.ByteSessions.{EndIsKnown}
use Rattle.lsp_session.specs.Event.{Event, message, timeout, closed, woken}
use Rattle.lsp_session.specs.Session.{Behavior}
use Rattle.lsp_session.specs.declared.loops.ReadEnd.{ReadEnd}
use Rattle.lsp_session.specs.declared.loops.ReadEnd.TheVariants.{End as AtEnd, Fault as AtFault}
use Rattle.lsp_session.specs.declared.loops.machine.Stage.{Stage}
use Rattle.std.proofs.Common.{◌≡◌, ◌≢◌, refl, sym, ◌∙◌, ap, subst, inl, inr, ◌⊎◌, ℕ, List, [], ◌∷◌, ◌++◌}
use Rattle.std.proofs.Common.{append-nil, append_assoc, Option, Some, None, Result, Ok, Err}
use Rattle.std.specs.List.{FoldsTo}

none_some : {A : Type 0} {x : A} → None ≡ Some x → ⊥
none_some e = cc (e)

-- an end of the input is no fault
no_end : {fault : ReadFault} → ◌≡◌ {A = Option ReadEnd} (Some AtEnd) (Some (AtFault fault)) → ⊥
no_end e = cc (e)

closed_comes : IsMessage closed → ⊥
closed_comes is = is

outcome_of : {a b : Reading Message} → a ≡ b → a.outcome ≡ b.outcome
outcome_of same = ap (λ (r : Reading Message). r.outcome) same

rest_of : {a b : Reading Message} → a ≡ b → a.rest ≡ b.rest
rest_of same = ap (λ (r : Reading Message). r.rest) same

-- ---- what bytes bring

module _ (limits : Limits) (was : Option ReadEnd) (left : List ℕ) (end : Option ReadEnd) where
  comes_within : (before : List Exchanged) (x : Exchanged) (more : List Exchanged)
      → BringMessages limits was (before ++ x ∷ more) left end → IsMessage x.event ⊎ (x.event ≡ closed)
  comes_within [] x more (inl first) = inl first.0
  comes_within [] x more (inr last) = inr last.0
  comes_within (b ∷ before) x more (inl first) = comes_within before x more first.1
  comes_within (b ∷ before) x more (inr last) = absurd (never before last.1)
    where
      never : (before : List Exchanged) → before ++ x ∷ more ≡ [] → ⊥
      never [] e = cc (e)
      never (b ∷ before) e = cc (e)

  -- a wake that nobody reported, wherever it comes
  pub wakes_unasked : (before : List Exchanged) (read written : List ℕ) (more : List Exchanged)
      → BringMessages limits was (before ++ record { event = woken; read = read; written = written } ∷ more) left end
      → ⊥
  wakes_unasked before read written more brings = elim (comes_within before _ more brings) [
    | inl is ↦ is
    | inr e ↦ cc (e)
  ]

  -- a timeout that nobody reported
  pub times_out_unasked : (before : List Exchanged) (read written : List ℕ) (more : List Exchanged)
      → BringMessages limits was (before ++ record { event = timeout; read = read; written = written } ∷ more) left end
      → ⊥
  times_out_unasked before read written more brings = elim (comes_within before _ more brings) [
    | inl is ↦ is
    | inr e ↦ cc (e)
  ]

  -- an event behind the end of the messages
  pub goes_on_behind_the_end : (before : List Exchanged) (x y : Exchanged) (more : List Exchanged) → x.event ≡ closed
      → BringMessages limits was (before ++ x ∷ y ∷ more) left end → ⊥
  goes_on_behind_the_end [] x y more is (inl first) = closed_comes (subst IsMessage is first.0)
  goes_on_behind_the_end [] x y more is (inr last) = cc (last.1)
  goes_on_behind_the_end (b ∷ before) x y more is (inl first) = goes_on_behind_the_end before x y more is first.1
  goes_on_behind_the_end (b ∷ before) x y more is (inr last) = never before last.1
    where
      never : (before : List Exchanged) → before ++ x ∷ y ∷ more ≡ [] → ⊥
      never [] e = cc (e)
      never (b ∷ before) e = cc (e)

-- ---- what a session does for bytes

-- nothing was reported as the end of the messages, and now this is
reported : (limits : Limits) (xs : List Exchanged) (left : List ℕ) (end : ReadEnd)
    → BringMessages limits None xs left (Some end) → (fault : ReadFault) × (end ≡ AtFault fault)
    × BeginsWithFault limits left fault
reported limits [] left end none = absurd (none_some (sym none))
reported limits (x ∷ xs) left end (inl first) = reported limits xs left end first.1
reported limits (x ∷ xs) left end (inr last) = (last.2.0, one last.2.1, last.2.2)
  where
    one : {a b : ReadEnd} → Some a ≡ Some b → a ≡ b
    one e = cc (e)

message_of : (event : Event) → IsMessage event → (m : Message) × (event ≡ message m)
message_of (message m) is = (m, refl)
message_of timeout is = absurd is
message_of closed is = absurd is
message_of woken is = absurd is

-- a message is no empty text
never_empty : (limits : Limits) (m : Message) → IsFrameRead limits m [] → ⊥
never_empty limits m is =
    none_message _ m (outcome_of (ends_here limits [] (end_at_start limits [] [] limits.header None
    (start_header limits [] [] refl refl) refl))) (outcome_of (is []))
  where
    none_message : (a : Result (Option Message) ReadFault) (m : Message) → a ≡ Ok None → a ≡ Ok (Some m) → ⊥
    none_message (Ok found) m none some = cc (none, some)
    none_message (Err fault) m none some = cc (none)

-- the message at the front of a text is one, and so are the bytes behind it
one_message : (limits : Limits) (m n : Message) (frame other rest left : List ℕ) → IsFrameRead limits m frame
    → IsFrameRead limits n other → frame ++ rest ≡ other ++ left → (n ≡ m) × (left ≡ rest)
one_message limits m n frame other rest left is also same = (
  one (ap (λ (r : Reading Message). r.outcome) both),
  ap (λ (r : Reading Message). r.rest) both,
)
  where
    one : {a b : Message} → ◌≡◌ {A = Result (Option Message) ReadFault} (Ok (Some a)) (Ok (Some b)) → a ≡ b
    one e = cc (e)

    both : ◌≡◌ {A = Reading Message} (record { outcome = Ok (Some n); rest = left })
        (record { outcome = Ok (Some m); rest = rest })
    both = sym (also left) ∙ ap (reading_within limits) (sym same) ∙ is rest

-- bytes that are none have no bytes in front
front : (xs ys : List ℕ) → [] ≡ (xs ++ ys) ++ [] → xs ≡ []
front [] ys read = refl
front (x ∷ xs) ys read = cc (read)

one_fault : {f g : ReadFault} → ◌≡◌ {A = Result (Option Message) ReadFault} (Err f) (Err g) → f ≡ g
one_fault e = cc (e)

no_fault : {f : ReadFault} → ◌≡◌ {A = Result (Option Message) ReadFault} (Err f) (Ok None) → ⊥
no_fault e = cc (e)

one_end : {f g : ReadFault} → AtFault f ≡ AtFault g → f ≡ g
one_end e = cc (e)

-- a fault of the bytes
begun : (limits : Limits) (text : List ℕ) (fault : ReadFault) → fault ≢ Memory → BeginsWithFault limits text fault
    → (more : List ℕ) → reading_within limits (text ++ more) ≡ record { outcome = Err fault; rest = more }
begun limits text Memory bytes begins = absurd (bytes refl)
begun limits text fault bytes begins = begins

-- a reading leaves bytes, and none
none_left : (r : Reading Message) (byte : ℕ) (more : List ℕ) → r.rest ≡ byte ∷ more → r.rest ≡ [] → ⊥
none_left r byte more some none = cc (some, none)

module _ (limits : Limits) (most : ℕ) {S : Type 0} (may : Behavior S) (a c : Standing S) (u x w : List ℕ) where
  -- the session reports an end of the input that nobody reported to it
  pub ends_unasked : Goes limits most may a u None x c w (Some AtEnd) → ⊥
  ends_unasked went = let found = reported limits went.exchanges w AtEnd went.events in no_end (ap Some found.1)

  -- a fault that the session reports is found at the end of the unread bytes
  reads_to : (fault : ReadFault) → fault ≢ Memory → Goes limits most may a u None x c w (Some (AtFault fault))
      → (more : List ℕ) → reading_within limits (w ++ more) ≡ record { outcome = Err fault; rest = more }
  reads_to fault bytes went =
      let found = reported limits went.exchanges w (AtFault fault) went.events in
      begun limits w fault bytes (subst (BeginsWithFault limits w) (sym (one_end found.1)) found.2)

  -- the session reports a fault, and the bytes have another one
  pub reports_another : (fault other : ReadFault) → other ≢ Memory → (reading_within limits w).outcome ≡ Err fault
      → fault ≢ other → Goes limits most may a u None x c w (Some (AtFault other)) → ⊥
  reports_another fault other bytes has differs went =
      let begins = reads_to other bytes went [] in
      differs (one_fault (sym has ∙ ap (λ l. (reading_within limits l).outcome) (sym (append-nil w))
      ∙ outcome_of begins))

  -- the session reports a fault that longer bytes do not have
  pub reports_a_fault_too_early : (fault : ReadFault) (more : List ℕ) → fault ≢ Memory
      → (reading_within limits (w ++ more)).outcome ≢ Err fault
      → Goes limits most may a u None x c w (Some (AtFault fault)) → ⊥
  reports_a_fault_too_early fault more bytes differs went = differs (outcome_of (reads_to fault bytes went more))

  -- the session takes bytes behind the fault that it reports
  pub reports_a_fault_too_late : (fault : ReadFault) (byte : ℕ) (more : List ℕ) → fault ≢ Memory
      → (reading_within limits w).rest ≡ byte ∷ more → Goes limits most may a u None x c w (Some (AtFault fault)) → ⊥
  reports_a_fault_too_late fault byte more bytes some went = none_left (reading_within limits w) byte more some
      (ap (λ l. (reading_within limits l).rest) (sym (append-nil w)) ∙ rest_of (reads_to fault bytes went []))

module _ (limits : Limits) (most : ℕ) {S : Type 0} (may : Behavior S) where
  stops_on : (xs : List Exchanged) (a c : Standing S) (w : List ℕ) → FoldsTo (Exchanges limits most may) a xs c
      → BringMessages limits None xs w None → StopsOtherwise a.stage → StopsOtherwise c.stage
  stops_on [] a c w same none stops = subst (λ (s : Standing S). StopsOtherwise s.stage) same stops
  stops_on (x ∷ xs) a c w (mid, one, rest) (inl first) stops =
      let m = message_of x.event first.0 in
      stops_on xs mid c w rest first.1 (comes_stops may a mid x.event (λ e. no_closed m.0 (sym m.1 ∙ e))
      (inl (one.awaited, x.written, one.answers)) stops)
    where
      no_closed : (m : Message) → message m ≡ closed → ⊥
      no_closed m e = cc (e)
  stops_on (x ∷ xs) a c w (mid, one, rest) (inr last) stops = absurd (none_some last.2.1)

  -- the messages of the session end, and it reports nothing
  pub ends_unreported : (a c : Standing S) (u x w : List ℕ) → StopsOtherwise a.stage → (StopsOtherwise c.stage → ⊥)
      → Goes limits most may a u None x c w None → ⊥
  ends_unreported a c u x w stops ends went = ends (stops_on went.exchanges a c w went.taken went.events stops)

  -- the bytes of a message are its frame
  frame_read : (a c : Standing S) (y : Exchanged) → Exchanges limits most may a y c → (n : Message)
      → y.event ≡ message n → IsFrameRead limits n y.read
  frame_read a c y one n is = subst (λ (e : Event). IsReadFor limits e y.read) is one.read

  -- A message comes, for which the service stays as it is. Behind it comes a wake, for which it does not.
  pub wakes_behind_a_message : (a c : Standing S) (m : Message) (frame : List ℕ) → IsFrameRead limits m frame
      → ((written : List ℕ) (mid : Standing S) → Answers may a (message m) written mid → mid.service ≡ a.service)
      → c.service ≢ a.service → Goes limits most may a [] None frame c [] None → ⊥
  wakes_behind_a_message a c m frame is keeps woke went =
      runs went.exchanges went.taken went.events (append-nil frame ∙ went.read)
    where
      none_left : (xs : List Exchanged) (mid : Standing S) → FoldsTo (Exchanges limits most may) mid xs c
          → BringMessages limits None xs [] None → [] ≡ reads_of xs ++ [] → mid ≡ c
      none_left [] mid same none read = same
      none_left (y ∷ ys) mid (next, one, rest) (inl first) read =
          let n = message_of y.event first.0 in
          let empty : y.read ≡ [] = front y.read (reads_of ys) read in
          absurd (never_empty limits n.0 (subst (IsFrameRead limits n.0) empty (frame_read mid next y one n.0 n.1)))
      none_left (y ∷ ys) mid (next, one, rest) (inr last) read = absurd (none_some last.2.1)

      runs : (xs : List Exchanged) → FoldsTo (Exchanges limits most may) a xs c → BringMessages limits None xs [] None
          → frame ++ [] ≡ reads_of xs ++ [] → ⊥
      runs [] same none read = woke (ap (λ (s : Standing S). s.service) (sym same))
      runs (y ∷ ys) (mid, one, rest) (inl first) read =
          let n = message_of y.event first.0 in
          let both = one_message limits m n.0 frame y.read [] (reads_of ys ++ []) is (frame_read a mid y one n.0 n.1)
          (read ∙ append_assoc y.read (reads_of ys) []) in
          let same = none_left ys mid rest first.1 (sym both.1) in
          woke (ap (λ (s : Standing S). s.service) (sym same) ∙ keeps y.written mid (subst (λ (e : Event).
          Answers may a e y.written mid) (n.1 ∙ ap message both.0) one.answers))
      runs (y ∷ ys) (mid, one, rest) (inr last) read = none_some last.2.1

-- ---- what is known of the end

-- a frame that is cut off is reported as the end of the input
pub takes_a_cut_frame_for_the_end : (limits : Limits) (text : List ℕ) (stage : Stage) (fault : ReadFault)
    → (reading_within limits text).outcome ≡ Err fault → EndIsKnown limits text stage (Some AtEnd) → ⊥
takes_a_cut_frame_for_the_end limits text stage fault has known = no_fault (sym has ∙ outcome_of known.1)

-- the end of the input is reported as a fault
pub takes_the_end_for_a_fault : (limits : Limits) (text : List ℕ) (stage : Stage) (fault : ReadFault)
    → fault ≢ Memory → (reading_within limits text).outcome ≡ Ok None
    → EndIsKnown limits text stage (Some (AtFault fault)) → ⊥
takes_the_end_for_a_fault limits text stage fault bytes has known = at fault bytes known.1
  where
    at : (fault : ReadFault) → fault ≢ Memory → IsEndOf limits text (AtFault fault) → ⊥
    at Memory bytes is = bytes refl
    at fault bytes is = no_fault (sym (outcome_of is) ∙ has)

-- all bytes of a text are taken for the first answer, and some are left behind it
behind : (limits : Limits) (text : List ℕ) (byte : ℕ) (left : List ℕ) → (reading_within limits text).rest ≡ byte ∷ left
    → ((rest : List ℕ) → (read : List ℕ) × (rest ≡ read ++ (reading_within limits (text ++ rest)).rest)) → ⊥
behind limits text byte left some within =
    let end = within [] in
    never end.0 (end.1 ∙ ap (λ l. end.0 ++ (reading_within limits l).rest) (append-nil text)
    ∙ ap (λ l. end.0 ++ l) some)
  where
    never : (read : List ℕ) → [] ≡ read ++ byte ∷ left → ⊥
    never [] e = cc (e)
    never (b ∷ bs) e = cc (e)

-- a session that waits for more took bytes behind the first answer of a reader
pub takes_bytes_behind_an_answer : (limits : Limits) (text : List ℕ) (byte : ℕ) (left : List ℕ)
    → (reading_within limits text).rest ≡ byte ∷ left → AwaitsMore limits text → ⊥
takes_bytes_behind_an_answer limits text byte left some awaits =
    behind limits text byte left some (awaits_within limits text awaits)

-- bytes are left at what is reported as the end
pub leaves_bytes_at_the_end : (limits : Limits) (text : List ℕ) (stage : Stage) (end : ReadEnd) (byte : ℕ)
    (left : List ℕ) → (reading_within limits text).rest ≡ byte ∷ left → EndIsKnown limits text stage (Some end) → ⊥
leaves_bytes_at_the_end limits text stage end byte left some known = at end known.1
  where
    at : (end : ReadEnd) → IsEndOf limits text end → ⊥
    at AtEnd is = none_left (reading_within limits text) byte left some (rest_of is)
    at (AtFault Memory) is = behind limits text byte left some is.within
    at (AtFault fault) is = none_left (reading_within limits text) byte left some (rest_of is)
    at end is = is
