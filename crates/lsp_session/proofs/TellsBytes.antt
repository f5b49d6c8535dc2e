-- The bytes of a session over a transport, of whatever reader and writer.
use Rattle.lsp_message.specs.Message.{Message}
use Rattle.lsp_message.specs.Told.{Parts}
use Rattle.lsp_message.specs.declared.frame.ReadFault.{ReadFault}
use Rattle.lsp_session.proofs.Accounts.{talks_in_order}
use Rattle.lsp_session.proofs.Knowing.{Knows}
use Rattle.lsp_session.proofs.TransportInOrder.{keeps_account, keeps_ends}
use Rattle.lsp_session.proofs.Tellings.{talks_keeps}
use Rattle.lsp_session.specs.Account.{Act, gave, took, lost, sending, InOrder}
use Rattle.lsp_session.specs.ActBytes.{AsksPolicy, Note, EndsAfter, SkipsNothing, SentParts, TellsActs, ToldSession}
use Rattle.lsp_session.specs.ActBytes.{acts_in, bytes_taken, bytes_given}
use Rattle.lsp_session.specs.Boxes.{Receives}
use Rattle.lsp_session.specs.Event.{Event, message, timeout, closed, woken}
use Rattle.lsp_session.specs.Passing.{TolerantGives}
use Rattle.lsp_session.specs.PassingBoxes.{stream_of}
use Rattle.lsp_session.specs.PassingBytes.{SkipsNoContent}
use Rattle.lsp_session.specs.Prompt.{Talks}
use Rattle.lsp_session.specs.Session.{starting, SessionAnswer, SessionPart, Exchange, Stop}
use Rattle.lsp_session.specs.SessionFault.{session_answer}
use Rattle.lsp_session.specs.Streams.{Stream, StreamReads}
use Rattle.lsp_session.specs.StreamTransports.{account_of, inbox_of, IsUnused, StreamTransportGives}
use Rattle.lsp_session.specs.StreamTransports.{StreamTransportSends, PassesBetween, Serves}
use Rattle.lsp_session.specs.Transcripts.{notes_of}
use Rattle.lsp_session.specs.declared.lifecycle.SendFault.{SendFault}
use Rattle.lsp_session.specs.declared.loops.ReadEnd.{ReadEnd}
use Rattle.lsp_session.specs.declared.loops.handler.SessionEnd.{SessionEnd}
use Rattle.lsp_session.specs.declared.loops.stream_session.SessionFault.{SessionFault}
use Rattle.lsp_session.specs.declared.loops.session_outcome.StopReason.{StopReason}
use Rattle.lsp_message.specs.declared.frame.WriteFault.{WriteFault}
use Rattle.lsp_message.specs.declared.frame.limits.Limits.{Limits}
use Rattle.lsp_session.specs.declared.loops.frame_outbox.FrameOutbox.{FrameOutbox}
use Rattle.lsp_session.specs.declared.loops.tolerant_inbox.TolerantInbox.{TolerantInbox}
use Rattle.lsp_session.specs.declared.loops.stream_transport.StreamTransport.{StreamTransport}
use Rattle.std.proofs.Common.{◌≡◌, refl, sym, ◌∙◌, ap, subst, ℕ, List, [], ◌∷◌, ◌++◌, append_assoc, append-nil, Option}
use Rattle.std.proofs.Common.{Some, None}
use Rattle.std.proofs.KnownBytes.{Consumes-nil, Consumes-trans, Appends-nil, Appends-trans}
use Rattle.std.specs.Io.KnownBytes.{Appends, Consumes, Keeps}
use Rattle.std.specs.List.{concat}
use Rattle.std.specs.Prelude.{Result, Ok, Err, MatchOption}

abbrev Ends : Type 0
Ends = Option ReadEnd × Option WriteFault

TellsActs-append : (limit : Limits) (ns ms : List Note) (a b c : Ends) → TellsActs limit a ns b → TellsActs limit b ms c
    → TellsActs limit a (ns ++ ms) c
TellsActs-append limit [] ms a b c first second = subst (λ (ends : Ends). TellsActs limit ends ms c) first second
TellsActs-append limit ((gave event, parts) ∷ ns) ms a b c first second = (
  first.0,
  first.1,
  first.2,
  TellsActs-append limit ns ms (first.0, a.1) b c first.3 second,
)
TellsActs-append limit ((took m, parts) ∷ ns) ms a b c first second = (
  first.0,
  first.1,
  TellsActs-append limit ns ms
      (a.0, first.0) b c first.2 second,
)
TellsActs-append limit ((lost m, parts) ∷ ns) ms a b c first second = (
  first.0,
  first.1,
  TellsActs-append limit ns ms
      (a.0, first.0) b c first.2 second,
)

pub taken-append : (ns ms : List Note) → bytes_taken (ns ++ ms) ≡ bytes_taken ns ++ bytes_taken ms
taken-append [] ms = refl
taken-append ((gave event, parts) ∷ ns) ms = ap (λ l. concat parts ++ l) (taken-append ns ms)
    ∙ sym (append_assoc (concat parts) (bytes_taken ns) (bytes_taken ms))
taken-append ((took m, parts) ∷ ns) ms = taken-append ns ms
taken-append ((lost m, parts) ∷ ns) ms = taken-append ns ms

given-append : (ns ms : List Note) → bytes_given (ns ++ ms) ≡ bytes_given ns ++ bytes_given ms
given-append [] ms = refl
given-append ((gave event, parts) ∷ ns) ms = given-append ns ms
given-append ((took m, parts) ∷ ns) ms = ap (λ l. concat parts ++ l) (given-append ns ms)
    ∙ sym (append_assoc (concat parts) (bytes_given ns) (bytes_given ms))
given-append ((lost m, parts) ∷ ns) ms = ap (λ l. concat parts ++ l) (given-append ns ms)
    ∙ sym (append_assoc (concat parts) (bytes_given ns) (bytes_given ms))

tells_sent : (limit : Limits) (end : Option ReadEnd) (old new : Option WriteFault) (m : Message) (outcome : Result
    (Unit {0}) SendFault) (parts : Parts) → SentParts old (sending m outcome) new parts
    → TellsActs limit (end, old) ((sending m outcome, parts) ∷ []) (end, new) × (bytes_taken ((sending m outcome, parts)
    ∷ []) ≡ []) × (bytes_given ((sending m outcome, parts) ∷ []) ≡ concat parts)
tells_sent limit end old new m (Ok done) parts sent = ((new, sent, refl), refl, append-nil (concat parts))
tells_sent limit end old new m (Err fault) parts sent = ((new, sent, refl), refl, append-nil (concat parts))

AsksPolicy-append : {L : Type 0} (limit : Limits) (passes : L → ReadFault → L → Type 0) (ns ms : List Note) (a b c : L)
    → AsksPolicy limit passes a ns b → AsksPolicy limit passes b ms c → AsksPolicy limit passes a (ns ++ ms) c
AsksPolicy-append limit passes [] ms a b c first second = subst (λ policy. AsksPolicy limit passes policy ms c) first
    second
AsksPolicy-append limit passes ((gave event, parts) ∷ ns) ms a b c first second = (
  first.0,
  first.1,
  AsksPolicy-append limit passes ns ms first.0 b c first.2 second,
)
AsksPolicy-append limit passes ((took m, parts) ∷ ns) ms a b c first second = AsksPolicy-append limit passes ns ms a b c
    first second
AsksPolicy-append limit passes ((lost m, parts) ∷ ns) ms a b c first second = AsksPolicy-append limit passes ns ms a b c
    first second

asks_sent : {L : Type 0} (limit : Limits) (passes : L → ReadFault → L → Type 0) (m : Message) (outcome : Result
    (Unit {0}) SendFault) (parts : Parts) (a b : L) → b ≡ a
    → AsksPolicy limit passes a ((sending m outcome, parts) ∷ []) b
asks_sent limit passes m (Ok done) parts a b same = same
asks_sent limit passes m (Err fault) parts a b same = same

-- a policy that allows nothing to be skipped
pub skips_nothing : {L : Type 0} (passes : L → ReadFault → L → Type 0) → SkipsNoContent passes → (limit : Limits)
    (notes : List Note) (old new : L) → AsksPolicy limit passes old notes new → SkipsNothing notes
skips_nothing passes nothing limit [] old new asked = tt
skips_nothing passes nothing limit ((gave woken, parts) ∷ notes) old new asked =
    absurd (nothing old asked.1.0 asked.0 asked.1.3)
skips_nothing passes nothing limit ((gave (message m), parts) ∷ notes) old new asked =
    skips_nothing passes nothing limit notes asked.0 new asked.2
skips_nothing passes nothing limit ((gave timeout, parts) ∷ notes) old new asked =
    skips_nothing passes nothing limit notes asked.0 new asked.2
skips_nothing passes nothing limit ((gave closed, parts) ∷ notes) old new asked =
    skips_nothing passes nothing limit notes asked.0 new asked.2
skips_nothing passes nothing limit ((took m, parts) ∷ notes) old new asked =
    skips_nothing passes nothing limit notes old new asked
skips_nothing passes nothing limit ((lost m, parts) ∷ notes) old new asked =
    skips_nothing passes nothing limit notes old new asked

-- what ended the messages
pub ends_after : {L : Type 0} (passes : L → ReadFault → L → Type 0) (limit : Limits) (old new : Stream × L)
    (event : Event)
    → TolerantGives passes limit old event new → EndsAfter limit old.0.end event new.0.end
ends_after passes limit old new woken gives = rw (gives.4) gives.5
ends_after passes limit old new timeout gives = at old.0.end gives.0
  where
    at : (end : Option ReadEnd) → MatchOption end (StreamReads limit old.0.remaining timeout new.0.end new.0.remaining)
        (λ e. (timeout ≡ closed) × (new.0.end ≡ Some e) × Keeps old.0.remaining new.0.remaining)
        → EndsAfter limit end timeout new.0.end
    at None reads = tt
    at (Some e) ended = ended.1
ends_after passes limit old new closed gives = at old.0.end gives.0
  where
    at : (end : Option ReadEnd) → MatchOption end (StreamReads limit old.0.remaining closed new.0.end new.0.remaining)
        (λ e. (closed ≡ closed) × (new.0.end ≡ Some e) × Keeps old.0.remaining new.0.remaining)
        → EndsAfter limit end closed new.0.end
    at None reads = tt
    at (Some e) ended = ended.1
ends_after passes limit old new (message m) gives = at old.0.end gives.0
  where
    at : (end : Option ReadEnd) → MatchOption end (StreamReads limit old.0.remaining (message m) new.0.end
        new.0.remaining) (λ e. (message m ≡ closed) × (new.0.end ≡ Some e) × Keeps old.0.remaining new.0.remaining)
        → EndsAfter limit end (message m) new.0.end
    at None reads = reads.0
    at (Some e) ended = ended.1

module _ {R W L : Type 0} (remaining : R → Option (List ℕ)) (passes : L → ReadFault → L → Type 0) (contents : W
    → Option (List ℕ)) where
  -- what ended the messages and the writes
  abbrev ended : StreamTransport R W L → Ends
  ended t = (t.end, t.fault)

  -- the transcript grew by acts whose bytes it tells, and the limit is kept
  abbrev Tells : StreamTransport R W L → StreamTransport R W L → Type 0
  Tells old new = (new.limits ≡ old.limits) × (notes : List Note) × (notes_of new.transcript.now
      ≡ notes_of old.transcript.now ++ notes) × TellsActs old.limits (ended old) notes (ended new)
      × PassesBetween remaining contents notes old new
      × AsksPolicy old.limits passes old.policy.now notes new.policy.now

  tells_own : (a : StreamTransport R W L) → Tells a a
  tells_own a = (
    refl,
    [],
    sym (append-nil (notes_of a.transcript.now)),
    refl,
    (
      Consumes-nil (remaining a.reader.now),
      Appends-nil (contents a.writer.now),
    ),
    refl,
  )

  tells_then : (a b c : StreamTransport R W L) → Tells a b → Tells b c → Tells a c
  tells_then a b c first second = (
    second.0 ∙ first.0,
    first.1 ++ second.1,
    second.2 ∙ ap (λ l. l ++ second.1) first.2 ∙ append_assoc (notes_of a.transcript.now) first.1 second.1,
    TellsActs-append a.limits first.1 second.1 (ended a) (ended b) (ended c) first.3 (subst (λ n. TellsActs n (ended b)
        second.1 (ended c)) first.0 second.3),
    (
      subst (Consumes (remaining a.reader.now) (remaining c.reader.now)) (sym (taken-append first.1 second.1))
          (Consumes-trans _ _ _ _ _ first.4.0 second.4.0),
      subst (Appends (contents a.writer.now) (contents c.writer.now)) (sym (given-append first.1 second.1))
          (Appends-trans _ _ _ _ _ first.4.1 second.4.1),
    ),
    AsksPolicy-append a.limits passes first.1 second.1 a.policy.now b.policy.now c.policy.now first.5
        (subst (λ n. AsksPolicy n passes b.policy.now second.1 c.policy.now) first.0 second.5),
  )

  tells_received : (a : StreamTransport R W L) (event : Event) (b : StreamTransport R W L) → StreamTransportGives
      remaining passes a event b → Tells a b
  tells_received a event b gives =
      let told = gives.3 in (
        gives.0.1.2,
        (gave event, told.0) ∷ [],
        told.1,
        (
          b.end,
          told.3.0,
          ends_after passes a.limits (stream_of remaining (inbox_of a), a.policy.now) (
            stream_of remaining
                (inbox_of b),
            b.policy.now,
          ) event gives.0.0,
          ap (λ (o : FrameOutbox W). (b.end, o.fault)) gives.1,
        ),
        (
          subst (Consumes (remaining a.reader.now) (remaining b.reader.now)) (sym (append-nil (concat told.0)))
              told.2.consumed,
          subst (λ (o : FrameOutbox W). Appends (contents a.writer.now) (contents o.writer.now) []) (sym gives.1)
              (Appends-nil (contents a.writer.now)),
        ),
        (b.policy.now, told.3.1, refl),
      )

  tells_sending : (a : StreamTransport R W L) (m : Message) (outcome : Result (Unit {0}) SendFault) (b : StreamTransport
      R W L) → StreamTransportSends contents a m outcome b → Tells a b
  tells_sending a m outcome b sends =
      let told = sends.3 in
      let is = tells_sent a.limits a.end a.fault b.fault m outcome told.0 told.3 in (
        ap (λ (i : TolerantInbox R L). i.limits) sends.1,
        (sending m outcome, told.0) ∷ [],
        told.1,
        subst (λ (i : TolerantInbox R L). TellsActs a.limits (ended a) ((sending m outcome, told.0) ∷ []) (
          i.end,
          b.fault,
        )) (sym sends.1) is.0,
        (
          subst (λ (i : TolerantInbox R L). Consumes (remaining a.reader.now) (remaining i.reader.now)
              (bytes_taken ((sending m outcome, told.0) ∷ []))) (sym sends.1)
              (subst (Consumes (remaining a.reader.now) (remaining a.reader.now)) (sym is.1)
              (Consumes-nil (remaining a.reader.now))),
          subst (Appends (contents a.writer.now) (contents b.writer.now)) (sym is.2) told.2.appended,
        ),
        asks_sent a.limits passes m outcome told.0 a.policy.now b.policy.now (ap (λ (i : TolerantInbox R L).
            i.policy.now) sends.1),
      )

  module _ (listens : Receives (StreamTransport R W L)) (P Q : SessionPart) (reason : StopReason)
      (knows : Knows P Q reason) (old new : StreamTransport R W L) (unused : IsUnused old) (answer : SessionAnswer)
      (talks : Talks (StreamTransportGives remaining passes) listens (StreamTransportSends contents) starting P old
      answer new) where
    tells : Tells old new
    tells = talks_keeps (StreamTransportGives remaining passes) listens (StreamTransportSends contents) Tells tells_own
        tells_then tells_received tells_sending starting P old new answer talks

    all_noted : tells.1 ≡ notes_of new.transcript.now
    all_noted = sym (tells.2 ∙ ap (λ (notes : List Note). notes ++ tells.1) unused.2)

    -- the transcript has the bytes of each act
    tells_its_bytes : TellsActs old.limits (None, None) (notes_of new.transcript.now) (ended new)
    tells_its_bytes =
        subst (λ (notes : List Note). TellsActs old.limits (None, None) notes (ended new)) all_noted
        (subst (λ (end : Option ReadEnd). TellsActs old.limits (end, None) tells.1 (ended new)) unused.0
        (subst (λ (fault : Option WriteFault). TellsActs old.limits (old.end, fault) tells.1 (ended new)) unused.1
        tells.3))

    -- and no others passed
    pub all_passed : PassesBetween remaining contents (notes_of new.transcript.now) old new
    all_passed = subst (λ (notes : List Note). PassesBetween remaining contents notes old new) all_noted tells.4

    -- and the acts are those of the session, in order
    pub told_session : ToldSession old.limits Q (notes_of new.transcript.now) (session_answer reason answer new.end
        new.fault)
    told_session =
        let t = talks_in_order (StreamTransportGives remaining passes) listens (StreamTransportSends contents)
        (λ (t : StreamTransport R W L). account_of t) (keeps_account remaining passes contents) P old
        new answer talks in
        let all : t.0 ≡ acts_in (notes_of new.transcript.now) = sym (t.1 ∙ ap (λ (notes : List Note). acts_in notes
        ++ t.0) unused.2) in
        let run = t.2 in
        let known = knows run.exchanges run.stop answer run.part.0 in
        record {
          exchanges = run.exchanges;
          stop = run.stop;
          answer = answer;
          part = known.0;
          in_order = subst (λ (acts : List Act). InOrder acts run.exchanges run.stop answer) all run.part.1;
          end = new.end;
          fault = new.fault;
          told = tells_its_bytes;
          reason = reason;
          stops = known.1.0;
          is = refl;
        }

    -- and the policy allowed what was skipped
    asks_its_policy : AsksPolicy old.limits passes old.policy.now (notes_of new.transcript.now) new.policy.now
    asks_its_policy = subst (λ (notes : List Note). AsksPolicy old.limits passes old.policy.now notes new.policy.now)
        all_noted tells.5

    pub serves : Serves passes Q old (session_answer reason answer new.end new.fault) new
    serves = record {
      told = told_session;
      same_ends = keeps_ends remaining passes contents listens P Q reason knows old new unused answer talks;
      asked = asks_its_policy;
    }

-- a session serves in other words
pub serves_as : {R W L : Type 0} (passes : L → ReadFault → L → Type 0) (P Q : SessionPart) → ((xs : List Exchange)
    (stop : Stop) (answer : SessionAnswer) → P xs stop answer → Q xs stop answer)
    → (old new : StreamTransport R W L) (result : Result SessionEnd SessionFault) → Serves passes P old result
    new → Serves passes Q old result new
serves_as passes P Q turned old new result serves = record {
  told = record {
    exchanges = serves.told.exchanges;
    stop = serves.told.stop;
    answer = serves.told.answer;
    part = turned serves.told.exchanges serves.told.stop serves.told.answer serves.told.part;
    in_order = serves.told.in_order;
    end = serves.told.end;
    fault = serves.told.fault;
    told = serves.told.told;
    reason = serves.told.reason;
    stops = serves.told.stops;
    is = serves.told.is;
  };
  same_ends = serves.same_ends;
  asked = serves.asked;
}
