-- A session over a transport whose policy ends nothing is not ended by a content part that is no message while it
-- serves its client.
use Rattle.lsp_message.specs.Message.{Message}
use Rattle.lsp_message.specs.Methods.{is_exit}
use Rattle.lsp_message.specs.declared.frame.ReadFault.{ReadFault}
use Rattle.lsp_message.specs.declared.frame.limits.Limits.{Limits}
use Rattle.lsp_session.specs.Boxes.{Takes, WaitsFor, is_timeout}
use Rattle.lsp_session.specs.Event.{Event, message, timeout, closed, woken}
use Rattle.lsp_session.specs.Passing.{ended_at_content}
use Rattle.lsp_session.specs.PassingBoxes.{EndsAtContent, MayEnd}
use Rattle.lsp_session.specs.Prompt.{event_of, WaitsIn, AwaitsEnd, Refuses, Meets, Talks}
use Rattle.lsp_session.specs.Session.{SessionAnswer, SessionPart, Exchange, Stop, decided, no_more, timed_out, refused}
use Rattle.lsp_session.specs.Session.{exhausted, Phase, starting, replied, serving, asked, broken, ended}
use Rattle.lsp_session.specs.StreamTransports.{IsUnused, StopsServing, inbox_of, StreamTransportGives}
use Rattle.lsp_session.specs.StreamTransports.{StreamTransportListens, StreamTransportSends}
use Rattle.lsp_session.specs.Streams.{StreamReads}
use Rattle.lsp_session.specs.declared.loops.ReadEnd.{ReadEnd}
use Rattle.lsp_session.specs.declared.loops.ReadEnd.TheVariants.{Exit, End, Fault, Closed as ReadClosed}
use Rattle.lsp_session.specs.declared.loops.ReadEnd.TheVariants.{Memory as ReadMemory}
use Rattle.lsp_session.specs.declared.loops.stream_transport.StreamTransport.{StreamTransport}
use Rattle.lsp_session.specs.declared.loops.tolerant_inbox.TolerantInbox.{TolerantInbox}
use Rattle.std.proofs.Common.{◌≡◌, refl, sym, ◌∙◌, ap, subst, inl, inr, ℕ, Bool, true, false, List, [], ◌∷◌, ◌++◌}
use Rattle.std.proofs.Common.{length, Option, Some, None}
use Rattle.std.specs.List.{FoldsTo, list_all}
use Rattle.std.specs.Io.KnownBytes.{Keeps}
use Rattle.std.specs.Prelude.{MatchOption, if◌then◌else◌}

no_close : (came : Option Message) → event_of came ≡ closed → ⊥
no_close None e = cc (e)
no_close (Some m) e = cc (e)

by_exit : (b : Bool) → ended_at_content (if b then Some Exit else None) ≡ false
by_exit true = refl
by_exit false = refl

module _ (limit : Limits) (known rest : Option (List ℕ)) (old new : Option ReadEnd) where
  -- what one read that is no wake makes of the end
  at_message : (m : Message) → MatchOption old (StreamReads limit known (message m) new rest) (λ end. (message m
      ≡ closed) × (new ≡ Some end) × Keeps known rest) → ended_at_content new ≡ false
  at_message m gives = by old gives
    where
      by : (e : Option ReadEnd) → MatchOption e (StreamReads limit known (message m) new rest) (λ end. (message m
          ≡ closed) × (new ≡ Some end) × Keeps known rest) → ended_at_content new ≡ false
      by None reads = ap (λ (e : Option ReadEnd). ended_at_content e) reads.0 ∙ by_exit (is_exit m)
      by (Some end) none = absurd (cc (none.0))

  no_timeout : MatchOption old (StreamReads limit known timeout new rest) (λ end. (timeout ≡ closed) × (new ≡ Some end)
      × Keeps known rest) → ⊥
  no_timeout gives = by old gives
    where
      by : (e : Option ReadEnd) → MatchOption e (StreamReads limit known timeout new rest) (λ end. (timeout ≡ closed)
          × (new ≡ Some end) × Keeps known rest) → ⊥
      by None reads = reads
      by (Some end) none = cc (none.0)

module _ {R W L : Type 0} (remaining : R → Option (List ℕ)) (passes : L → ReadFault → L → Type 0) (ends : L → ReadFault
    → Type 0) (contents : W → Option (List ℕ))
    (never : (l : L) (fault : ReadFault) → ends l fault → ⊥) where
  abbrev Transport : Type 0
  Transport = StreamTransport R W L

  abbrev gives : Transport → Event → Transport → Type 0
  gives = StreamTransportGives remaining passes

  abbrev listens : Transport → Event → Transport → Type 0
  listens = StreamTransportListens ends

  -- no content part ended the messages
  abbrev Open : Transport → Type 0
  Open transport = ended_at_content transport.end ≡ false

  given : (event : Event) (old new : Transport) → gives old event new → (event ≡ closed → ⊥) → Open new
  given (message m) old new g other = at_message old.limits (remaining old.reader.now) (remaining new.reader.now)
      old.end new.end m g.0.0.0
  given timeout old new g other = absurd (no_timeout old.limits (remaining old.reader.now) (remaining new.reader.now)
      old.end new.end g.0.0.0)
  given closed old new g other = absurd (other refl)
  given woken old new g other = ap (λ (e : Option ReadEnd). ended_at_content e) g.0.0.5

  waited : (event : Event) (old new : Transport) → WaitsFor gives old event new → (event ≡ closed → ⊥) → Open new
  waited event old new waits other = by waits.passed waits.only_timeouts waits.received
    where
      by : (passed : List Event) → list_all is_timeout passed ≡ true → FoldsTo gives old (passed ++ event ∷ []) new
          → Open new
      by [] only run = subst (λ (transport : Transport). Open transport) run.2 (given event old run.0 run.1 other)
      by (timeout ∷ passed) only run =
          absurd (no_timeout old.limits (remaining old.reader.now) (remaining run.0.reader.now) old.end run.0.end
          run.1.0.0.0)
      by (message m ∷ passed) only run = absurd (cc (only))
      by (closed ∷ passed) only run = absurd (cc (only))
      by (woken ∷ passed) only run = absurd (cc (only))

  taken : (ms : List Message) (old new : Transport) → FoldsTo (Takes (StreamTransportSends contents)) old ms new
      → Open old → Open new
  taken [] old new run open_so = subst (λ (transport : Transport). Open transport) run open_so
  taken (m ∷ ms) old new run open_so =
      taken ms run.0 new run.2 (ap (λ (inbox : TolerantInbox R L). ended_at_content inbox.end) run.1.1 ∙ open_so)

  waited_in : (p : Phase) (event : Event) (old new : Transport) → WaitsIn gives listens p old event new
      → (event ≡ closed → ⊥) → Open new
  waited_in (asked i) event old new waits other = given event old new waits other
  waited_in (broken fault) event old new waits other = absurd waits
  waited_in (ended by) event old new waits other = absurd waits
  waited_in p event old new waits other = waited event old new waits.0 other

  kept : (old new : Transport) → inbox_of new ≡ inbox_of old → Open old → Open new
  kept old new same open_so = ap (λ (inbox : TolerantInbox R L). ended_at_content inbox.end) same ∙ open_so

  refused_open : (lost : Option Message) (p : Phase) (old new : Transport)
      → Refuses gives listens (StreamTransportSends contents) lost p old new → Open old → Open new
  refused_open None p old new same open_so = subst (λ (transport : Transport). Open transport) (sym same) open_so
  refused_open (Some m) (broken fault) old new refuses open_so = kept old new refuses.1 open_so
  refused_open (Some m) p old new refuses open_so = kept old new refuses.1.1 open_so

  met : (passes_late : Bool) (xs : List Exchange) (old new : Phase × Transport) → FoldsTo (Meets gives listens
      (StreamTransportSends contents) passes_late) old xs new → Open old.1 → Open new.1
  met passes_late [] old new run open_so = subst (λ (a : Phase × Transport). Open a.1) run open_so
  met passes_late (x ∷ xs) old new run open_so =
      met passes_late xs run.0 new run.2 (refused_open x.not_sent run.0.0 run.1.mid run.0.1 run.1.refuses
      (taken x.sent run.1.met run.1.mid run.1.taken (waited_in old.0 (event_of x.came) old.1 run.1.met run.1.waited
      (no_close x.came))))

  no_end : (l : L) (end : Option ReadEnd) → MayEnd ends l end → ⊥
  no_end l (Some (Fault fault)) may = never l fault may
  no_end l None may = may
  no_end l (Some Exit) may = may
  no_end l (Some End) may = may
  no_end l (Some ReadClosed) may = may
  no_end l (Some ReadMemory) may = may

  listened : (old new : Transport) → EndsAtContent ends (inbox_of old) (inbox_of new) → Open old → Open new
  listened old new hears_so open_so = by (ended_at_content new.end) refl
    where
      by : (b : Bool) → ended_at_content new.end ≡ b → ended_at_content new.end ≡ false
      by false e = e
      by true e = elim (hears_so e) [
        | inl same ↦ ap (λ (o : Option ReadEnd). ended_at_content o) same ∙ open_so
        | inr may ↦ absurd (no_end old.policy.now new.end may)
      ]

  -- where the session stopped while it served
  ended_so : (p : Phase) (count : ℕ) (stop : Stop) (mid after : Transport) → StopsServing p
      → AwaitsEnd gives listens p count stop mid after → Open mid → Open after
  ended_so p count no_more mid after serves (inl waits) open_so = by p serves waits
    where
      by : (p : Phase) → StopsServing p → WaitsIn gives listens p mid closed after → Open after
      by starting serves waits = absurd serves
      by replied serves waits = absurd serves
      by serving serves waits = listened mid after waits.1 open_so
      by (asked i) serves waits = absurd serves
      by (broken fault) serves waits = absurd waits
      by (ended answer) serves waits = absurd waits
  ended_so p count no_more mid after serves (inr all) open_so =
      subst (λ (transport : Transport). Open transport) (sym all.1) open_so
  ended_so p count timed_out mid after serves waits open_so =
      waited_in p timeout mid after waits (λ e. cc (e))
  ended_so p count exhausted mid after serves waits open_so =
      waited_in p (event_of waits.0) mid after waits.1 (no_close waits.0)
  ended_so p count decided mid after serves same open_so =
      subst (λ (transport : Transport). Open transport) (sym same) open_so
  ended_so p count (refused fault) mid after serves same open_so =
      subst (λ (transport : Transport). Open transport) (sym same) open_so

  pub reads_on : (P : SessionPart) (answer : SessionAnswer) (before after : Transport) → IsUnused before
      → (talks : Talks gives listens (StreamTransportSends contents) starting P before answer after)
      → StopsServing talks.history.reached → ended_at_content after.end ≡ false
  reads_on P answer before after unused talks serves =
      let h = talks.history in
      ended_so h.reached (length talks.exchanges) talks.stop h.mid after serves h.ends
      (met h.passes_late talks.exchanges (starting, before) (h.reached, h.mid) h.turns
      (ap (λ (o : Option ReadEnd). ended_at_content o) unused.0))
