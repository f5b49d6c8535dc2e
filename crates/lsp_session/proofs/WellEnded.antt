-- A session of a handler that ended well, by its bytes: over a transport, and over a reader and a writer.
use Rattle.lsp_message.specs.Frame.{Begins, reading_within}
use Rattle.lsp_message.specs.Id.{Id}
use Rattle.lsp_message.specs.Message.{Message, ErrorObject}
use Rattle.lsp_message.specs.Written.{AreFramesOf}
use Rattle.lsp_message.specs.declared.frame.ReadFault.{ReadFault}
use Rattle.lsp_message.specs.declared.frame.WriteFault.{WriteFault}
use Rattle.lsp_message.specs.declared.frame.limits.Limits.{Limits}
use Rattle.lsp_session.proofs.Ordering.{each_replied, answers_in_order}
use Rattle.lsp_session.proofs.WellNoted.{AllTaken}
use Rattle.lsp_session.proofs.WellNoted.{came_at, offered_at, lost_at, closed_at, StopsWell, of_all}
use Rattle.lsp_session.proofs.WellNoted.{of_deciding, came_is, offered_is, none_lost, none_closed}
use Rattle.lsp_session.proofs.WellRead.{same_taken, same_given, NoFaultAt, ok_answer, written, RestIs, read}
use Rattle.lsp_session.proofs.WellServed.{LeavesSo, whole, stops_well}
use Rattle.lsp_session.proofs.WellSettled.{all_settled, left_after, messages_come, messages_settled, sends_settled}
use Rattle.lsp_session.proofs.WellSettled.{settled}
use Rattle.lsp_session.proofs.WellSettled.{settled_out}
use Rattle.lsp_session.specs.ActBytes.{SkipsNothing, TellsActs, ToldSession, acts_in}
use Rattle.lsp_session.specs.Answered.{AnswersRequests, AllReplied}
use Rattle.lsp_session.specs.EndsWell.{EndsWell, EndsWellBetween, EndsBy, AreWritten, all_taken, all_given}
use Rattle.lsp_session.specs.Event.{Event}
use Rattle.lsp_session.specs.HandlerSession.{of_handler}
use Rattle.lsp_session.specs.Session.{Exchange, SessionAnswer, SessionPart, came_of, messages_of, sends_of}
use Rattle.lsp_session.specs.Session.{SessionOut, Stop, decided, no_more}
use Rattle.lsp_session.specs.SessionBytes.{Gives, LeftAfter}
use Rattle.lsp_session.specs.SessionOutcome.{reason_of}
use Rattle.lsp_session.specs.Transcripts.{notes_of}
use Rattle.lsp_session.specs.declared.loops.ReadEnd.{ReadEnd}
use Rattle.lsp_session.specs.declared.loops.ReadEnd.TheVariants.{Fault}
use Rattle.lsp_session.specs.declared.loops.handler.SessionEnd.{SessionEnd}
use Rattle.lsp_session.specs.declared.loops.handler.SessionEnd.TheVariants.{ShutDown, Closed}
use Rattle.lsp_session.specs.declared.loops.stream_session.SessionFault.{SessionFault}
use Rattle.lsp_session.specs.declared.loops.transcript.Transcript.{Transcript}
use Rattle.serde_json.specs.Data.{Data}
use Rattle.std.proofs.Common.{◌≡◌, refl, sym, ◌∙◌, ap, subst, inl, inr, ℕ, List, [], ◌∷◌, ◌++◌, Option, map}
use Rattle.std.proofs.Common.{Some, None, arith, le-ltb, nat_lt, false}
use Rattle.std.specs.List.{FoldsTo, flat_map}
use Rattle.std.specs.Prelude.{Result, Ok, Err, IfOk}

-- all were replied to
all_replied : (xs : List Exchange) (stop : Stop) (end : SessionEnd) → AnswersRequests xs stop (Ok end) → AllReplied xs
all_replied xs stop end (inl all) = all
all_replied xs stop end (inr last) = absurd last.unallowed

-- frames that are read back are frames
pub as_written : (ms : List Message) (text : List ℕ) → AreFramesOf ms text → AreWritten ms text
as_written [] text is = is
as_written (m ∷ ms) text (first, more, frame, rest, cut) = (
  frame.0,
  more,
  frame.1,
  as_written ms more rest,
  cut ∙ ap (λ l. l ++ more) frame.2,
)

-- what was taken after the last message
rest_decided : (limit : Limits) (end : Option ReadEnd) (closings : List Event) (rest : List ℕ) → closings ≡ []
    → RestIs limit end closings rest → rest ≡ []
rest_decided limit end closings rest none (inl is) = is
rest_decided limit end closings rest none (inr closed) = absurd (closed.0 none)

rest_at_end : (limit : Limits) (end : Option ReadEnd) (closings : List Event) (rest : List ℕ)
    → ((fault : ReadFault) → end ≡ Some (Fault fault) → ⊥) → reading_within limit [] ≡ record {
      outcome = Ok None;
      rest = [];
    }
    → RestIs limit end closings rest → reading_within limit rest ≡ record { outcome = Ok None; rest = [] }
rest_at_end limit end closings rest sound empty (inl is) = rw is empty
rest_at_end limit end closings rest sound empty (inr (some, inl is)) = is
rest_at_end limit end closings rest sound empty (inr (some, inr fault)) = absurd (sound fault.0 fault.1)

-- nothing begins with no frame
pub nothing_left : (limit : Limits) → reading_within limit [] ≡ record { outcome = Ok None; rest = [] }
nothing_left limit = at limit.header limit refl
  where
    at : (h : Option ℕ) (l : Limits) → l.header ≡ h → reading_within l [] ≡ record { outcome = Ok None; rest = [] }
    at None l is = rw is refl
    at (Some bound) l is =
        let below : nat_lt bound 0 ≡ false = le-ltb _ _ (omega arith) in
        rw (is, below) refl

ends_by : (limit : Limits) (end : SessionEnd) (stop : Stop) (last parting : List Message) (rest left : List ℕ)
    → (stop ≡ decided → rest ≡ left) → (stop ≡ no_more → reading_within limit rest ≡ record {
      outcome = Ok None;
      rest = left;
    }) → LeavesSo end stop last parting → EndsBy limit end last parting rest left
ends_by limit ShutDown stop last parting rest left at_message at_end leaves = (
  leaves.0,
  leaves.1,
  leaves.2,
  leaves.3,
  leaves.4,
  at_message leaves.5,
)
ends_by limit Closed stop last parting rest left at_message at_end (none, inl gone) = (
  none,
  inl (gone.0, gone.1, at_message gone.2),
)
ends_by limit Closed stop last parting rest left at_message at_end (none, inr gone) = (
  none,
  inr (gone.0, at_end gone.1),
)

-- A session over a transport that skipped nothing and ended well, whatever service it ran.
pub record WellTold (limit : Limits) (P : SessionPart) (taken given : List ℕ) (end : SessionEnd) : Type 0 where
  pub exchanges : List Exchange
  pub stop : Stop
  pub part : P exchanges stop (Ok end)
  pub all : AllTaken exchanges
  pub rest : List ℕ
  pub came : FoldsTo (Begins limit) taken (messages_of exchanges) rest
  pub went : AreFramesOf (sends_of exchanges) given
  pub at_message : stop ≡ decided → rest ≡ []
  pub at_end : stop ≡ no_more → reading_within limit rest ≡ record { outcome = Ok None; rest = [] }

pub well_told : (limit : Limits) (P : SessionPart) (t : Transcript) (end : SessionEnd)
    → ((xs : List Exchange) (stop : Stop) → P xs stop (Ok end) → StopsWell stop) → SkipsNothing (notes_of t)
    → ToldSession limit P (notes_of t) (Ok end) → WellTold limit P (all_taken t) (all_given t) end
well_told limit P t end stops skips told =
    let acts = acts_in (notes_of t) in
    let xs = told.exchanges in
    let sound = ok_answer told.reason told.answer told.end told.fault end told.is in
    let part : P xs told.stop (Ok end) = subst (λ answer. P xs told.stop answer) (sound.1) told.part in
    let well = stops xs told.stop part in
    let tells : TellsActs limit (None, None) (notes_of t) (told.end, None) = subst
    (λ (f : Option WriteFault). TellsActs limit (None, None) (notes_of t) (told.end, f)) sound.0 told.told in
    let given = written limit (notes_of t) None told.end tells in
    let taken = read limit (notes_of t) None told.end None None skips tells in
    let came : flat_map came_at acts ≡ messages_of xs = of_all came_at refl refl acts xs told.stop told.answer well
    told.in_order ∙ came_is xs in
    let sent : flat_map offered_at acts ≡ sends_of xs = of_all offered_at refl refl acts xs told.stop told.answer well
    told.in_order ∙ offered_is xs in
    let closings = flat_map closed_at acts in
    let no_fault : told.stop ≡ no_more → (fault : ReadFault) → told.end ≡ Some (Fault fault) → ⊥ = λ is fault broke.
    (subst (λ (e : Option ReadEnd). NoFaultAt (reason_of no_more) e) broke (subst
    (λ (s : Stop). NoFaultAt (reason_of s) told.end) is (subst (λ r. NoFaultAt r told.end) told.stops sound.2))) in
    record {
      exchanges = xs;
      stop = told.stop;
      part = part;
      all = none_lost xs (sym (of_all lost_at refl refl acts xs told.stop told.answer well told.in_order) ∙ given.1);
      rest = taken.0;
      came = subst (λ ms. FoldsTo (Begins limit) (all_taken t) ms taken.0) came (subst (λ bytes. FoldsTo (Begins limit)
          bytes (flat_map came_at acts) taken.0) (sym (same_taken t.acts)) taken.1);
      went = subst (λ ms. AreFramesOf ms (all_given t)) sent (subst (λ bytes. AreFramesOf (flat_map offered_at acts)
          bytes) (sym (same_given t.acts)) given.0);
      at_message = λ is. rest_decided limit told.end closings taken.0 (of_deciding closed_at refl acts xs told.stop
          told.answer is told.in_order ∙ none_closed xs) taken.2;
      at_end = λ is. rest_at_end limit told.end closings taken.0 (no_fault is) (nothing_left limit) taken.2;
    }

module _ {H : Type 0} (answers : H → Id → List ℕ → Data → Result Data ErrorObject → H → Type 0) (notes : H → List ℕ
    → Data → H → Type 0) (capabilities : Data) (old new : H) where
  abbrev Out : List Exchange → Stop → SessionAnswer → Type 0
  Out = SessionOut (of_handler answers notes capabilities) old new

  -- of its exchanges, in which all was sent
  of_exchanges : (limit : Limits) (text left given rest : List ℕ) (xs : List Exchange) (stop : Stop) (end : SessionEnd)
      → AllTaken xs → Out xs stop (Ok end) → FoldsTo (Begins limit) text (messages_of xs) rest
      → AreFramesOf (sends_of xs) given → (stop ≡ decided → rest ≡ left)
      → (stop ≡ no_more → reading_within limit rest ≡ record { outcome = Ok None; rest = left })
      → EndsWell answers notes limit capabilities old text left given end new
  of_exchanges limit text left given rest xs stop end all part came went at_message at_end =
      let parts = whole answers notes capabilities old new xs stop end all part in
      record {
        messages = messages_of xs;
        replies = sends_of xs;
        rest = rest;
        came = came;
        went = as_written (sends_of xs) given went;
        answered = each_replied xs (all_replied xs stop end (answers_in_order answers notes capabilities old new xs stop
            (Ok end) part).0);
        early = parts.early;
        id = parts.id;
        params = parts.params;
        opened = parts.opened;
        served = parts.served;
        last = parts.last;
        in_order = parts.came;
        refusals = parts.refusals;
        handled = parts.handled;
        parting = parts.parting;
        replied = parts.sent;
        all_early = parts.all_early;
        refused = parts.refused;
        all_served = parts.all_served;
        handles = parts.handles;
        ends = ends_by limit end stop parts.last parts.parting rest left at_message at_end parts.leaves;
      }

  -- a session over a transport, whatever it returns
  pub over_transport : (limit : Limits) (t : Transcript) (result : Result SessionEnd SessionFault)
      → SkipsNothing (notes_of t) → ToldSession limit Out (notes_of t) result
      → IfOk result (λ end. EndsWell answers notes limit capabilities old (all_taken t) [] (all_given t) end new)
  over_transport limit t (Ok end) skips told =
      let plain = of_handler answers notes capabilities in
      let well = well_told limit Out t end (λ xs stop part. stops_well plain old new xs stop end part) skips told in
      of_exchanges limit (all_taken t) [] (all_given t) well.rest well.exchanges well.stop end well.all well.part
      well.came well.went well.at_message well.at_end
  over_transport limit t (Err fault) skips told = tt

  -- Of its exchanges, over a reader that has these bytes left: all that was offered was sent.
  pub ends_after : (limit : Limits) (text given at : List ℕ) (remaining : Option (List ℕ)) (xs : List Exchange)
      (stop : Stop) (end : SessionEnd) → Out xs stop (Ok end) → FoldsTo (Begins limit) text (messages_of xs) at
      → AreFramesOf (sends_of xs) given → LeftAfter limit stop at remaining
      → (left : List ℕ) × (remaining ≡ Some left)
      × EndsWell answers notes limit capabilities old text left given end new
  ends_after limit text given at remaining xs stop end part came went after =
      let rest = left_after limit stop at remaining after in (
        rest.0,
        rest.1,
        of_exchanges limit text rest.0 given at (map settled xs) stop end (all_settled xs)
            (settled_out (of_handler answers notes capabilities) old new xs stop end part)
            (subst (λ ms. FoldsTo (Begins limit) text ms at) (sym (messages_settled xs)) came)
            (subst (λ ms. AreFramesOf ms given) (sym (sends_settled xs)) went) rest.2 rest.3,
      )

  -- a session over a reader and a writer, whatever it returns
  pub over_bytes : (limit : Limits) (text : List ℕ) (left before after : Option (List ℕ)) (result : Result SessionEnd
      SessionFault) → Gives limit Out text left before after result
      → IfOk result (λ end. EndsWellBetween answers notes limit capabilities old text left before after end new)
  over_bytes limit text left before after (Err fault) gives = tt
  over_bytes limit text left before after (Ok end) gives =
      let xs = gives.exchanges in
      let part : Out xs gives.stop (Ok end) = subst (λ answer. Out xs gives.stop answer) gives.ends.0 gives.part in
      let came = messages_come limit text (came_of xs) gives.at gives.read in
      let well = ends_after limit text gives.wrote.0 gives.at left xs gives.stop end part came gives.wrote.1
      gives.ends.1 in (
        well.0,
        gives.wrote.0,
        well.1,
        gives.wrote.2,
        well.2,
      )
