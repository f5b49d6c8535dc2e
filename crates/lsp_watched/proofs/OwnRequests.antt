-- A server's own requests have the ids 0, 1, 2, ..: it asks under none that waits.
use Rattle.std.proofs.Common.{◌≡◌, ◌≤◌, ◌+◌, inl, inr, ℕ, Bool, true, false, cond, ◌&&◌, ◌||◌, List, [], ◌∷◌, ◌++◌}
use Rattle.std.proofs.Common.{Option, Some, None, Ok, refl, sym, ap, ◌∙◌, subst, arith, append_assoc, append-nil, pos}
use Rattle.std.specs.Bool.{MatchBool}
use Rattle.std.specs.List.{list_all}
use Rattle.std.specs.Option.{option_or}
use Rattle.std.specs.Prelude.{map, IsSomeAnd, option_map}
use Rattle.lsp_message.specs.Id.{Id, number, same_id}
use Rattle.lsp_message.specs.Message.{Message, request, notification, response}
use Rattle.lsp_message.specs.Methods.{request_id}
use Rattle.lsp_message.proofs.Ids.{same_is}
use Rattle.lsp_queue.specs.Queue.{Pending}
use Rattle.lsp_acts.specs.Acts.{Act, is_spent, tells, asks, replies, cancels}
use Rattle.lsp_acts.specs.Law.{acts_of, all_sent, request_of, requests_in}
use Rattle.lsp_acts.specs.Law.{KeepsLaws, GivesPayloads, GoesOn, TakesPart, WasToSend}
use Rattle.lsp_acts.specs.declared.server.Server.{Ghosts as Stated}
use Rattle.lsp_session.specs.Finish.{is_initialized}
use Rattle.lsp_session.specs.Session.{Exchange, offered, sends_of, SessionAnswer}
use Rattle.lsp_session.specs.Session.{Stop, refused, decided, no_more, timed_out, exhausted}
use Rattle.lsp_session.specs.SessionLaws.{is_refusal}
use Rattle.lsp_watch.specs.CleanLog.{is_call}
use Rattle.lsp_watch.specs.Log.{Log, Open, passed, from_client, is_id, waiting, request_of as kept_of}
use Rattle.lsp_watch.proofs.Queues.{first, rest, queue, waiting_is, queue_request, queue_reply}
use Rattle.lsp_watch.specs.Rules.{session_finding, lifecycle_finding, id_finding}
use Rattle.lsp_watch.specs.declared.direction.Direction.{Direction}
use Rattle.lsp_watch.specs.declared.direction.Direction.TheVariants.{ToServer, ToClient}
use Rattle.lsp_watched.specs.Recorded.{gone, IsSentAt, IsRecorded}
use Rattle.lsp_watched.specs.Sessions.{ClientKeepsIds, ServerIsClean}
use Rattle.lsp_watched.proofs.Recorded.{sends_append}
use Rattle.lsp_watched.proofs.RecordedStart.{recorded_keeps_lifecycle}
use Rattle.lsp_watched.proofs.Replies.{replies_fit}
use Rattle.lsp_watched.proofs.Waits.{request_fits}

-- ---- ids that ascend

-- these requests have ids that ascend, from this number on
abbrev Ascends : ℕ → List Message → Type 0
Ascends least [] = Unit {0}
Ascends least (m ∷ ms) = (k : ℕ) × (least ≤ k) × (request_id m ≡ Some (number (pos k))) × Ascends (k + 1) ms

module _ {P : Type 0} where
  ascends : (count : ℕ) (acts : List (Act P)) → Ascends count (map request_of (all_sent count acts))
  ascends count [] = tt
  ascends count (tells method params ∷ acts) = ascends count acts
  ascends count (replies id outcome ∷ acts) = ascends count acts
  ascends count (cancels which ∷ acts) = ascends count acts
  ascends count (asks method params payload ∷ acts) = by (is_spent count) (λ n. ascends n acts)
    where
      by : (b : Bool) → ((n : ℕ) → Ascends n (map request_of (all_sent n acts)))
          → Ascends count (map request_of (cond b [] (record {
            id = number (pos count);
            method = method;
            params = params;
            payload = payload;
          } ∷ []) ++ all_sent (cond b count (count + 1)) acts))
      by true rest = rest count
      by false rest = (count, omega arith, refl, rest (count + 1))

ascends_front : (least : ℕ) (xs ys : List Message) → Ascends least (xs ++ ys) → Ascends least xs
ascends_front least [] ys all = tt
ascends_front least (x ∷ xs) ys all = (all.0, all.1, all.2, ascends_front (all.0 + 1) xs ys all.3)

-- ---- requests among messages

requests_append : (xs ys : List Message) → requests_in (xs ++ ys) ≡ requests_in xs ++ requests_in ys
requests_append [] ys = refl
requests_append (request id method params ∷ xs) ys = ap (λ l. request id method params ∷ l) (requests_append xs ys)
requests_append (notification method params ∷ xs) ys = requests_append xs ys
requests_append (response id outcome ∷ xs) ys = requests_append xs ys

none_refused : (ms : List Message) → list_all is_refusal ms ≡ true → requests_in ms ≡ []
none_refused [] all = refl
none_refused (request id method params ∷ ms) all = cc
none_refused (notification method params ∷ ms) all = cc
none_refused (response id outcome ∷ ms) all = none_refused ms (rest (is_refusal (response id outcome)) all)
  where
    rest : (b : Bool) → (b && list_all is_refusal ms) ≡ true → list_all is_refusal ms ≡ true
    rest true all = all
    rest false all = cc

-- no request among them has this id
abbrev Free : Id → List Message → Type 0
Free id [] = Unit {0}
Free id (m ∷ ms) = (is_id id (request_id m) ≡ false) × Free id ms

free_front : (id : Id) (xs ys : List Message) → Free id (xs ++ ys) → Free id xs × Free id ys
free_front id [] ys free = (tt, free)
free_front id (x ∷ xs) ys free = let rest = free_front id xs ys free.1 in ((free.0, rest.0), rest.1)

-- the id is such a number
abbrev IsFrom : ℕ → Id → Type 0
IsFrom least id = (k : ℕ) × (least ≤ k) × (id ≡ number (pos k))

one_id : (i j : Id) → Some i ≡ Some j → i ≡ j
one_id i j is = cc

from_least : (least : ℕ) (xs : List Message) (m : Message) (ys : List Message) (id : Id) → Ascends least (xs ++ m ∷ ys)
    → request_id m ≡ Some id → IsFrom least id
from_least least [] m ys id all is = (all.0, all.1, one_id id (number (pos all.0)) (sym is ∙ all.2))
from_least least (x ∷ xs) m ys id all is =
    let rest = from_least (all.0 + 1) xs m ys id all.3 is in (rest.0, omega (arith, rest.1, all.1), rest.2)

same_number : (j k : ℕ) → number (pos j) ≡ number (pos k) → j ≡ k
same_number j k is = cc

other_id : (j k : ℕ) → j + 1 ≤ k → same_id (number (pos k)) (number (pos j)) ≡ false
other_id j k less = by (same_id (number (pos k)) (number (pos j))) refl
  where
    by : (b : Bool) → same_id (number (pos k)) (number (pos j)) ≡ b → b ≡ false
    by true is = absurd (omega (arith, less, same_number k j (same_is (number (pos k)) (number (pos j)) is)))
    by false is = refl

free_before : (least : ℕ) (xs : List Message) (m : Message) (ys : List Message) (id : Id) → Ascends least (xs ++ m ∷ ys)
    → request_id m ≡ Some id → Free id xs
free_before least [] m ys id all is = tt
free_before least (x ∷ xs) m ys id all is =
    let from = from_least (all.0 + 1) xs m ys id all.3 is in (
      (λ k. is_id (from.2 k) (all.2 k)) ∙ other_id all.0 from.0 from.1,
      free_before (all.0 + 1) xs m ys id all.3 is,
    )

-- ---- what waits

free_queue : (id : Id) (log : Log) → Free id (requests_in (gone ToClient log)) → queue ToClient id log ≡ []
free_queue id [] free = refl
free_queue id (p ∷ log) free = by p.direction p.place p.message (λ f. free_queue id log f) free
  where
    front : (m : Message) → Free id (requests_in (gone ToClient log ++ m ∷ []))
        → Free id (requests_in (gone ToClient log)) × Free id (requests_in (m ∷ []))
    front m f = free_front id (requests_in (gone ToClient log)) (requests_in (m ∷ []))
        (subst (Free id) (requests_append (gone ToClient log) (m ∷ [])) f)

    answered : (b : Bool) (xs : List Open) → xs ≡ [] → cond b (rest xs) xs ≡ []
    answered true xs none = ap rest none
    answered false xs none = none

    by : (direction : Direction) (place : ℕ) (m : Message)
        → (Free id (requests_in (gone ToClient log)) → queue ToClient id log ≡ [])
        → Free id (requests_in (gone ToClient (passed direction place m ∷ log)))
        → queue ToClient id (passed direction place m ∷ log) ≡ []
    by ToServer place (request i method params) more f =
        queue_request ToClient id ToServer place log i method params ∙ append-nil (queue ToClient id log) ∙ more f
    by ToServer place (notification method params) more f = more f
    by ToServer place (response i outcome) more f = queue_reply ToClient id ToServer place log i outcome
        ∙ answered (same_id id i) (queue ToClient id log) (more f)
    by ToClient place (request i method params) more f =
        let parts = front (request i method params) f in
        queue_request ToClient id ToClient place log i method params
        ∙ (λ k. more parts.0 k ++ cond (parts.1.0 k) (kept_of ToClient place i method params ∷ []) [])
    by ToClient place (notification method params) more f = more (front (notification method params) f).0
    by ToClient place (response i outcome) more f = queue_reply ToClient id ToClient place log i outcome
        ∙ more (front (response i outcome) f).0

free_waits : (id : Id) (log : Log) → Free id (requests_in (gone ToClient log)) → waiting ToClient id log ≡ None
free_waits id log free = waiting_is ToClient id log ∙ ap first (free_queue id log free)

-- ---- the requests of a session

module _ {S P : Type 0} (may : Stated S P) where
  opened_ascends : (start last : S) (rest : List Exchange) → GoesOn may start last rest
      → Ascends 0 (requests_in (sends_of rest))
  opened_ascends start last [] goes = tt
  opened_ascends start last (x ∷ later) goes = by x.came goes
    where
      served : TakesPart may start last x later → Ascends 0 (requests_in (sends_of (x ∷ later)))
      served part = subst (Ascends 0) part.sent
          (ascends 0 (part.begun ++ acts_of part.calls ++ part.parting))

      unserved : (sends_of (x ∷ later) ≡ []) × (last ≡ start) → Ascends 0 (requests_in (sends_of (x ∷ later)))
      unserved none = subst (λ ms. Ascends 0 (requests_in ms)) (sym none.0) tt

      either : (b : Bool)
          → MatchBool b (TakesPart may start last x later) ((sends_of (x ∷ later) ≡ []) × (last ≡ start))
          → Ascends 0 (requests_in (sends_of (x ∷ later)))
      either true part = served part
      either false none = unserved none

      by : (came : Option Message)
          → IsSomeAnd came (λ m. MatchBool (is_initialized m) (TakesPart may start last x later)
          ((sends_of (x ∷ later) ≡ []) × (last ≡ start))) → Ascends 0 (requests_in (sends_of (x ∷ later)))
      by None none = absurd none
      by (Some m) goes = either (is_initialized m) goes

  all_ascend : (first after : S) (all : List Exchange) → GivesPayloads may first after all
      → Ascends 0 (requests_in (sends_of all))
  all_ascend first_state after all (inl none) = subst (Ascends 0) (sym (none_refused (sends_of all) none.0)) tt
  all_ascend first_state after all (inr (early, later, cut, ends, refusals, start, answers, goes)) =
      let early_sends : requests_in (sends_of early) ≡ [] =
      ap (λ xs. requests_in (sends_of xs)) ends.cut
      ∙ ap requests_in (sends_append ends.before (ends.last ∷ [])
      ∙ ap (λ (ms : List Message). sends_of ends.before ++ (ms ++ [])) ends.gets)
      ∙ requests_append (sends_of ends.before) (response ends.id (Ok ends.result) ∷ [])
      ∙ ap (λ (ms : List Message). ms ++ []) (none_refused (sends_of ends.before) refusals) in
      subst (Ascends 0) (sym (ap (λ xs. requests_in (sends_of xs)) cut ∙ ap requests_in (sends_append early later)
      ∙ requests_append (sends_of early) (sends_of later) ∙ ap (λ ms. ms ++ requests_in (sends_of later)) early_sends))
      (opened_ascends start after later goes)

-- what was sent is the front of what was to be sent
sent_of_all : (stop : Stop) (exchanges all : List Exchange) → WasToSend stop exchanges all
    → (lost : List Message) × (sends_of all ≡ sends_of exchanges ++ lost)
sent_of_all (refused fault) exchanges all (earlier, last, lost, was, is) =
    let whole : Exchange = record { came = last.came; sent = offered last ++ lost; not_sent = None } in
    let sent : sends_of exchanges ≡ sends_of earlier ++ offered last =
    ap sends_of was ∙ sends_append earlier (last ∷ [])
    ∙ ap (λ (l : List Message). sends_of earlier ++ l) (append-nil (offered last)) in (
      lost,
      ap sends_of is ∙ sends_append earlier (whole ∷ [])
          ∙ ap (λ (l : List Message). sends_of earlier ++ l) (append-nil (offered last ++ lost))
          ∙ sym (append_assoc (sends_of earlier) (offered last) lost)
          ∙ ap (λ (l : List Message). l ++ lost) (sym sent),
    )
sent_of_all decided exchanges all is = ([], ap sends_of is ∙ sym (append-nil (sends_of exchanges)))
sent_of_all no_more exchanges all is = ([], ap sends_of is ∙ sym (append-nil (sends_of exchanges)))
sent_of_all timed_out exchanges all is = ([], ap sends_of is ∙ sym (append-nil (sends_of exchanges)))
sent_of_all exhausted exchanges all is = ([], ap sends_of is ∙ sym (append-nil (sends_of exchanges)))

-- ---- what a recorder sees

module _ (exchanges : List Exchange) (own : Ascends 0 (requests_in (sends_of exchanges))) where
  free_at : (before : Log) (id : Id) (method : List ℕ) (params : _)
      → IsSentAt exchanges before (request id method params)
      → Free id (requests_in (gone ToClient before))
  free_at before id method params at =
      let m : Message = request id method params in
      let later : List Message = at.rest ++ sends_of at.later in
      let cut : sends_of exchanges ≡ gone ToClient before ++ m ∷ later =
      ap sends_of at.cut ∙ sends_append at.earlier (at.exchange ∷ at.later)
      ∙ ap (λ ms. sends_of at.earlier ++ (ms ++ sends_of at.later)) at.sends
      ∙ ap (λ ms. sends_of at.earlier ++ ms) (append_assoc at.first (m ∷ at.rest) (sends_of at.later))
      ∙ sym (append_assoc (sends_of at.earlier) at.first (m ∷ later))
      ∙ ap (λ ms. ms ++ m ∷ later) (sym at.sent) in
      free_before 0 (requests_in (gone ToClient before)) m (requests_in later) id
      (subst (Ascends 0) (ap requests_in cut ∙ requests_append (gone ToClient before) (m ∷ later)) own) refl

  clean : (before : Log) (direction : Direction) (m : Message) → lifecycle_finding before direction m ≡ None
      → id_finding before direction m ≡ None → session_finding before direction m ≡ None
  clean before direction m keeps fits = λ k. option_or (keeps k) (fits k)

  call_is_clean : (before : Log) (direction : Direction) (m : Message) → from_client direction ≡ false
      → is_call m ≡ true
      → IsSentAt exchanges before m → lifecycle_finding before direction m ≡ None → session_finding before direction m
      ≡ None
  call_is_clean before ToServer m direction call at keeps = cc
  call_is_clean before ToClient (response i outcome) direction call at keeps = cc
  call_is_clean before ToClient (notification method params) direction call at keeps =
      clean before ToClient (notification method params) keeps refl
  call_is_clean before ToClient (request id method params) direction call at keeps =
      clean before ToClient (request id method params) keeps (request_fits before ToClient id method params
      (free_waits id before (free_at before id method params at)))

pub server_is_clean : {S P : Type 0} (may : Stated S P) (first last : S) (held : Pending (Unit {0}))
    (exchanges : List Exchange) (stop : Stop)
    (answer : SessionAnswer) (log : Log)
    → KeepsLaws may first last held exchanges stop answer
    → IsRecorded exchanges log → ClientKeepsIds log → ServerIsClean log
server_is_clean may first last held exchanges stop answer log laws recorded anew later before p is direction =
    let lost = sent_of_all stop exchanges laws.all laws.to_send in
    let own : Ascends 0 (requests_in (sends_of exchanges)) =
    ascends_front 0 (requests_in (sends_of exchanges)) (requests_in lost.0) (subst (Ascends 0)
    (ap requests_in lost.1 ∙ requests_append (sends_of exchanges) lost.0)
    (all_ascend may first laws.after laws.all laws.payloads)) in
    by own (is_call p.message) refl
  where
    by : Ascends 0 (requests_in (sends_of exchanges)) → (b : Bool) → is_call p.message ≡ b
        → session_finding before p.direction p.message ≡ None
    by own true call = call_is_clean exchanges own before p.direction p.message direction call
        (recorded later before p is direction)
        (recorded_keeps_lifecycle true true exchanges stop answer log laws.order recorded anew
        later before p is direction)
    by own false reply = replies_fit exchanges log laws.never_more recorded anew later before p is direction reply
