-- What the laws of a session say: it keeps the order of the lifecycle, and what follows for its beginning and its end.
use Rattle.lsp_message.specs.Id.{Id}
use Rattle.lsp_message.specs.Message.{Message, ErrorObject, request, notification, response}
use Rattle.lsp_message.specs.Methods.{is_early, is_initialize, is_initialized}
use Rattle.lsp_session.proofs.Ran.{IsOpen, IsSound, no_one, part_one, Ran, ran, Leads, stops_by, ended_by, Holds}
use Rattle.lsp_session.proofs.Ran.{TurnCase, turn_case, whole, lost_reply, breaks, none_broken, none_ended}
use Rattle.lsp_session.proofs.Ran.{phase_unbroken, after_outcome, holds, StepCase, row, at_initialize, at_initialized}
use Rattle.lsp_session.proofs.Ran.{at_served, at_woken, at_shutdown, idle, Idle, early_request, early_note, unasked}
use Rattle.lsp_session.proofs.Ran.{uninvited, leaves, exits, late, stays, IsNoRequest, initialized_no_request}
use Rattle.lsp_session.proofs.Ran.{exit_no_request, reply_no_request, silent, one_reply, messages_both, messages_more}
use Rattle.lsp_session.proofs.Ran.{sends_both, initialized_is_no_exit}
use Rattle.lsp_session.proofs.Handshake.{AllZip-append}
use Rattle.lsp_session.specs.Answered.{IsReplied, RepliesTo, RepliesToEach, requests_of, AllReplied, AnswersRequests}
use Rattle.lsp_session.specs.Answered.{LastUnanswered}
use Rattle.lsp_session.specs.HandlerSession.{Handles, of_handler}
use Rattle.lsp_session.specs.ProtocolError.{ProtocolFault, ShowsUnallowed, expected_initialize, expected_initialized}
use Rattle.lsp_session.specs.ProtocolError.{unexpected_in_shutdown, is_disconnected, fault_of_refusal}
use Rattle.lsp_session.specs.Replies.{null_reply}
use Rattle.lsp_session.specs.Session.{Behavior, Exchange, messages_of, sends_of, SessionAnswer, Stop, decided, no_more}
use Rattle.lsp_session.specs.Session.{timed_out, refused, exhausted, Phase, starting, replied as in_reply, serving}
use Rattle.lsp_session.specs.Session.{asked, broken, ended, phase_after, is_served, Fails, offered, and_refused}
use Rattle.lsp_session.specs.Session.{Step, Steps, Stops, SessionOut, request_id}
use Rattle.lsp_session.specs.SessionBytes.{lost_of}
use Rattle.lsp_session.specs.SessionLaws.{IsInvited, IsOpened, IsUnopened, AfterShutdown, EndsWithShutdown}
use Rattle.lsp_session.specs.SessionLaws.{HasNoShutdown, KeepsOrder, WasOffered, IsUnstarted, comes_early}
use Rattle.lsp_session.specs.SessionLaws.{IsRefusedEarly, StopsAt, StopsBefore, is_refusal, AllRefused, AllEarly}
use Rattle.lsp_session.specs.SessionLaws.{is_reply, OpenedBy}
use Rattle.lsp_session.specs.declared.lifecycle.SendFault.{SendFault}
use Rattle.lsp_session.specs.declared.loops.handler.SessionEnd.TheVariants.{Closed, ShutDown}
use Rattle.serde_json.specs.Data.{Data}
use Rattle.std.proofs.Common.{◌≡◌, refl, sym, ◌∙◌, ap, subst, inl, inr, ◌⊎◌, ℕ, true, false, List, [], ◌∷◌, ◌++◌}
use Rattle.std.proofs.Common.{Option, Some, None, ◌&&◌, append_assoc}
use Rattle.std.proofs.lemmas.List.Elements.{filter_map-append}
use Rattle.std.proofs.lemmas.List.Folds.{list_all-append}
use Rattle.std.specs.Bool.{MatchBool}
use Rattle.std.specs.List.{list_all}
use Rattle.std.specs.Prelude.{Result, Ok, Err, IsSome, IsSomeAnd, Bool, MatchOption}

initialized_served : (m : Message) → is_initialized m ≡ true → is_served m ≡ true
initialized_served (request i method params) is = absurd (cc (is))
initialized_served (notification method params) is = initialized_is_no_exit (notification method params) is
initialized_served (response i outcome) is = absurd (cc (is))

note_early : (m : Message) → IsNoRequest m → (b : Bool) → is_early m ≡ b → comes_early m ≡ b
note_early (request i method params) mute b is = absurd mute
note_early (notification method params) mute b is = is
note_early (response i outcome) mute b is = is

note_coded : (m : Message) (output : List Message) → IsNoRequest m → IsRefusedEarly (Some m) output
note_coded (request i method params) output mute = absurd mute
note_coded (notification method params) output mute = tt
note_coded (response i outcome) output mute = tt

still_there : (fault : ProtocolFault) → is_disconnected fault ≡ true → ShowsUnallowed fault → ⊥
still_there fault lost (inl shows) = let e = (rw shows.1 at lost) in cc (e)
still_there fault lost (inr shows) = let e = (rw shows.1 at lost) in cc (e)

-- nothing was offered, so nothing was taken or refused
nothing_offered : (x : Exchange) → offered x ≡ [] → (x.sent ≡ []) × (x.not_sent ≡ None)
nothing_offered x none = at x.not_sent none
  where
    at : (lost : Option Message) → and_refused x.sent lost ≡ [] → (x.sent ≡ []) × (lost ≡ None)
    at None e = (e, refl)
    at (Some m) e = absurd (no_one x.sent [] m e)

-- one more exchange, for which errors alone are sent
refused_more : (x : Exchange) (xs : List Exchange) → list_all is_refusal (offered x) ≡ true → AllRefused xs
    → AllRefused (x ∷ xs)
refused_more x xs one all = list_all-append is_refusal (offered x) (sends_of xs) ∙ (rw (one, all) refl)

-- the answer of a phase, whatever the service is
stops_at : {S : Type 0} (may : Behavior S) (p : Phase) (s s' : S) (stop : Stop) (answer : SessionAnswer)
    → IsSound p → Stops may p s stop answer s' → StopsAt p stop answer
stops_at may (ended by) s s' decided answer sound stops = stops.0
stops_at may (ended by) s s' stop answer sound stops = absurd stops
stops_at may (broken by) s s' stop answer sound stops = absurd sound
stops_at may p s s' decided answer sound stops = absurd stops
stops_at may p s s' (refused fault) answer sound stops = absurd stops
stops_at may starting s s' no_more answer sound stops = stops.0
stops_at may in_reply s s' no_more answer sound stops = stops.0
stops_at may serving s s' no_more answer sound stops = stops.0
stops_at may (asked i) s s' no_more answer sound stops = stops.0
stops_at may (asked i) s s' timed_out answer sound stops = stops.0
stops_at may p s s' timed_out answer sound stops = absurd stops
stops_at may (asked i) s s' exhausted answer sound stops = stops.0
stops_at may serving s s' exhausted answer sound stops = stops
stops_at may p s s' exhausted answer sound stops = stops.0

-- a response after `shutdown` is passed over only if the service says so
late_passes : {S : Type 0} (may : Behavior S) (i : Id) (s : S) (m : Message) (sent : List Message) → is_reply m ≡ true
    → Step may (asked i) s (Some m) sent (asked i) s
    → (may.passes_late && is_reply m) ≡ true
late_passes may i s (request j method params) sent is step = absurd (cc (is))
late_passes may i s (notification method params) sent is step = absurd (cc (is))
late_passes may i s (response j outcome) sent is step = at (may.passes_late && true) refl step.0
  where
    at : (b : Bool) → (may.passes_late && true) ≡ b → MatchBool b ((sent ≡ []) × (asked i ≡ asked i))
        (Fails unexpected_in_shutdown sent (asked i)) → (may.passes_late && true) ≡ true
    at true e step = e
    at false e step = let never : asked i ≡ ended (Err (unexpected_in_shutdown step.0)) = step.2
        in absurd (cc (never))

-- The service may speak before the reply to `shutdown`, or it is silent there.
module _ {S : Type 0} (may : Behavior S) (speaks : Bool) (silent_there : speaks ≡ false → (s s' : S) (i : Id)
    (parting : List Message) → may.at_shutdown s i parting s' → parting ≡ [])
    (stop : Stop) (answer : SessionAnswer) where
  -- what is said of the exchanges from `initialized` on
  abbrev Later : List Exchange → Type 0
  Later xs = HasNoShutdown may.passes_late speaks xs stop answer ⊎ EndsWithShutdown may.passes_late speaks xs stop
      answer

  -- what is said of the exchanges from the start on
  abbrev Starting : List Exchange → Type 0
  Starting xs = (early : List Exchange) × (rest : List Exchange) × (xs ≡ early ++ rest) × AllReplied early
      × (IsOpened may.passes_late speaks early rest stop answer ⊎ (AllRefused early × AllEarly early
      × IsUnstarted rest stop answer))

  -- a message was refused, and that ended the session
  abbrev BrokeOff : Type 0
  BrokeOff = (fault : SendFault) × (stop ≡ refused fault) × (answer ≡ Err (fault_of_refusal fault))

  -- what is said of the exchanges from a phase on
  abbrev Order : Phase → List Exchange → Type 0
  Order starting xs = Starting xs
  Order in_reply xs = (IsInvited xs × Later xs) ⊎ IsUnopened xs stop answer
  Order serving xs = Later xs
  Order (asked i) xs = AfterShutdown may.passes_late speaks i xs stop answer
  Order (broken fault) xs = (xs ≡ []) × BrokeOff
  Order (ended by) xs = (xs ≡ []) × (stop ≡ decided) × (answer ≡ by)

  -- where it stops in an open phase
  open_end : (p : Phase) → IsOpen p → StopsAt p stop answer → Order p []
  open_end starting is stops = ([], [], refl, tt, inr (refl, tt, stops))
  open_end in_reply is stops = inr stops
  open_end serving is stops = inl (inl (refl, stops))
  open_end (asked i) is stops = absurd is
  open_end (broken fault) is stops = absurd is
  open_end (ended by) is stops = absurd is

  broken_end : (p : Phase) → IsOpen p → BrokeOff → Order p []
  broken_end p is broke = open_end p is (at p is)
    where
      at : (p : Phase) → IsOpen p → StopsAt p stop answer
      at starting is = rw (broke.1, broke.2) refl
      at in_reply is = rw (broke.1, broke.2) refl
      at serving is = rw (broke.1, broke.2) refl
      at (asked i) is = absurd is
      at (broken fault) is = absurd is
      at (ended by) is = absurd is

  stops_end : (p : Phase) (s s' : S) → Stops may p s stop answer s' → Order p []
  stops_end starting s s' stops = open_end starting tt (stops_at may starting s s' stop answer tt stops)
  stops_end in_reply s s' stops = open_end in_reply tt (stops_at may in_reply s s' stop answer tt stops)
  stops_end serving s s' stops = open_end serving tt (stops_at may serving s s' stop answer tt stops)
  stops_end (asked i) s s' stops = stops_at may (asked i) s s' stop answer tt stops
  stops_end (broken by) s s' stops = (refl, at stop refl stops)
    where
      at : (other : Stop) → stop ≡ other → Stops may (broken by) s other answer s' → BrokeOff
      at (refused fault) is stops = (fault, is, stops.1)
      at other is stops = absurd stops
  stops_end (ended by) s s' stops =
      let so = stops_by may (ended by) (ended by) s s' stop answer (inl refl) stops in (refl, so.0, so.1)

  -- one more exchange comes first
  early_before : (x : Exchange) (xs : List Exchange) → IsReplied x → list_all is_refusal (offered x) ≡ true
      → IsSomeAnd x.came (λ m. comes_early m ≡ true)
      → IsRefusedEarly x.came (offered x) → Starting xs → Starting (x ∷ xs)
  early_before x xs one errors early coded (first, rest, cut, replied, then) = (
    x ∷ first,
    rest,
    ap (λ (l : List Exchange). x ∷ l) cut,
    (one, replied),
    elim then [
      | inl opened ↦ inl (record {
        ends = record {
          before = x ∷ opened.ends.before;
          id = opened.ends.id;
          method = opened.ends.method;
          params = opened.ends.params;
          result = opened.ends.result;
          asks = opened.ends.asks;
          last = opened.ends.last;
          cut = ap (λ (l : List Exchange). x ∷ l) opened.ends.cut;
          came = opened.ends.came;
          gets = opened.ends.gets;
        };
        refused = refused_more x opened.ends.before errors opened.refused;
        came = (early, coded, opened.came);
        later = opened.later;
      })
      | inr unopened ↦ inr (refused_more x first errors unopened.0, (early, coded, unopened.1), unopened.2)
    ],
  )

  -- the message that decided is the last
  early_ended : (x : Exchange) (xs : List Exchange) → IsUnstarted (x ∷ xs) stop answer → Starting (x ∷ xs)
  early_ended x xs unstarted = ([], x ∷ xs, refl, tt, inr (refl, tt, unstarted))

  -- the result of `initialize`, and what follows it
  result_before : (x : Exchange) (xs : List Exchange) (i : Id) (method : List ℕ) (params result : Data) → x.came
      ≡ Some (request i method params)
      → is_initialize (request i method params) ≡ true → offered x ≡ response i (Ok result) ∷ [] → Order in_reply xs
      → Starting (x ∷ xs)
  result_before x xs i method params result is asks output rest = (
    x ∷ [],
    xs,
    refl,
    one_reply x i method params _ is output (_, refl),
    inl (record {
      ends = record {
        before = [];
        id = i;
        method = method;
        params = params;
        result = result;
        asks = asks;
        last = x;
        cut = refl;
        came = is;
        gets = output;
      };
      refused = refl;
      came = tt;
      later = rest;
    }),
  )

  -- one more exchange from `initialized` on, in which no `shutdown` comes
  later_before : (x : Exchange) (xs : List Exchange) → list_all is_served (messages_of (x ∷ [])) ≡ true → Later xs
      → Later (x ∷ xs)
  later_before x xs passed (inl without) = inl (
      elim without [
        | inl all ↦ inl (messages_more is_served x xs passed ∙ all.0, all.1)
        | inr others ↦ inr (elim others [
          | inl left ↦ inl (record {
            before = x ∷ left.before;
            last = left.last;
            cut = ap (λ (l : List Exchange). x ∷ l) left.cut;
            none_before = messages_more is_served x left.before passed ∙ left.none_before;
            leaves = left.leaves;
            decides = left.decides;
            closes = left.closes;
          })
          | inr torn ↦ inr (record {
            before = x ∷ torn.before;
            last = torn.last;
            breaking = torn.breaking;
            cut = ap (λ (l : List Exchange). x ∷ l) torn.cut;
            came = torn.came;
            none_before = messages_more is_served x torn.before passed ∙ torn.none_before;
            asks = torn.asks;
            speaks = torn.speaks;
            fault = torn.fault;
            refuses = torn.refuses;
            fails = torn.fails;
          })
        ])
      ]
      )
  later_before x xs passed (inr last) = inr (record {
    before = x ∷ last.before;
    id = last.id;
    method = last.method;
    params = last.params;
    parting = last.parting;
    after = last.after;
    asking = last.asking;
    cut = ap (λ (l : List Exchange). x ∷ l) last.cut;
    came = last.came;
    gets = last.gets;
    none_before = messages_more is_served x last.before passed ∙ last.none_before;
    asks = last.asks;
    silent = last.silent;
    after_shutdown = last.after_shutdown;
  })

  -- Where it broke off at the last exchange, something was given for that; at `shutdown` by a service that speaks
  -- there.
  abbrev BreaksOnlyAt : List Message → Phase → Type 0
  BreaksOnlyAt full q = (full ≡ [] → ⊥)
      × ((s s' : S) (i : Id) (parting : List Message) → may.at_shutdown s i parting s' → full ≡ parting ++ null_reply i
      ∷ [] → q ≡ asked i → speaks ≡ true)

  module _ (p q : Phase) (s s' : S) (x : Exchange) (full : List Message) (xs : List Exchange)
      (one : (r : Message) → full ≡ r ∷ [] → offered x ≡ r ∷ []) (none : full ≡ [] → offered x ≡ [])
      (then_ : ((offered x ≡ full) × Order q xs) ⊎ ((xs ≡ []) × BrokeOff × BreaksOnlyAt full q)) where
    -- what follows an exchange for which nothing is given
    rest_silent : full ≡ [] → Order q xs
    rest_silent empty = elim then_ [
      | inl on ↦ on.1
      | inr broke ↦ absurd (broke.2.0 empty)
    ]

    -- or after which the phase is open
    rest_open : IsOpen q → Order q xs
    rest_open is = elim then_ [
      | inl on ↦ on.1
      | inr broke ↦ rw broke.0 (broken_end q is broke.1)
    ]

    -- a response that was passed over
    late_before : (i : Id) (m : Message) → x.came ≡ Some m → is_reply m ≡ true → full ≡ [] → Step may (asked i) s
        (Some m) full (asked i) s → Order (asked i) xs → Order (asked i) (x ∷ xs)
    late_before i m there is output step after = (
      none output,
      inl (rw there (late_passes may i s m full is step), after),
    )

    order_idle : (m : Message) → x.came ≡ Some m → Step may p s (Some m) full q s → Idle p m full q → Order p (x ∷ xs)
    order_idle m there step (early_request i method params reply here is early output next) =
        rw here (early_before x xs (one_reply x i method params reply (rw is at there) (one reply output) (
          _,
          early.is,
        )).0 (rw (one reply output, early.is) refl) (rw (there, is) refl)
        (rw (there, is, one reply output, early.is) (λ other. (refl, tt))) (rw next at (rest_open (rw next tt))))
    order_idle m there step (early_note here mute early output next) =
        rw here (early_before x xs (silent x m there mute (none output)).0 (rw (none output) refl)
        (rw there (note_early m mute true early))
        (rw there (note_coded m (offered x) mute)) (rw next at (rest_open (rw next tt))))
    order_idle m there step (unasked shown here mute other output next) =
        let over : Order (ended (Err (expected_initialize shown))) xs = rw next at (rest_silent output) in
        rw here (early_ended x xs (
          over.0,
          rw there (note_early m mute false other),
          none output,
          over.1,
          rw over.2 (shown, refl),
        ))
    order_idle m there step (uninvited shown here other output next) =
        let over : Order (ended (Err (expected_initialized shown))) xs = rw next at (rest_silent output) in
        rw here (inr (over.0, rw there other, none output, over.1, rw over.2 (shown, refl)))
    order_idle m there step (leaves here is output next) =
        let over : Order (ended (Ok Closed)) xs = rw next at (rest_silent output) in
        let nothing = nothing_offered x (none output) in
        rw here (inl (inr (inl (record {
          before = [];
          last = m;
          cut = λ j. record { came = there j; sent = nothing.0 j; not_sent = nothing.1 j } ∷ over.0 j;
          none_before = refl;
          leaves = is;
          decides = over.1;
          closes = over.2;
        }))))
    order_idle m there step (exits i here is output next) =
        let over : Order (ended (Ok ShutDown)) xs = rw next at (rest_silent output) in
        rw here (none output, inr (over.0, over.1, rw (there, is) over.2))
    order_idle m there step (late i here is output next) = rw here (late_before i m there is output (rw (here, next) at
        step) (rw next at (rest_silent output)))
    order_idle m there step (stays i shown here other output next) =
        let over : Order (ended (Err (unexpected_in_shutdown shown))) xs = rw next at (rest_silent output) in
        rw here (none output, inr (over.0, over.1, rw (there, other, over.2) (shown, refl)))

    order_case : StepCase may p s x.came full q s' → Order p (x ∷ xs)
    order_case (at_initialize i method params outcome here is asks given output next) = rw here (first outcome
        (one _ output) (rw next at (rest_open (rw next (open_after outcome)))))
      where
        open_after : (outcome : Result Data ErrorObject) → IsOpen (phase_after outcome)
        open_after (Ok result) = tt
        open_after (Err error) = tt

        first : (outcome : Result Data ErrorObject) → offered x ≡ response i outcome ∷ [] → Order (phase_after outcome)
            xs → Starting (x ∷ xs)
        first (Ok result) output rest = result_before x xs i method params result is asks output rest
        first (Err error) output rest = early_before x xs (one_reply x i method params _ is output (_, refl)).0
            (rw output refl) (rw is refl)
            (rw is (λ other. let e : true ≡ false = sym asks ∙ other in absurd (cc (e)))) rest
    order_case (at_initialized m here there is given next) =
        rw here (inl (
          rw there is,
          later_before x xs (rw (there, initialized_served m is) refl)
              (rw next at (rest_open (rw next tt))),
        ))
    order_case (at_served m here there is given next) = rw here (later_before x xs (rw (there, is) refl)
        (rw next at (rest_open (rw next tt))))
    order_case (at_woken here empty given next) = rw here (later_before x xs (rw empty refl)
        (rw next at (rest_open (rw next tt))))
    order_case (at_shutdown i method params parting here came asks gives output next) = rw here (elim then_ [
      | inl on ↦ inr (record {
        before = [];
        id = i;
        method = method;
        params = params;
        parting = parting;
        after = xs;
        asking = x;
        cut = refl;
        came = came;
        gets = on.0 ∙ output;
        none_before = refl;
        asks = asks;
        silent = λ mute. silent_there mute s s' i parting gives;
        after_shutdown = rw next at on.1;
      })
      | inr broke ↦ inl (inr (inr (record {
        before = [];
        last = request i method params;
        breaking = x;
        cut = ap (λ (l : List Exchange). x ∷ l) broke.0;
        came = came;
        none_before = refl;
        asks = asks;
        speaks = broke.2.1 s s' i parting gives output next;
        fault = broke.1.0;
        refuses = broke.1.1;
        fails = broke.1.2;
      })))
    ])
    order_case (idle m there same step row) = order_idle m there (step S may s refl) row

  -- where the outbox refused a message of the last exchange
  module _ (p next : Phase) (s mid : S) (x : Exchange) (m : Message) (more : List Message)
      (is : x.not_sent ≡ Some m) (step : Step may p s x.came (x.sent ++ m ∷ more) next mid)
      (other : more ≡ [] → (i : Id) → next ≡ asked i → ⊥) where
    -- of one message the last was refused
    last_one : (part more : List Message) (m r : Message) → part ++ m ∷ more ≡ r ∷ [] → more ≡ []
    last_one [] more m r e = cc (e)
    last_one (n ∷ part) more m r e = let never : part ++ m ∷ more ≡ [] = cc (e) in absurd (no_one part more m never)

    speaking : (t t' : S) (i : Id) (parting : List Message) → may.at_shutdown t i parting t' → x.sent ++ m ∷ more
        ≡ parting ++ null_reply i ∷ [] → next ≡ asked i → speaks ≡ true
    speaking t t' i parting gives output goes = at speaks refl
      where
        at : (b : Bool) → speaks ≡ b → b ≡ true
        at true e = refl
        at false e =
            let nothing : parting ≡ [] = silent_there e t t' i parting gives in
            let alone : x.sent ++ m ∷ more ≡ null_reply i ∷ [] = output ∙ ap (λ (ms : List Message). ms ++ null_reply i
            ∷ []) nothing in
            absurd (other (last_one x.sent more m (null_reply i) alone) i goes)

    broken_order : (xs : List Exchange) → xs ≡ [] → BrokeOff → Order p (x ∷ xs)
    broken_order xs none broke =
        let full = x.sent ++ m ∷ more in
        let offers : offered x ≡ x.sent ++ m ∷ [] = rw is refl in
        order_case p next s mid x full xs
        (λ r e. offers ∙ part_one (x.sent ++ m ∷ []) more full r (append_assoc x.sent (m ∷ []) more)
        (λ empty. absurd (no_one x.sent [] m empty)) e)
        (λ e. absurd (no_one x.sent more m e)) (inr (none, broke, (no_one x.sent more m, speaking)))
        (row may p next s mid x.came full step)

  -- where all was offered
  whole_order : (p q : Phase) (s mid : S) (x : Exchange) (xs : List Exchange) → Step may p s x.came (offered x) q mid
      → Order q xs → Order p (x ∷ xs)
  whole_order p q s mid x xs step rest =
      order_case p q s mid x (offered x) xs (λ r e. e) (λ e. e) (inl (refl, rest))
      (row may p q s mid x.came (offered x) step)

  order : (p q : Phase) (s after s' : S) (xs : List Exchange) → Steps may p s xs q after
      → Stops may q after stop answer s' → Order p xs
  order p q s after s' [] run stops =
      subst (λ (a : Phase × S). Order a.0 []) (sym run) (stops_end q after s' stops)
  order p q s after s' (x ∷ xs) run stops =
      at (turn_case may p run.0.0 s run.0.1 x run.1) (order run.0.0 q run.0.1 after s' xs run.2 stops)
    where
      at : TurnCase may p s x run.0.0 run.0.1 → Order run.0.0 xs → Order p (x ∷ xs)
      at (whole is step) rest = whole_order p run.0.0 s run.0.1 x xs (rw is step) rest
      at (lost_reply m i is next step) rest = whole_order p run.0.0 s run.0.1 x xs (rw (is, next) step) rest
      at (breaks m more fault next is gone step other) rest =
          let over : Order (broken fault) xs = rw gone at rest in
          broken_order p next s run.0.1 x m more is step other xs over.0 over.1

-- ---- a message that was refused

-- nothing is given after `shutdown`
asked_turn : {S : Type 0} (may : Behavior S) (i : Id) (s : S) (next : Phase) (s' : S) (came : Option Message)
    (given : List Message) → StepCase may (asked i) s came given next s' → (given ≡ [])
    × ((next ≡ asked i) ⊎ ((by : SessionAnswer) × (next ≡ ended by)))
asked_turn may i s next s' came given (at_initialize j method params outcome e is e2 e3 e4 e5) = absurd (cc (e))
asked_turn may i s next s' came given (at_initialized m e is e2 e3 e4) = absurd (cc (e))
asked_turn may i s next s' came given (at_served m e is e2 e3 e4) = absurd (cc (e))
asked_turn may i s next s' came given (at_woken e is e2 e3) = absurd (cc (e))
asked_turn may i s next s' came given (at_shutdown j method params parting e is e2 e3 e4 e5) = absurd (cc (e))
asked_turn may i s next s' came given (idle m is same any case) = by case
  where
    by : Idle (asked i) m given next → (given ≡ []) × ((next ≡ asked i) ⊎ ((by : SessionAnswer) × (next ≡ ended by)))
    by (early_request j method params r e e1 e2 e3 e4) = absurd (cc (e))
    by (early_note e e1 e2 e3 e4) = absurd (cc (e))
    by (unasked shown e e1 e2 e3 e4) = absurd (cc (e))
    by (uninvited shown e e1 e2 e3) = absurd (cc (e))
    by (leaves e e1 e2 e3) = absurd (cc (e))
    by (exits j e e1 e2 e3) = (e2, inr (_, e3))
    by (late j e e1 e2 e3) = (e2, inl (e3 ∙ sym e))
    by (stays j shown e e1 e2 e3) = (e2, inr (_, e3))

-- so nothing is sent or lost either
pub none_after : {S : Type 0} (may : Behavior S) (i : Id) (q : Phase) (s s' : S) (xs : List Exchange)
    → Steps may (asked i) s xs q s'
    → (sends_of xs ≡ []) × (lost_of xs ≡ None) × IsSound q
none_after {S} may i q s s' [] run = (refl, refl, subst (λ (a : Phase × S). IsSound a.0) run tt)
none_after may i q s s' (x ∷ xs) run =
    at (λ more. none_after may i q run.0.1 s' xs more) (turn_case may (asked i) run.0.0 s run.0.1 x run.1)
  where
    Rest : Type 0
    Rest = Steps may (asked i) run.0.1 xs q s' → (sends_of xs ≡ []) × (lost_of xs ≡ None) × IsSound q

    rest : Rest → run.0.0 ≡ asked i ⊎ ((by : SessionAnswer) × (run.0.0 ≡ ended by))
        → (sends_of xs ≡ []) × (lost_of xs ≡ None) × IsSound q
    rest by (inl same) = by (subst (λ (r : Phase). Steps may r run.0.1 xs q s') same run.2)
    rest by (inr over) =
        let none = none_ended may over.0 q run.0.1 s' xs (subst (λ (r : Phase). Steps may r run.0.1 xs q s') over.1
        run.2) in
        rw (none.0, none.1) (refl, refl, tt)

    at : Rest → TurnCase may (asked i) s x run.0.0 run.0.1
        → (sends_of (x ∷ xs) ≡ []) × (lost_of (x ∷ xs) ≡ None) × IsSound q
    at by (whole is step) =
        let silent = asked_turn may i s run.0.0 run.0.1 x.came x.sent (row may (asked i) run.0.0 s run.0.1 x.came x.sent
        step) in
        let later = rest by silent.1 in
        (rw (is, silent.0) later.0, rw is later.1, later.2)
    at by (lost_reply m j is next step) =
        let silent = asked_turn may i s (asked j) run.0.1 x.came (x.sent ++ m ∷ []) (row may (asked i) (asked j) s
        run.0.1 x.came (x.sent ++ m ∷ []) step) in
        absurd (no_one x.sent [] m silent.0)
    at by (breaks m more fault next is gone step other) =
        let silent = asked_turn may i s next run.0.1 x.came (x.sent ++ m ∷ more) (row may (asked i) next s run.0.1
        x.came (x.sent ++ m ∷ more) step) in
        absurd (no_one x.sent more m silent.0)

-- the outbox took all that it was offered before
abbrev pub LastRefused : List Exchange → Type 0
LastRefused xs = (earlier : List Exchange) × (last : Exchange) × (xs ≡ earlier ++ last ∷ []) × IsSome last.not_sent
    × (lost_of earlier ≡ None)

last_refused : {S : Type 0} (may : Behavior S) (p : Phase) (s s' : S) (xs : List Exchange) (fault : SendFault)
    → IsSound p → Steps may p s xs (broken fault) s' → LastRefused xs
last_refused {S} may p s s' [] fault sound run = absurd (subst (λ (a : Phase × S). IsSound a.0) run sound)
last_refused may p s s' (x ∷ xs) fault sound run =
    at (λ next. last_refused may run.0.0 run.0.1 s' xs fault next run.2) (turn_case may p run.0.0 s run.0.1 x run.1)
  where
    at : (IsSound run.0.0 → LastRefused xs) → TurnCase may p s x run.0.0 run.0.1 → LastRefused (x ∷ xs)
    at by (whole is step) =
        let next = (phase_unbroken may p run.0.0 s run.0.1 x.came x.sent (row may p run.0.0 s run.0.1 x.came x.sent
        step)).0 in
        let later = by next in (
          x ∷ later.0,
          later.1,
          ap (λ (l : List Exchange). x ∷ l) later.2,
          later.3,
          rw is later.4,
        )
    at by (lost_reply m i is next step) =
        absurd (none_after may i (broken fault) run.0.1 s' xs (subst (λ (r : Phase). Steps may r run.0.1 xs
        (broken fault) s') next run.2)).2
    at by (breaks m more lost next is gone step other) =
        let over = none_broken may lost (broken fault) run.0.1 s' xs (subst (λ (r : Phase). Steps may r run.0.1 xs
        (broken fault) s') gone run.2) in
        ([], x, ap (λ (l : List Exchange). x ∷ l) over.0, rw is refl, refl)

pub ends_refused : {S : Type 0} (may : Behavior S) (s s' : S) (xs : List Exchange) (fault : SendFault)
    (answer : SessionAnswer) → SessionOut may s s' xs (refused fault) answer → LastRefused xs
ends_refused may s s' xs fault answer out = at out.last out.reached out.stopped
  where
    at : (q : Phase) → Steps may starting s xs q out.after → Stops may q out.after (refused fault) answer s'
        → LastRefused xs
    at (broken by) run stops = last_refused may starting s out.after xs by tt run
    at (ended by) run stops = absurd stops
    at starting run stops = absurd stops
    at in_reply run stops = absurd stops
    at serving run stops = absurd stops
    at (asked i) run stops = absurd stops

-- a session keeps its order
keeps_this_order : {S : Type 0} (may : Behavior S) (speaks : Bool) → (speaks ≡ false → (s s' : S) (i : Id)
    (parting : List Message) → may.at_shutdown s i parting s' → parting ≡ [])
    → (s s' : S) (xs : List Exchange) (stop : Stop) (answer : SessionAnswer)
    → SessionOut may s s' xs stop answer → KeepsOrder may.passes_late speaks xs stop answer
keeps_this_order may speaks silent s s' xs stop answer out =
    let so = order may speaks silent stop answer starting out.last s out.after s' xs out.reached out.stopped in
    record {
      early = so.0;
      rest = so.1;
      cut = so.2;
      replied = so.3;
      opened = so.4;
      offered = by_stop stop out;
    }
  where
    by_stop : (stop : Stop) → SessionOut may s s' xs stop answer → WasOffered stop xs
    by_stop (refused fault) out = let last = ends_refused may s s' xs fault answer out in
        (last.0, last.1, last.2, last.3)
    by_stop stop out = tt

pub keeps_order : {S : Type 0} (may : Behavior S) (s s' : S) (xs : List Exchange) (stop : Stop)
    (answer : SessionAnswer) → SessionOut may s s' xs stop answer → KeepsOrder may.passes_late true xs stop answer
keeps_order may s s' xs stop answer out = keeps_this_order may true (λ e. absurd (cc (e))) s s' xs stop answer out

-- ---- a client that is gone

pub all_answered : (xs : List Exchange) (stop : Stop) (fault : ProtocolFault) → is_disconnected fault ≡ true
    → AnswersRequests xs stop (Err fault) → AllReplied xs
all_answered xs stop fault lost (inl all) = all
all_answered xs stop fault lost (inr last) = absurd (still_there fault lost last.unallowed)

-- ---- before `initialized`

pub each_replied : (xs : List Exchange) → AllReplied xs → RepliesToEach (requests_of (messages_of xs)) (sends_of xs)
each_replied [] all = tt
each_replied (x ∷ xs) all =
    let first = messages_of (x ∷ []) in
    subst (λ ids. RepliesToEach ids (offered x ++ sends_of xs)) (sym (ap requests_of (messages_both (x ∷ []) xs)
    ∙ filter_map-append request_id first (messages_of xs)))
    (AllZip-append RepliesTo (requests_of first) (requests_of (messages_of xs)) (offered x) (sends_of xs) all.0
    (each_replied xs all.1))

no_reply : (id : Id) (m : Message) → RepliesTo id m → is_reply m ≡ false → ⊥
no_reply id m replies other = let e = (rw replies.1 at other) in cc (e)

-- a message that is no reply comes after the replies
after_replies : (ids : List Id) (first before later more : List Message) (m : Message) → RepliesToEach ids first
    → is_reply m ≡ false
    → before ++ m ∷ more ≡ first ++ later → (rest : List Message) × (before ≡ first ++ rest) × (later ≡ rest
    ++ m ∷ more)
after_replies [] [] before later more m each other e = (before, refl, sym e)
after_replies [] (r ∷ first) before later more m each other e = absurd each
after_replies (id ∷ ids) [] before later more m each other e = absurd each
after_replies (id ∷ ids) (r ∷ first) [] later more m each other e =
    let same : m ≡ r = cc (e) in
    absurd (no_reply id r each.0 (rw same at other))
after_replies (id ∷ ids) (r ∷ first) (b ∷ before) later more m each other e =
    let same : b ≡ r = cc (e) in
    let tails : before ++ m ∷ more ≡ first ++ later = cc (e) in
    let rest = after_replies ids first before later more m each.1 other tails in
    (rest.0, rw same (ap (λ ms. r ∷ ms) rest.1), rest.2)

never_none : (rest more : List Message) (m : Message) → ◌≡◌ {A = List Message} [] (rest ++ m ∷ more) → ⊥
never_none [] more m e = cc (e)
never_none (r ∷ rest) more m e = cc (e)

stopped_silent : (p : Phase) (is_awaited : Message → Bool) (fault : List ℕ → ProtocolFault) (rest : List Exchange)
    (stop : Stop) (answer : SessionAnswer)
    → StopsBefore p is_awaited fault rest stop answer → sends_of rest ≡ []
stopped_silent p is_awaited fault [] stop answer is = refl
stopped_silent p is_awaited fault (x ∷ rest) stop answer is = rw (is.0, is.2) refl

pub opened_before : (passes_late speaks_last : Bool) (xs : List Exchange) (stop : Stop)
    (answer : SessionAnswer) (before more : List Message) (m : Message)
    → KeepsOrder passes_late speaks_last xs stop answer → sends_of xs ≡ before ++ m ∷ more → is_reply m
    ≡ false → OpenedBy xs before
opened_before passes_late speaks_last xs stop answer before more m order sent other =
    let parts : before ++ m ∷ more ≡ sends_of order.early ++ sends_of order.rest = sym sent ∙ ap sends_of order.cut
    ∙ sends_both order.early order.rest in
    let after = after_replies (requests_of (messages_of order.early)) (sends_of order.early) before
    (sends_of order.rest) more m (each_replied order.early order.replied) other parts in
    elim order.opened [
      | inl opened ↦ (elim opened.later [
        | inl invited ↦ (order.early, order.rest, after.0, order.cut, after.1, opened.ends, invited.0)
        | inr none ↦ absurd (never_none after.0 more m (sym (stopped_silent in_reply _ _ order.rest stop answer none)
            ∙ after.2))
      ])
      | inr none ↦ absurd (never_none after.0 more m (sym (stopped_silent starting _ _ order.rest stop answer none.2)
          ∙ after.2))
    ]

-- Each request of a handler's session is answered once, under its id, in order.
module _ (stop : Stop) where
  -- a message decided
  abbrev Last : List Exchange → SessionAnswer → Type 0
  Last xs answer = stop ≡ decided → AllReplied xs ⊎ LastUnanswered xs stop answer

  more_replied : (by : Option SessionAnswer) (x : Exchange) (xs : List Exchange) → AllReplied (x ∷ [])
      → MatchOption by (AllReplied xs) (λ answer. Last xs answer)
      → MatchOption by (AllReplied (x ∷ xs)) (λ answer. Last (x ∷ xs) answer)
  more_replied None x xs first rest = (first.0, rest)
  more_replied (Some answer) x xs first rest = λ decides. elim (rest decides) [
    | inl all ↦ inl (first.0, all)
    | inr last ↦ inr (record {
      before = x ∷ last.before;
      id = last.id;
      method = last.method;
      params = last.params;
      cut = λ j. x ∷ last.cut j;
      replied = (first.0, last.replied);
      decides = last.decides;
      unallowed = last.unallowed;
    })
  ]

  -- a message that the lifecycle does not allow
  unanswered : (x : Exchange) (m : Message) (fault : ProtocolFault) → x.came ≡ Some m → offered x ≡ []
      → ShowsUnallowed fault → Last (x ∷ []) (Err fault)
  unanswered x (request i method params) fault is none unallowed = λ decides. inr (record {
    before = [];
    id = i;
    method = method;
    params = params;
    cut = λ
        j. record { came = is j; sent = (nothing_offered x none).0 j; not_sent = (nothing_offered x none).1 j } ∷ [];
    replied = tt;
    decides = decides;
    unallowed = unallowed;
  })
  unanswered x m fault is none unallowed = λ decides. inl (silent x m is tt none)

  module _ {H : Type 0} (answers : H → Id → List ℕ → Data → Result Data ErrorObject → H → Type 0) (notes : H → List ℕ
      → Data → H → Type 0) (capabilities : Data) where
    abbrev plain : Behavior H
    plain = of_handler answers notes capabilities

    module _ (p q : Phase) (h h' : H) (x : Exchange) (full : List Message) (one : (r : Message) → full ≡ r ∷ []
        → offered x ≡ r ∷ [])
        (none : full ≡ [] → offered x ≡ []) where
      handled : (m : Message) → x.came ≡ Some m → Handles answers notes h m full h' → AllReplied (x ∷ [])
      handled (request i method params) is handles = one_reply x i method params _ is (one _ handles.2) (_, refl)
      handled m is handles = silent x m is tt (none handles.1)

      unserved : (m : Message) → x.came ≡ Some m → Idle p m full q → Holds plain AllReplied Last q (x ∷ [])
      unserved m there (early_request i method params reply at is early output next) =
          rw next (one_reply x i method params reply (rw is at there) (one reply output) (_, early.is))
      unserved m there (early_note at mute early output next) = rw next (silent x m there mute (none output))
      unserved m there (unasked shown at mute other output next) = rw next (λ decides. inl (silent x m there mute
          (none output)))
      unserved m there (uninvited shown at other output next) = rw next (unanswered x m _ there (none output)
          (inl (shown, refl)))
      unserved m there (leaves at is output next) = rw next (λ decides. inl (silent x m there (exit_no_request m is)
          (none output)))
      unserved m there (exits i at is output next) = rw next (λ decides. inl (silent x m there (exit_no_request m is)
          (none output)))
      unserved m there (late i at is output next) = rw next (silent x m there (reply_no_request m is) (none output))
      unserved m there (stays i shown at other output next) = rw next (unanswered x m _ there (none output)
          (inr (shown, refl)))

      replied_case : StepCase plain p h x.came full q h' → Holds plain AllReplied Last q (x ∷ [])
      replied_case (at_initialize i method params outcome at is asks given output next) =
          rw next (after_outcome plain AllReplied Last outcome (x ∷ []) (one_reply x i method params _ is
          (one _ output) (_, refl)))
      replied_case (at_initialized m at there is given next) = rw next (silent x m there (initialized_no_request m is)
          (none given.0))
      replied_case (at_served m at there is given next) = rw next (handled m there given)
      replied_case (at_woken at empty given next) = rw (next, empty, none given.0) (tt, tt)
      replied_case (at_shutdown i method params parting at is asks given output next) =
          rw next (one_reply x i method params _ is (one _ (output ∙ ap (λ (ms : List Message). ms ++ null_reply i ∷ [])
          given.0)) (_, refl))
      replied_case (idle m there same step row) = unserved m there row

    -- what became of the requests of a session
    pub session_answers : (h h' : H) (xs : List Exchange) (answer : SessionAnswer)
        → SessionOut plain h h' xs stop answer
        → AnswersRequests xs stop answer
    session_answers h h' xs answer out =
        at (ended_by way.0) (stops_by plain way.0 out.last out.after h' stop answer way.2 out.stopped)
        (holds plain AllReplied Last tt (λ p q s s' x full row one none. replied_case p q s s' x full one none row)
        (λ q x rest first more. more_replied (ended_by q) x rest first more)
        starting way.0 h out.after xs refl way.1)
      where
        way : (row : Phase) × Ran plain starting h xs row out.after × Leads plain row out.last
        way = ran plain starting out.last h out.after xs out.reached

        at : (by : Option SessionAnswer) → MatchOption by (stop ≡ decided → ⊥) (λ by. (stop ≡ decided) × (answer ≡ by))
            → MatchOption by (AllReplied xs) (λ answer. Last xs answer)
            → AllReplied xs ⊎ LastUnanswered xs stop answer
        at None on all = inl all
        at (Some by) stops last = rw stops.1 (last stops.0)

-- a handler's session keeps both laws
pub answers_in_order : {H : Type 0} (answers : H → Id → List ℕ → Data → Result Data ErrorObject → H → Type 0) (notes : H
    → List ℕ → Data → H → Type 0)
    (capabilities : Data) (h h' : H) (xs : List Exchange) (stop : Stop) (answer : SessionAnswer)
    → SessionOut (of_handler answers notes capabilities) h h' xs stop answer → AnswersRequests xs stop answer
    × KeepsOrder false false xs stop answer
answers_in_order answers notes capabilities h h' xs stop answer out = (
  session_answers stop answers notes capabilities h h' xs answer out,
  keeps_this_order (of_handler answers notes capabilities) false (λ mute s s' i parting given. given.0) h h' xs stop
      answer out,
)
