-- Where a recorder sees that `initialize` got its result, and what the session sends from there on.
use Rattle.std.proofs.Common.{◌≡◌, ◌≤◌, ◌<◌, ◌+◌, ◌⊎◌, inl, inr, ℕ, Bool, true, false, cond, ◌&&◌, List, [], ◌∷◌, ◌++◌}
use Rattle.std.proofs.Common.{Option, Some, None, is_some, refl, sym, ap, ◌∙◌, subst, arith, append_assoc}
use Rattle.std.proofs.Common.{append-nil, codes, Ok, length}
use Rattle.serde_json.specs.Data.{Data}
use Rattle.std.proofs.lemmas.List.{length-append}
use Rattle.std.specs.Option.{option_or}
use Rattle.std.specs.Prelude.{option_to_list}
use Rattle.std.specs.Str.{bytes_eq}
use Rattle.lsp_message.specs.Id.{Id, same_id}
use Rattle.lsp_message.specs.Message.{Message, request, notification, response}
use Rattle.lsp_message.proofs.Ids.{same_own}
use Rattle.lsp_acts.specs.Law.{one_if, is_request_under, is_reply_under, how_many}
use Rattle.lsp_session.specs.Answered.{AllReplied}
use Rattle.lsp_session.specs.Session.{Exchange, offered, messages_of, sends_of, SessionAnswer, Stop}
use Rattle.lsp_session.specs.SessionLaws.{KeepsOrder, IsOpened, IsUnstarted, AllRefused, AllEarly}
use Rattle.lsp_watch.specs.CleanLog.{AtEach, is_call}
use Rattle.lsp_watch.specs.Log.{Log, Passed, Open, passed, from_client, same_direction, waiting}
use Rattle.lsp_watch.specs.Log.{request_of, is_some_such, opens_session}
use Rattle.lsp_watch.proofs.Queues.{first, rest, queue, waiting_is, queue_request, queue_reply}
use Rattle.lsp_watch.specs.Rules.{lifecycle_finding, initialize_result}
use Rattle.lsp_watch.specs.declared.direction.Direction.{Direction}
use Rattle.lsp_watch.specs.declared.direction.Direction.TheVariants.{ToServer, ToClient}
use Rattle.lsp_watched.specs.Recorded.{gone, IsSentAt, IsRecorded}
use Rattle.lsp_watched.specs.Sessions.{ClientKeepsIds, ServerKeepsLifecycle}
use Rattle.lsp_watched.proofs.Recorded.{RepliesAtMost, AllAtMost, at_most_each, at_most_at, never_more, never_more_of}
use Rattle.lsp_watched.proofs.Recorded.{is_a_reply, came_last, sends_append, IsSentOf}
use Rattle.lsp_watched.proofs.Replies.{at_before, how_many_append, told, one_more, balanced, IsBounded, AsksNew}
use Rattle.lsp_watched.proofs.Sessions.{HasBegun, begun_more, begun_keeps, front_replied}
use Rattle.lsp_watched.proofs.Waits.{none_asks}

-- ---- where a list is cut

abbrev Cuts : {A : Type 0} → List A → A → List A → A → Type 0
Cuts {A} a x b y = ((u : List A) × (b ≡ a ++ x ∷ u)) ⊎ (((a ≡ b) × (x ≡ y)) ⊎ ((u : List A) × (a ≡ b ++ y ∷ u)))

cut_more : {A : Type 0} (w z : A) (a : List A) (x : A) (b : List A) (y : A) → w ≡ z → Cuts a x b y
    → Cuts (w ∷ a) x (z ∷ b) y
cut_more w z a x b y same (inl further) = inl (further.0, λ k. sym same k ∷ further.1 k)
cut_more w z a x b y same (inr (inl equal)) = inr (inl ((λ k. same k ∷ equal.0 k), equal.1))
cut_more w z a x b y same (inr (inr before)) = inr (inr (before.0, λ k. same k ∷ before.1 k))

cuts : {A : Type 0} (a : List A) (x : A) (c b : List A) (y : A) (d : List A) → a ++ x ∷ c ≡ b ++ y ∷ d → Cuts a x b y
cuts [] x c [] y d is = inr (inl (refl, let same : x ≡ y = cc in same))
cuts [] x c (z ∷ b) y d is = let same : x ≡ z = cc in inl (b, λ k. sym same k ∷ b)
cuts (w ∷ a) x c [] y d is = let same : w ≡ y = cc in inr (inr (a, λ k. same k ∷ a))
cuts (w ∷ a) x c (z ∷ b) y d is =
    let same : w ≡ z = cc in
    let rest : a ++ x ∷ c ≡ b ++ y ∷ d = cc in
    cut_more w z a x b y same (cuts a x c b y d rest)

-- ---- where a message passed

record PassedAt (direction : Direction) (log : Log) (front : List Message) (m : Message) : Type 0 where
  pub later : Log
  pub one : Passed
  pub before : Log
  pub place : log ≡ later ++ one ∷ before
  pub goes : same_direction direction one.direction ≡ true
  pub is : one.message ≡ m
  pub behind : gone direction before ≡ front

further : (direction : Direction) (p : Passed) (log : Log) (front : List Message) (m : Message)
    → PassedAt direction log front m
    → PassedAt direction (p ∷ log) front m
further direction p log front m at = record {
  later = p ∷ at.later;
  one = at.one;
  before = at.before;
  place = ap (λ l. p ∷ l) at.place;
  goes = at.goes;
  is = at.is;
  behind = at.behind;
}

passed_at : (direction : Direction) (log : Log) (front : List Message) (m : Message) (rest : List Message)
    → gone direction log ≡ front ++ m ∷ rest
    → PassedAt direction log front m
passed_at direction [] [] m rest is = cc
passed_at direction [] (n ∷ front) m rest is = cc
passed_at direction (p ∷ log) front m rest is = by (λ r e. passed_at direction log front m r e)
    (same_direction direction p.direction) refl is
  where
    here : ((r : List Message) → gone direction log ≡ front ++ m ∷ r → PassedAt direction log front m)
        → same_direction direction p.direction ≡ true
        → gone direction log ++ p.message ∷ [] ≡ front ++ m ∷ rest → Cuts (gone direction log) p.message front m
        → PassedAt direction (p ∷ log) front m
    here earlier goes is (inl longer) = absurd (omega (
      arith,
      ap length is,
      ap length longer.1,
      length-append (gone direction log) (p.message ∷ []),
      length-append front (m ∷ rest),
      length-append (gone direction log) (p.message ∷ longer.0),
    ))
    here earlier goes is (inr (inl equal)) = record {
      later = [];
      one = p;
      before = log;
      place = refl;
      goes = goes;
      is = equal.1;
      behind = equal.0;
    }
    here earlier goes is (inr (inr shorter)) = further direction p log front m (earlier shorter.0 shorter.1)

    by : ((r : List Message) → gone direction log ≡ front ++ m ∷ r → PassedAt direction log front m) → (b : Bool)
        → same_direction direction p.direction ≡ b
        → cond b (gone direction log ++ p.message ∷ []) (gone direction log) ≡ front ++ m ∷ rest
        → PassedAt direction (p ∷ log) front m
    by earlier true goes is = here earlier goes is (cuts (gone direction log) p.message [] front m rest is)
    by earlier false goes is = further direction p log front m (earlier rest is)

-- ---- how much was sent

sent_length : (xs : List Exchange) (x : Exchange) (ys : List Exchange) → length (sends_of (xs ++ x ∷ ys))
    ≡ length (sends_of xs) + (length (offered x) + length (sends_of ys))
sent_length [] x ys = omega (arith, length-append (offered x) (sends_of ys))
sent_length (y ∷ xs) x ys = omega (
  arith,
  length-append (offered y) (sends_of (xs ++ x ∷ ys)),
  length-append (offered y) (sends_of xs),
  sent_length xs x ys,
)

grows_once : (direction : Direction) (p : Passed) (log : Log)
    → length (gone direction log) ≤ length (gone direction (p ∷ log))
grows_once direction p log = by (same_direction direction p.direction)
  where
    by : (b : Bool) → length (gone direction log) ≤ length
        (cond b (gone direction log ++ p.message ∷ []) (gone direction log))
    by true = omega (arith, length-append (gone direction log) (p.message ∷ []))
    by false = omega arith

grows : (direction : Direction) (later log : Log) → length (gone direction log) ≤ length (gone direction (later ++ log))
grows direction [] log = omega arith
grows direction (p ∷ later) log = omega (arith, grows direction later log, grows_once direction p (later ++ log))

went_client : (direction : Direction) → from_client direction ≡ false → direction ≡ ToClient
went_client ToServer is = cc
went_client ToClient is = refl

grows_by_one : (p : Passed) (log : Log) → from_client p.direction ≡ false
    → length (gone ToClient (p ∷ log)) ≡ length (gone ToClient log) + 1
grows_by_one p log direction = ap (λ w. length (cond (same_direction ToClient w) (gone ToClient log ++ p.message ∷ [])
    (gone ToClient log))) (went_client p.direction direction)
    ∙ length-append (gone ToClient log) (p.message ∷ [])

-- what is sent before so much was sent, is sent at an exchange before
within : (exchanges front : List Exchange) (x : Exchange) (rest : List Exchange) (before : Log) (m : Message)
    → exchanges ≡ front ++ x ∷ rest
    → length (gone ToClient before) < length (sends_of front) → IsSentAt exchanges before m → IsSentAt front before m
within exchanges front x rest before m cut less at =
    by (cuts at.earlier at.exchange at.later front x rest (sym at.cut ∙ cut))
  where
    by : Cuts at.earlier at.exchange front x → IsSentAt front before m
    by (inl further) = record {
      earlier = at.earlier;
      exchange = at.exchange;
      later = further.0;
      cut = further.1;
      first = at.first;
      rest = at.rest;
      sends = at.sends;
      sent = at.sent;
      ahead = at.ahead;
      took = at.took;
    }
    by (inr (inl equal)) = absurd (omega (
      arith,
      less,
      ap length at.sent,
      length-append (sends_of at.earlier) at.first,
      ap (λ xs. length (sends_of xs)) equal.0,
    ))
    by (inr (inr behind)) = absurd (omega (
      arith,
      less,
      ap length at.sent,
      length-append (sends_of at.earlier) at.first,
      ap (λ xs. length (sends_of xs)) behind.1,
      sent_length front x behind.0,
    ))

-- and what is sent next is sent at the next exchange
at_next : (exchanges front : List Exchange) (x : Exchange) (rest : List Exchange) (before : Log) (m : Message)
    → exchanges ≡ front ++ x ∷ rest
    → gone ToClient before ≡ sends_of front → length (offered x) ≡ 1 → (at : IsSentAt exchanges before m)
    → (at.earlier ≡ front) × (at.exchange ≡ x)
at_next exchanges front x rest before m cut all one at =
    by (cuts at.earlier at.exchange at.later front x rest (sym at.cut ∙ cut))
  where
    by : Cuts at.earlier at.exchange front x → (at.earlier ≡ front) × (at.exchange ≡ x)
    by (inl further) = absurd (omega (
      arith,
      ap length all,
      ap length at.sent,
      length-append (sends_of at.earlier) at.first,
      ap (λ xs. length (sends_of xs)) further.1,
      sent_length at.earlier at.exchange further.0,
      ap length at.sends,
      length-append at.first (m ∷ at.rest),
    ))
    by (inr (inl equal)) = equal
    by (inr (inr behind)) = absurd (omega (
      arith,
      one,
      ap length all,
      ap length at.sent,
      length-append (sends_of at.earlier) at.first,
      ap (λ xs. length (sends_of xs)) behind.1,
      sent_length front x behind.0,
    ))

-- ---- a request that waits

module _ (id : Id) where
  told_once : (p : Passed) (log : Log) → told id log ≤ told id (p ∷ log)
  told_once p log = by (same_direction ToClient p.direction)
    where
      by : (b : Bool) → told id log
          ≤ how_many (is_reply_under id) (cond b (gone ToClient log ++ p.message ∷ []) (gone ToClient log))
      by true = omega (arith, how_many_append (is_reply_under id) (gone ToClient log) (p.message ∷ []))
      by false = omega arith

  told_grows : (later log : Log) → told id log ≤ told id (later ++ log)
  told_grows [] log = omega arith
  told_grows (p ∷ later) log = omega (arith, told_grows later log, told_once p (later ++ log))

  kept : (xs ys : List Open) (q : Open) → first xs ≡ Some q → first (xs ++ ys) ≡ Some q
  kept [] ys q is = cc
  kept (x ∷ xs) ys q is = is

  untold : (b : Bool) (xs : List Open) (n : ℕ) (q : Open) → n + one_if b ≤ n → first xs ≡ Some q
      → first (cond b (rest xs) xs) ≡ Some q
  untold true xs n q less is = absurd (omega (arith, less))
  untold false xs n q less is = is

  -- the first request under the id that waits
  abbrev next : Log → Option Open
  next log = first (queue ToServer id log)

  stays_once : (direction : Direction) (place : ℕ) (m : Message) (log : Log) (q : Open)
      → told id (passed direction place m ∷ log) ≤ told id log
      → next log ≡ Some q → next (passed direction place m ∷ log) ≡ Some q
  stays_once direction place (request i method params) log q less is =
      ap first (queue_request ToServer id direction place log i method params)
      ∙ kept (queue ToServer id log) _ q is
  stays_once direction place (notification method params) log q less is = is
  stays_once ToServer place (response i outcome) log q less is =
      ap first (queue_reply ToServer id ToServer place log i outcome) ∙ is
  stays_once ToClient place (response i outcome) log q less is =
      ap first (queue_reply ToServer id ToClient place log i outcome)
      ∙ untold (same_id id i) (queue ToServer id log) (told id log) q
      (omega (arith, less, how_many_append (is_reply_under id) (gone ToClient log) (response i outcome ∷ []))) is

  stays : (later log : Log) (q : Open) → told id (later ++ log) ≤ told id log → next log ≡ Some q
      → next (later ++ log) ≡ Some q
  stays [] log q less is = is
  stays (p ∷ later) log q less is = stays_once p.direction p.place p.message (later ++ log) q
      (omega (arith, less, told_grows later log))
      (stays later log q (omega (arith, less, told_once p (later ++ log))) is)

-- ---- small steps

went_server : (direction : Direction) → from_client direction ≡ true → direction ≡ ToServer
went_server ToServer is = refl
went_server ToClient is = cc

is_from_client : (p : Passed) (m : Message) → same_direction ToServer p.direction ≡ true → p.message ≡ m
    → p ≡ passed ToServer p.place m
is_from_client p m goes is = λ k. passed (went_server p.direction goes k) p.place (is k)

goes_to_client : (direction : Direction) → same_direction ToClient direction ≡ true → direction ≡ ToClient
goes_to_client ToServer is = cc
goes_to_client ToClient is = refl

is_from_server : (p : Passed) (m : Message) → same_direction ToClient p.direction ≡ true → p.message ≡ m
    → p ≡ passed ToClient p.place m
is_from_server p m goes is = λ k. passed (goes_to_client p.direction goes k) p.place (is k)

begun_all : (later log : Log) → HasBegun log → HasBegun (later ++ log)
begun_all [] log begun = begun
begun_all (p ∷ later) log begun = begun_more (later ++ log) p (begun_all later log begun)

reply_keeps_order : (before : Log) (direction : Direction) (m : Message) → is_call m ≡ false
    → lifecycle_finding before direction m
    ≡ None
reply_keeps_order before direction (response i outcome) reply = refl
reply_keeps_order before direction (request i method params) reply = cc
reply_keeps_order before direction (notification method params) reply = cc

-- ---- `initialize` and its result

module _ (exchanges : List Exchange) (log : Log) (recorded : IsRecorded exchanges log) (anew : ClientKeepsIds log)
    (front rest : List Exchange) (id : Id) (method : List ℕ) (params result : Data)
    (is_initialize : bytes_eq method (codes "initialize") ≡ true) (replied : AllReplied front) (exchange : Exchange)
    (takes : exchange.came ≡ Some (request id method params)) (gets : offered exchange ≡ response id (Ok result) ∷ [])
  where
    abbrev initialize : Message
    initialize = request id method params

    abbrev gives : Message
    gives = response id (Ok result)

    all_at_most : AllAtMost front
    all_at_most = subst AllAtMost (append-nil front) (at_most_each front [] replied tt)

    -- behind `initialize`, up to its result
    module _ (cut : exchanges ≡ front ++ exchange ∷ rest) (since before : Log) (place : ℕ)
        (all : IsRecorded exchanges (since ++ passed ToServer place initialize ∷ before))
        (keeps : ClientKeepsIds (since ++ passed ToServer place initialize ∷ before))
        (sent : gone ToClient (since ++ passed ToServer place initialize ∷ before) ≡ sends_of front)
        (took : gone ToServer before ≡ messages_of front)
      where
        bounded : AtEach IsBounded before
        bounded later b p is direction =
            let ahead : Log = since ++ passed ToServer place initialize ∷ later in
            let place_in : since ++ passed ToServer place initialize ∷ before ≡ ahead ++ p ∷ b =
            ap (λ l. since ++ passed ToServer place initialize ∷ l) is
            ∙ sym (append_assoc since (passed ToServer place initialize ∷ later) (p ∷ b)) in
            one_more front b p.message (never_more front all_at_most)
            (within exchanges front exchange rest b p.message cut (omega (
              arith,
              ap length sent,
              ap (λ l. length (gone ToClient l)) place_in,
              grows ToClient ahead (p ∷ b),
              grows_by_one p b direction,
            )) (all ahead b p place_in direction))

        none_before : waiting ToServer id before ≡ None
        none_before = keeps since before (passed ToServer place initialize) refl refl

        abbrev kept_first : Open
        kept_first = request_of ToServer place id method params

        empty : (xs : List Open) → first xs ≡ None → xs ≡ []
        empty [] none = refl
        empty (x ∷ xs) none = cc

        waits_at_first : first (queue ToServer id (passed ToServer place initialize ∷ before)) ≡ Some kept_first
        waits_at_first = ap first (queue_request ToServer id ToServer place before id method params
            ∙ ap (λ xs. xs ++ cond (same_id id id) (kept_first ∷ []) []) (empty (queue ToServer id before)
            (sym (waiting_is ToServer id before) ∙ none_before))
            ∙ ap (λ b. cond b (kept_first ∷ []) []) (same_own id))

        waits_on : waiting ToServer id (since ++ passed ToServer place initialize ∷ before) ≡ Some kept_first
        waits_on = waiting_is ToServer id (since ++ passed ToServer place initialize ∷ before)
            ∙ stays id since (passed ToServer place initialize ∷ before) kept_first
            (omega (
              arith,
              balanced before (at_before AsksNew (since ++ passed ToServer place initialize ∷ before) since before
                  (passed ToServer place initialize) refl keeps) bounded id,
              ap one_if (none_asks ToServer id before none_before),
              ap (how_many (is_request_under id)) took,
              ap (how_many (is_reply_under id)) sent,
              never_more_of front all_at_most id,
            )) waits_at_first

        begins : (replies : ℕ) → HasBegun (passed ToClient replies gives ∷ since ++ passed ToServer place initialize
            ∷ before)
        begins replies = ap (λ (b : Bool). is_some (cond (b && true) (Some replies)
            (initialize_result (since ++ passed ToServer place initialize ∷ before))))
            (ap (is_some_such opens_session) waits_on ∙ is_initialize)

    module _ (cut : exchanges ≡ front ++ exchange ∷ rest) where
      begun_at : (later b : Log) (replies : ℕ) → log ≡ later ++ passed ToClient replies gives ∷ b
          → gone ToClient b ≡ sends_of front
          → HasBegun (passed ToClient replies gives ∷ b)
      begun_at later b replies is sent =
          let reply : Passed = passed ToClient replies gives in
          let at = recorded later b reply is refl in
          let same = at_next exchanges front exchange rest b gives cut sent (ap length gets) at in
          let took : gone ToServer b ≡ messages_of front ++ initialize ∷ at.ahead =
          at.took ∙ (λ k. messages_of (same.0 k ++ same.1 k ∷ []) ++ at.ahead)
          ∙ ap (λ l. l ++ at.ahead) (came_last front exchange
          ∙ ap (λ (c : Option Message). messages_of front ++ option_to_list c) takes)
          ∙ append_assoc (messages_of front) (initialize ∷ []) at.ahead in
          let found = passed_at ToServer b (messages_of front) initialize at.ahead took in
          let b_is : b ≡ found.later ++ passed ToServer found.one.place initialize ∷ found.before =
          found.place ∙ ap (λ p. found.later ++ p ∷ found.before)
          (is_from_client found.one initialize found.goes found.is) in
          subst (λ l. HasBegun (reply ∷ l)) (sym b_is)
          (begins cut found.later found.before found.one.place
          (subst (IsRecorded exchanges) b_is (at_before (IsSentOf exchanges) log later b reply is recorded))
          (subst ClientKeepsIds b_is (at_before AsksNew log later b reply is anew))
          (ap (gone ToClient) (sym b_is) ∙ sent) found.behind replies)

      begun_before : (later before : Log) (p : Passed) → log ≡ later ++ p ∷ before
          → (at : IsSentAt exchanges before p.message)
          → (u : List Exchange) → at.earlier ≡ front ++ exchange ∷ u → HasBegun before
      begun_before later before p is at u behind =
          let begun : sends_of (front ++ exchange ∷ u) ≡ sends_of front ++ (gives ∷ sends_of u) =
          sends_append front (exchange ∷ u)
          ∙ ap (λ (ms : List Message). sends_of front ++ (ms ++ sends_of u)) gets in
          let sent : gone ToClient before ≡ sends_of front ++ gives ∷ (sends_of u ++ at.first) =
          at.sent ∙ ap (λ xs. sends_of xs ++ at.first) behind
          ∙ ap (λ (ms : List Message). ms ++ at.first) begun
          ∙ append_assoc (sends_of front) (gives ∷ sends_of u) at.first in
          let found = passed_at ToClient before (sends_of front) gives (sends_of u ++ at.first) sent in
          let before_is : before ≡ found.later ++ passed ToClient found.one.place gives ∷ found.before =
          found.place ∙ ap (λ q. found.later ++ q ∷ found.before)
          (is_from_server found.one gives found.goes found.is) in
          let place_in : log ≡ (later ++ p ∷ found.later) ++ passed ToClient found.one.place gives ∷ found.before =
          is ∙ ap (λ l. later ++ p ∷ l) before_is
          ∙ sym (append_assoc later (p ∷ found.later) (passed ToClient found.one.place gives ∷ found.before)) in
          subst HasBegun (sym before_is) (begun_all found.later (passed ToClient found.one.place gives ∷ found.before)
          (begun_at (later ++ p ∷ found.later) found.before found.one.place place_in found.behind))

      pub keeps_from_there : RepliesAtMost exchange → ServerKeepsLifecycle log
      keeps_from_there last later before p is direction =
          let at = recorded later before p is direction in
          by at (cuts at.earlier at.exchange at.later front exchange rest (sym at.cut ∙ cut))
        where
          by : (at : IsSentAt exchanges before p.message) → Cuts at.earlier at.exchange front exchange
              → lifecycle_finding before p.direction p.message ≡ None
          by at (inl further) = reply_keeps_order before p.direction p.message
              (is_a_reply at.exchange at.first p.message at.rest
              (at_most_at at.earlier at.exchange further.0 (subst AllAtMost further.1 all_at_most)) at.sends)
          by at (inr (inl equal)) = reply_keeps_order before p.direction p.message
              (is_a_reply at.exchange at.first p.message at.rest (subst RepliesAtMost (sym equal.1) last) at.sends)
          by at (inr (inr behind)) = subst (λ w. lifecycle_finding before w p.message ≡ None)
              (sym (went_client p.direction direction))
              (begun_keeps before p.place p.message (begun_before later before p is at behind.0 behind.1) refl)

-- ---- each session

unstarted_at_most : (rest : List Exchange) (stop : Stop) (answer : SessionAnswer) → IsUnstarted rest stop answer
    → AllAtMost rest
unstarted_at_most [] stop answer is = tt
unstarted_at_most (x ∷ rest) stop answer is = (inr is.2, subst AllAtMost (sym is.0) tt)

pub recorded_keeps_lifecycle : (passes_late speaks_last : Bool) (exchanges : List Exchange) (stop : Stop)
    (answer : SessionAnswer) (log : Log)
    → KeepsOrder passes_late speaks_last exchanges stop answer → IsRecorded exchanges log
    → ClientKeepsIds log → ServerKeepsLifecycle log
recorded_keeps_lifecycle passes_late speaks_last exchanges stop answer log order recorded anew =
    by order.opened
  where
    by : IsOpened passes_late speaks_last order.early order.rest stop answer
        ⊎ (AllRefused order.early × AllEarly order.early × IsUnstarted order.rest stop answer)
        → ServerKeepsLifecycle log
    by (inl opened) =
        let ends = opened.ends in
        let early = subst AllReplied ends.cut order.replied in
        keeps_from_there exchanges log recorded anew ends.before order.rest ends.id ends.method ends.params ends.result
        ends.asks (front_replied ends.before _ early) ends.last ends.came ends.gets
        (order.cut ∙ ap (λ l. l ++ order.rest) ends.cut ∙ append_assoc ends.before _ order.rest)
        (at_most_at ends.before _ []
        (subst AllAtMost (append-nil _) (at_most_each (ends.before ++ _ ∷ []) [] early tt)))
    by (inr unstarted) = λ later before p is direction.
        let at = recorded later before p is direction in
        reply_keeps_order before p.direction p.message (is_a_reply at.exchange at.first p.message at.rest
        (at_most_at at.earlier at.exchange at.later (subst AllAtMost (sym order.cut ∙ at.cut)
        (at_most_each order.early order.rest order.replied
        (unstarted_at_most order.rest stop answer unstarted.2)))) at.sends)
