-- What a session sends breaks no rule.
use Rattle.std.proofs.Common.{◌≡◌, ◌⊎◌, inl, inr, Bool, true, false, cond, ◌&&◌, ◌||◌, List, [], ◌∷◌, ◌++◌, Option}
use Rattle.std.proofs.Common.{Some, None, is_some, refl, sym, ap, ◌∙◌, subst, ℕ, codes, option_map, Ok}
use Rattle.std.specs.Prelude.{option_to_list}
use Rattle.std.specs.Str.{bytes_eq}
use Rattle.lsp_message.specs.Id.{Id, same_id}
use Rattle.lsp_message.specs.Message.{Message, request, notification, response}
use Rattle.lsp_message.proofs.Ids.{same_own}
use Rattle.lsp_session.specs.Answered.{RepliesToEach, requests_of, AllReplied, AnswersRequests}
use Rattle.lsp_session.specs.Session.{Exchange, offered, messages_of, SessionAnswer, Stop}
use Rattle.lsp_session.specs.SessionLaws.{KeepsOrder, EndsWithResult, IsOpened, IsUnstarted, AllRefused, AllEarly}
use Rattle.lsp_watch.specs.Log.{Log, Passed, Open, passed, from_client, waiting, answers_initialize, is_success}
use Rattle.lsp_watch.specs.Log.{request_of, is_some_such, opens_session}
use Rattle.lsp_watch.proofs.Queues.{first, rest, queue, waiting_is, queue_request, queue_notification, queue_reply}
use Rattle.lsp_watch.specs.Rules.{session_finding, lifecycle_finding, initialize_result, initializing, is_early}
use Rattle.lsp_watch.specs.Rules.{tells_opening}
use Rattle.lsp_watch.specs.declared.rule.Rule.TheVariants.{BeforeResult}
use Rattle.lsp_watch.specs.declared.direction.Direction.TheVariants.{ToServer, ToClient}
use Rattle.lsp_watched.specs.Passing.{Pass}
use Rattle.lsp_watched.specs.Sessions.{PassSession, IsLogOfSession, ServerIsClean, ServerKeepsLifecycle}
use Rattle.lsp_watched.proofs.Waits.{at_each_none, at_each_more, one_found}

-- ---- what is said of each message of the server

abbrev IsClean : Log → Passed → Type 0
IsClean before p = from_client p.direction ≡ false → session_finding before p.direction p.message ≡ None

abbrev KeepsLifecycle : Log → Passed → Type 0
KeepsLifecycle before p = from_client p.direction ≡ false → lifecycle_finding before p.direction p.message ≡ None

module _ (P : Log → Passed → Type 0) (of_client : (before : Log) (place : ℕ) (m : Message)
    → P before (passed ToServer place m))
  where
    abbrev Holds : Log → Type 0
    Holds log = (later before : Log) (p : Passed) → log ≡ later ++ p ∷ before → P before p

    -- the client's messages change nothing
    after_client : (ms : List Message) (old new : Log) → Pass ToServer ms old new → Holds old → Holds new
    after_client [] old new passes holds = subst Holds (sym passes) holds
    after_client (m ∷ ms) old new passes holds = after_client ms (passed ToServer passes.0 m ∷ old) new passes.1
        (at_each_more P (passed ToServer passes.0 m) old (of_client old passes.0 m) holds)

    -- and the server's, if this is known of each
    after_server : (Q : Log → Type 0) → ((before : Log) (place : ℕ) (m : Message) → Q before
        → P before (passed ToClient place m)
        × Q (passed ToClient place m ∷ before)) → (ms : List Message) (old new : Log) → Pass ToClient ms old new → Q old
        → Holds old → Holds new × Q new
    after_server Q step [] old new passes known holds = (subst Holds (sym passes) holds, subst Q (sym passes) known)
    after_server Q step (m ∷ ms) old new passes known holds =
        let one = step old passes.0 m known in
        after_server Q step ms (passed ToClient passes.0 m ∷ old) new passes.1 one.1
        (at_each_more P (passed ToClient passes.0 m) old one.0 holds)

pass_split : (xs ys : List Exchange) (old new : Log) → PassSession (xs ++ ys) old new → (mid : Log)
    × PassSession xs old mid
    × PassSession ys mid new
pass_split [] ys old new passes = (old, refl, passes)
pass_split (x ∷ xs) ys old new passes =
    let rest = pass_split xs ys passes.1 new passes.4 in
    (rest.0, (passes.0, passes.1, passes.2, passes.3, rest.1), rest.2)

pub front_replied : (xs ys : List Exchange) → AllReplied (xs ++ ys) → AllReplied xs
front_replied [] ys all = tt
front_replied (x ∷ xs) ys all = (all.0, front_replied xs ys all.1)

-- ---- exchanges in which each request has its reply

-- no request of the client waits
abbrev Quiet : Log → Type 0
Quiet log = (id : Id) → queue ToServer id log ≡ []

-- the only one waits
closed : {A : Type 0} (b : Bool) (x : A) → cond b (rest (cond b (x ∷ []) [])) (cond b (x ∷ []) []) ≡ []
closed true x = refl
closed false x = refl

module _ (P : Log → Passed → Type 0) (of_client : (before : Log) (place : ℕ) (m : Message)
    → P before (passed ToServer place m))
    (of_reply : (before : Log) (place : ℕ) (id : Id) (outcome : _) → is_some (waiting ToServer id before) ≡ true
    → P before (passed ToClient place (response id outcome))) where
  abbrev Log_holds : Log → Type 0
  Log_holds log = (later before : Log) (p : Passed) → log ≡ later ++ p ∷ before → P before p

  none_sent : (sent : List Message) (came new : Log) → RepliesToEach [] sent → Pass ToClient sent came new → new ≡ came
  none_sent [] came new replies passes = passes
  none_sent (m ∷ ms) came new replies passes = absurd replies

  -- a message that is no request
  mute : (m : Message) (place : ℕ) (old : Log) (sent : List Message) (new : Log) → RepliesToEach [] sent
      → Pass ToClient sent (passed ToServer place m ∷ old) new
      → ((id : Id) → queue ToServer id (passed ToServer place m ∷ old) ≡ queue ToServer id old) → Quiet old
      → Log_holds old → Log_holds new × Quiet new
  mute m place old sent new replies passes same quiet holds =
      let is = none_sent sent (passed ToServer place m ∷ old) new replies passes in
      subst (λ l. Log_holds l × Quiet l) (sym is) (
        at_each_more P (passed ToServer place m) old (of_client old place m) holds,
        λ id. same id ∙ quiet id,
      )

  exchanged : (came : Option Message) (sent : List Message) (old mid new : Log)
      → RepliesToEach (requests_of (messages_of (record { came = came; sent = sent; not_sent = None } ∷ []))) sent
      → Pass ToServer (option_to_list came) old mid → Pass ToClient sent mid new → Quiet old → Log_holds old
      → Log_holds new × Quiet new
  exchanged None sent old mid new replies came passes quiet holds =
      let is = none_sent sent mid new replies passes ∙ came in
      subst (λ l. Log_holds l × Quiet l) (sym is) (holds, quiet)
  exchanged (Some (notification method params)) sent old mid new replies came passes quiet holds =
      mute (notification method params) came.0 old sent new replies (subst
      (λ l. Pass ToClient sent l new) came.1 passes)
      (λ id. queue_notification ToServer id ToServer came.0 old method params) quiet holds
  exchanged (Some (response i outcome)) sent old mid new replies came passes quiet holds =
      mute (response i outcome) came.0 old sent new replies (subst (λ l. Pass ToClient sent l new) came.1 passes)
      (λ id. queue_reply ToServer id ToServer came.0 old i outcome) quiet holds
  exchanged (Some (request i method params)) [] old mid new replies came passes quiet holds = absurd replies
  exchanged (Some (request i method params)) (m ∷ n ∷ ms) old mid new replies came passes quiet holds = absurd replies.1
  exchanged (Some (request i method params)) (m ∷ []) old mid new replies came passes quiet holds =
      let asked : Log = passed ToServer came.0 (request i method params) ∷ old in
      let reply = replies.0 in
      let is_new : new ≡ passed ToClient passes.0 (response i reply.0) ∷ asked =
      passes.1 ∙ (λ k. passed ToClient passes.0 (reply.1 k) ∷ came.1 k) in
      let kept : Open = request_of ToServer came.0 i method params in
      let opens : (id : Id) → queue ToServer id asked ≡ cond (same_id id i) (kept ∷ []) [] =
      λ id. queue_request ToServer id ToServer came.0 old i method params
      ∙ ap (λ xs. xs ++ cond (same_id id i) (kept ∷ []) []) (quiet id) in
      let waiting_for : is_some (waiting ToServer i asked) ≡ true =
      ap (λ (o : Option Open). is_some o) (waiting_is ToServer i asked
      ∙ ap first (opens i ∙ ap (λ b. cond b (kept ∷ []) []) (same_own i))) in
      subst (λ l. Log_holds l × Quiet l) (sym is_new) (
        at_each_more P (passed ToClient passes.0 (response i reply.0)) asked
            (of_reply asked passes.0 i reply.0 waiting_for)
            (at_each_more P (passed ToServer came.0 (request i method params)) old (of_client old came.0
            (request i method params))
            holds),
        λ id. queue_reply ToServer id ToClient passes.0 asked i reply.0
            ∙ ap (λ xs. cond (same_id id i) (rest xs) xs) (opens id) ∙ closed (same_id id i) kept,
      )

  all_exchanged : (xs : List Exchange) (old new : Log) → AllReplied xs → PassSession xs old new → Quiet old
      → Log_holds old
      → Log_holds new × Quiet new
  all_exchanged [] old new all passes quiet holds = subst (λ l. Log_holds l × Quiet l) (sym passes) (holds, quiet)
  all_exchanged (x ∷ xs) old new all passes quiet holds =
      let one = exchanged x.came (offered x) old passes.0 passes.1 all.0 passes.2 passes.3 quiet holds in
      all_exchanged xs passes.1 new all.1 passes.4 one.1 one.0

quiet_first : Quiet []
quiet_first id = refl

-- ---- a handler's session

client_clean : (before : Log) (place : ℕ) (m : Message) → IsClean before (passed ToServer place m)
client_clean before place m = λ e. cc

reply_clean : (before : Log) (place : ℕ) (id : Id) (outcome : _) → is_some (waiting ToServer id before) ≡ true
    → IsClean before (passed ToClient place (response id outcome))
reply_clean before place id outcome one = λ e. one_found (waiting ToServer id before) one

abbrev replied_clean : (xs : List Exchange) (new : Log) → AllReplied xs → PassSession xs [] new → ServerIsClean new
replied_clean xs new all passes = (all_exchanged IsClean client_clean reply_clean xs [] new all passes quiet_first
    (at_each_none IsClean)).0

pub server_is_clean : (exchanges : List Exchange) (stop : Stop)
    (answer : SessionAnswer)
    (log : Log) → AnswersRequests exchanges stop answer → IsLogOfSession exchanges log
    → ServerIsClean log
server_is_clean exchanges stop answer log (inl all) passes = replied_clean exchanges log all passes
server_is_clean exchanges stop answer log (inr last) passes =
    let parts = pass_split last.before _ [] log (subst (λ xs. PassSession xs [] log) last.cut passes) in
    let end = parts.2 in
    let first = replied_clean last.before parts.0 last.replied parts.1 in
    let asked = after_client IsClean client_clean
    (request last.id last.method last.params ∷ []) parts.0 end.0 end.2 first in
    subst ServerIsClean (sym (end.4 ∙ end.3)) asked

-- ---- the lifecycle of each session

client_keeps : (before : Log) (place : ℕ) (m : Message) → KeepsLifecycle before (passed ToServer place m)
client_keeps before place m = λ e. cc

reply_keeps : (before : Log) (place : ℕ) (id : Id) (outcome : _) → is_some (waiting ToServer id before) ≡ true
    → KeepsLifecycle before (passed ToClient place (response id outcome))
reply_keeps before place id outcome one = λ e. refl

-- `initialize` has its result
abbrev pub HasBegun : Log → Type 0
HasBegun log = is_some (initialize_result log) ≡ true

pub begun_more : (before : Log) (p : Passed) → HasBegun before → HasBegun (p ∷ before)
begun_more before p begun = by (answers_initialize before p && is_success p.message)
  where
    by : (b : Bool) → is_some (cond b (Some p.place) (initialize_result before)) ≡ true
    by true = refl
    by false = begun

pub begun_keeps : (before : Log) (place : ℕ) (m : Message) → HasBegun before
    → KeepsLifecycle before (passed ToClient place m)
begun_keeps before place (response id outcome) begun = λ e. refl
begun_keeps before place (request id method params) begun = λ e. ap (λ b. cond (b || (is_some (initializing before)
    && (tells_opening before (request id method params) || is_early (request id method params)))) None
    (Some (BeforeResult, initializing before))) begun
begun_keeps before place (notification method params) begun = λ e. ap (λ b. cond (b || (is_some (initializing before)
    && (tells_opening before (notification method params) || is_early (notification method params)))) None
    (Some (BeforeResult, initializing before))) begun

begun_step : (before : Log) (place : ℕ) (m : Message) → HasBegun before
    → KeepsLifecycle before (passed ToClient place m)
    × HasBegun (passed ToClient place m ∷ before)
begun_step before place m begun = (begun_keeps before place m begun, begun_more before (passed ToClient place m) begun)

begun_after_client : (ms : List Message) (old new : Log) → Pass ToServer ms old new → HasBegun old → HasBegun new
begun_after_client [] old new passes begun = subst HasBegun (sym passes) begun
begun_after_client (m ∷ ms) old new passes begun = begun_after_client ms (passed ToServer passes.0 m ∷ old) new passes.1
    (begun_more old (passed ToServer passes.0 m) begun)

begun_session : (xs : List Exchange) (old new : Log) → PassSession xs old new → HasBegun old → ServerKeepsLifecycle old
    → ServerKeepsLifecycle new
begun_session [] old new passes begun keeps = subst ServerKeepsLifecycle (sym passes) keeps
begun_session (x ∷ xs) old new passes begun keeps =
    let ms = option_to_list x.came in
    let came = after_client KeepsLifecycle client_keeps ms old passes.0 passes.2 keeps in
    let sent = after_server KeepsLifecycle client_keeps HasBegun begun_step (offered x) passes.0 passes.1 passes.3
    (begun_after_client ms old passes.0 passes.2 begun) came in
    begun_session xs passes.1 new passes.4 sent.1 sent.0

-- the exchange that gives `initialize` its result
begins : (i : Id) (method : List ℕ) (params result : _) (asked replied : ℕ) (old : Log) → Quiet old
    → bytes_eq method (codes "initialize") ≡ true
    → HasBegun (passed ToClient replied (response i (Ok result)) ∷ passed ToServer asked
    (request i method params) ∷ old)
begins i method params result asked replied old quiet is =
    let p : Passed = passed ToServer asked (request i method params) in
    let kept : Open = request_of ToServer asked i method params in
    let found : waiting ToServer i (p ∷ old) ≡ Some kept = waiting_is ToServer i (p ∷ old)
    ∙ ap first (queue_request ToServer i ToServer asked old i method params
    ∙ ap (λ xs. xs ++ cond (same_id i i) (kept ∷ []) []) (quiet i)
    ∙ ap (λ b. cond b (kept ∷ []) []) (same_own i)) in
    ap (λ (b : Bool). is_some (cond (b && true) (Some replied) (initialize_result (p ∷ old))))
    (ap (is_some_such opens_session) found ∙ is)

abbrev replied_keeps : (xs : List Exchange) (new : Log) → AllReplied xs → PassSession xs [] new
    → ServerKeepsLifecycle new × Quiet new
replied_keeps xs new all passes = all_exchanged KeepsLifecycle client_keeps reply_keeps xs [] new all passes quiet_first
    (at_each_none KeepsLifecycle)

begun_at : (early : List Exchange) (log : Log) → EndsWithResult early → AllReplied early → PassSession early [] log
    → HasBegun log
begun_at early log ends all passes =
    let parts = pass_split ends.before _ [] log (subst (λ xs. PassSession xs [] log) ends.cut passes) in
    let quiet = (replied_keeps ends.before parts.0 (front_replied ends.before _
    (subst AllReplied ends.cut all)) parts.1).1 in
    let end = parts.2 in
    let came = subst (λ (c : Option Message). Pass ToServer (option_to_list c) parts.0 end.0) ends.came end.2 in
    let sent = subst (λ (ms : List Message). Pass ToClient ms end.0 end.1) ends.gets end.3 in
    subst HasBegun (sym (end.4 ∙ sent.1 ∙ ap (λ l. passed ToClient sent.0 (response ends.id
    (Ok ends.result)) ∷ l) came.1))
    (begins ends.id ends.method ends.params ends.result came.0 sent.0 parts.0 quiet ends.asks)

unstarted_keeps : (rest : List Exchange) (stop : Stop) (answer : SessionAnswer) (old new : Log)
    → IsUnstarted rest stop answer → PassSession rest old new → ServerKeepsLifecycle old → ServerKeepsLifecycle new
unstarted_keeps [] stop answer old new is passes keeps = subst ServerKeepsLifecycle (sym passes) keeps
unstarted_keeps (x ∷ rest) stop answer old new is passes keeps =
    let came = after_client KeepsLifecycle client_keeps (option_to_list x.came) old passes.0 passes.2 keeps in
    let none : passes.1 ≡ passes.0 = subst (λ ms. Pass ToClient ms passes.0 passes.1) is.2 passes.3 in
    let last : new ≡ passes.1 = subst (λ xs. PassSession xs passes.1 new) is.0 passes.4 in
    subst ServerKeepsLifecycle (sym (last ∙ none)) came

pub server_keeps_lifecycle : (passes_late speaks_last : Bool) (exchanges : List Exchange) (stop : Stop)
    (answer : SessionAnswer) (log : Log)
    → KeepsOrder passes_late speaks_last exchanges stop answer → IsLogOfSession exchanges log
    → ServerKeepsLifecycle log
server_keeps_lifecycle passes_late speaks_last exchanges stop answer log order passes =
    let parts = pass_split order.early order.rest [] log (subst (λ xs. PassSession xs [] log) order.cut passes) in
    let first = replied_keeps order.early parts.0 order.replied parts.1 in
    by parts.0 parts.1 parts.2 first.0 order.opened
  where
    by : (mid : Log) → PassSession order.early [] mid → PassSession order.rest mid log → ServerKeepsLifecycle mid
        → IsOpened passes_late speaks_last order.early order.rest stop answer
        ⊎ (AllRefused order.early × AllEarly order.early × IsUnstarted order.rest stop answer)
        → ServerKeepsLifecycle log
    by mid early rest keeps (inl opened) = begun_session order.rest mid log rest
        (begun_at order.early mid opened.ends order.replied early) keeps
    by mid early rest keeps (inr unstarted) = unstarted_keeps order.rest stop answer mid log unstarted.2 rest keeps
