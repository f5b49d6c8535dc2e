-- Runs of a server that keep no laws: replies that nobody asked for, requests that nobody answers, and replies of the
-- client that come to the server with another payload than their own; and wakes at which it does otherwise than it
-- states.
use Rattle.lsp_message.specs.Id.{Id, id_cmp, number}
use Rattle.lsp_message.specs.IdLaws.{id_decides}
use Rattle.lsp_message.specs.Message.{Message, ErrorObject, request, notification, response}
use Rattle.lsp_message.specs.Methods.{is_initialize}
use Rattle.lsp_queue.specs.Queue.{Pending}
use Rattle.lsp_acts.proofs.Acting.{acts_at}
use Rattle.lsp_acts.specs.Acts.{Act, asks, tells, Queues, cancelled_by, does, empty_queues, ends_all, released, stays}
use Rattle.lsp_acts.specs.Acts.{replies}
use Rattle.lsp_acts.specs.AtOnce.{AnswersEach, LeavesNone}
use Rattle.lsp_acts.specs.Law.{one_if, acts_of, all_sent, kept_under, was_given, is_reply_under, is_request_under}
use Rattle.lsp_acts.specs.Law.{how_many, held_under, AnswersCancelled, AnswersLast, NeverMore, OnceOrEnded}
use Rattle.lsp_acts.specs.Law.{GetsShutdownReply}
use Rattle.lsp_acts.specs.Law.{WasToSend, Call, SendsActs, TakesCalls, TakesPart, GivesOwnPayloads, KeepsLaws}
use Rattle.lsp_acts.specs.ServerApplication.{with_queues, ServerSession, WorksSending}
use Rattle.lsp_acts.specs.declared.server.Server.{Ghosts as Stated}
use Rattle.lsp_acts.specs.SentByActs.{ActsAtShutdown, all_sends, acts_done_at, cancelled_answer, queues_at}
use Rattle.lsp_acts.specs.View.{seen}
use Rattle.lsp_acts.specs.declared.server_application.ServerApplication.{ServerApplication}
use Rattle.lsp_session.proofs.Ran.{Ran, StepCase, row, at_initialize, at_initialized, at_served, at_woken, at_shutdown}
use Rattle.lsp_session.proofs.Ran.{idle, ran, no_one}
use Rattle.lsp_session.proofs.Refused.{served_first}
use Rattle.lsp_session.specs.Session.{Exchange, messages_of, sends_of, SessionAnswer, Stop, decided, exhausted, Phase}
use Rattle.lsp_session.specs.Session.{starting, no_more, offered}
use Rattle.lsp_session.specs.declared.loops.handler.SessionEnd.{SessionEnd}
use Rattle.lsp_session.specs.declared.loops.handler.SessionEnd.TheVariants.{Closed}
use Rattle.serde_json.specs.Data.{Data}
use Rattle.std.proofs.Common.{◌≡◌, refl, sym, ◌∙◌, ap, subst, inl, inr, ℕ, ◌+◌, ◌≤◌, Bool, true, false, List, [], ◌∷◌}
use Rattle.std.proofs.Common.{◌++◌, append_assoc, arith, Option, Some, None}
use Rattle.std.specs.Ordering.{eq_by_cmp}
use Rattle.std.specs.FinMap.{get-empty}
use Rattle.std.specs.Prelude.{Result, Ok, codes, pos, is_some, ◌||◌, if◌then◌else◌}

-- an id is itself
same : (id : Id) → eq_by_cmp id_cmp id id ≡ true
same id = (id_decides id id).1 refl

-- one reply under an id is one
replies_one : (id : Id) (outcome : Result Data ErrorObject) → how_many (is_reply_under id) (response id outcome
    ∷ []) ≡ 1
replies_one id outcome = ap (λ (b : Bool). one_if b + 0) (same id)

-- a request under this id, for which this is sent
abbrev asked : Id → List ℕ → Data → List Message → Exchange
asked id method params sent = record { came = Some (request id method params); sent = sent; not_sent = None }

-- ---- no more replies than requests

-- a reply goes out for a notification that comes first
pub replies_to_nobody : (id : Id) (method : List ℕ) (params : Data) (outcome : Result Data ErrorObject)
    (more : List Exchange)
    → NeverMore id (record {
      came = Some (notification method params);
      sent = response id outcome ∷ [];
      not_sent =
          None;
    } ∷ more) → ⊥
replies_to_nobody id method params outcome more never =
    let none : 1 ≤ 0 = subst (λ (n : ℕ). n ≤ 0) (replies_one id outcome)
    (never (record { came = Some (notification method params); sent = response id outcome ∷ []; not_sent = None } ∷
    []) more refl) in
    omega (arith, none)

-- a reply goes out at a wake, and no request has come
pub replies_woken : (id : Id) (outcome : Result Data ErrorObject) (more : List Exchange)
    → NeverMore id (record { came = None; sent = response id outcome ∷ []; not_sent = None } ∷ more) → ⊥
replies_woken id outcome more never =
    let none : 1 ≤ 0 = subst (λ (n : ℕ). n ≤ 0) (replies_one id outcome) (never (record {
      came = None;
      sent = response
          id outcome ∷ [];
      not_sent = None;
    } ∷ []) more refl) in
    omega (arith, none)

-- one request gets two replies
pub replies_twice : (id : Id) (method : List ℕ) (params : Data) (first second : Result Data ErrorObject)
    (more : List Exchange)
    → NeverMore id (asked id method params (response id first ∷ response id second ∷ []) ∷ more) → ⊥
replies_twice id method params first second more never =
    let two : how_many (is_reply_under id) (response id first ∷ response id second ∷ [])
    ≡ 2 = ap (λ (b : Bool). one_if b + (one_if b + 0)) (same id) in
    let once : how_many (is_request_under id) (request id method params ∷ []) ≡ 1 = ap (λ (b : Bool). one_if b + 0)
    (same id) in
    let few : 2 ≤ how_many (is_request_under id) (request id method params ∷ []) =
    subst (λ (n : ℕ). n ≤ how_many (is_request_under id) (request id method params ∷ [])) two
    (never (asked id method params (response id first ∷ response id second ∷ []) ∷ []) more refl) in
    let over : 2 ≤ 1 = subst (λ (n : ℕ). 2 ≤ n) once few in
    omega (arith, over)

-- ---- exactly one, or still held

-- a request has no reply, it is not held, and the session ended well
pub never_replies : (id : Id) (exchanges : List Exchange) (stop : Stop) (held : Pending (Unit {0})) (end : SessionEnd)
    → how_many (is_reply_under id) (sends_of exchanges) ≡ 0 → held_under id held ≡ 0 → OnceOrEnded id exchanges stop
    held (Ok end) → ⊥
never_replies id exchanges stop held end none free (inl one) = let e : 0 ≡ 1 = sym none ∙ one in cc (e)
never_replies id exchanges stop held end none free (inr (nothing, inl kept)) = let e : 0 ≡ 1 = sym free ∙ kept in cc (e)
never_replies id exchanges stop held end none free (inr (nothing, inr ended)) = ended.2

-- a request whose id was used once has two replies
pub replies_again : (id : Id) (exchanges : List Exchange) (stop : Stop) (held : Pending (Unit {0}))
    (answer : SessionAnswer)
    → how_many (is_reply_under id) (sends_of exchanges) ≡ 2 → OnceOrEnded id exchanges stop held answer → ⊥
replies_again id exchanges stop held answer two (inl one) = let e : 2 ≡ 1 = sym two ∙ one in cc (e)
replies_again id exchanges stop held answer two (inr rest) = let e : 2 ≡ 0 = sym two ∙ rest.0 in cc (e)

-- the last request under an id has no reply, it is not held, and the session ended well, whether or not the id was used
-- before
pub drops_last : (id : Id) (method : List ℕ) (params : Data) (sent : List Message) (before since : List Exchange)
    (stop : Stop) (held : Pending (Unit {0})) (end : SessionEnd)
    → how_many (is_request_under id) (messages_of since) ≡ 0 → how_many (is_reply_under id)
    (sends_of (asked id method params sent ∷ since)) ≡ 0
    → held_under id held ≡ 0 → AnswersLast id (before ++ asked id method params sent ∷ since) stop held (Ok end) → ⊥
drops_last id method params sent before since stop held end none silent free answers =
    never_replies id (asked id method params sent ∷ since) stop held end silent free (answers before (asked id method
    params sent) since refl (same id) none)

-- a request is cancelled, it has no reply after that, and the session ended well
pub leaves_cancelled : (id : Id) (method given : List ℕ) (params cancel : Data) (before later : List Exchange)
    (stop : Stop) (end : SessionEnd)
    → cancelled_by given cancel ≡ Some id
    → AnswersCancelled id (before ++ asked id method params [] ∷ record {
      came = Some (notification given cancel);
      sent = [];
      not_sent = None;
    } ∷ later) stop (Ok end) → ⊥
leaves_cancelled id method given params cancel before later stop end cancels answers =
    elim (answers (before ++ asked id method params [] ∷ []) cancelling later (sym (append_assoc before (asked id method
    params [] ∷ []) (cancelling ∷ later))) cancels before (asked id method params []) [] refl (same id) refl) [
      | inl one ↦ cc (one)
      | inr ends ↦ ends.1
    ]
  where
    cancelling : Exchange
    cancelling = record { came = Some (notification given cancel); sent = []; not_sent = None }

-- ---- `shutdown`

-- A request came, it has no reply, and `shutdown` got its reply: the session left somebody waiting.
pub leaves_waiting : {S P : Type 0} (may : Stated S P) (first last : S) (held : Pending (Unit {0})) (id : Id)
    (method : List ℕ) (params : Data) (sent : List Message) (before since : List Exchange)
    (end : SessionEnd) → how_many (is_request_under id) (messages_of since) ≡ 0
    → how_many (is_reply_under id) (sends_of (asked id method params sent ∷ since)) ≡ 0
    → GetsShutdownReply (before ++ asked id method params sent ∷ since)
    → KeepsLaws may first last held (before ++ asked id method params sent ∷ since) decided (Ok end) → ⊥
leaves_waiting may first last held id method params sent before since end none silent replied laws =
    drops_last id method params sent before since decided held end none silent
    (ap (held_under id) (laws.none_held (subst GetsShutdownReply (sym laws.to_send) replied)) ∙ ap (λ o. one_if
    (is_some o)) (get-empty id_cmp id))
    (subst (λ l. AnswersLast id l decided held (Ok end)) laws.to_send (laws.once (λ e. cc (e)) id))

-- The server states that it tells something last, and nothing is sent before the reply to `shutdown`.
pub parts_silently : {S P : Type 0} (may : Stated S P) (old new : S × Queues P) (id : Id)
    → ((old new : S) (acts : List (Act P)) → may.shutdown_post old acts new → (method : List ℕ) × (params : Data)
    × (more : List (Act P)) × (acts ≡ tells method params ∷ more))
    → ActsAtShutdown may old id [] new → ⊥
parts_silently may old new id tells_first at =
    let first = tells_first old.0 at.did at.acts at.stated in
    let e : [] ≡ old.1.sent ++ all_sends (released old.1 id) (tells first.0 first.1 ∷ (first.2 ++ ends_all at.ids)) =
    at.sent ∙ ap (λ (acts : List (Act _)). old.1.sent ++ all_sends (released old.1 id) (acts ++ ends_all at.ids))
    first.3 in
    no_one old.1.sent _ (notification first.0 first.1) (sym e)

-- ---- replies of the client

module _ {P : Type 0} where
  -- a reply came, and the server was given this with it
  abbrev given : Id → Result Data ErrorObject → Option P → List (Act P) → Call P
  given id outcome payload acts = record { came = Some (response id outcome); payload = payload; acts = acts }

  -- the server is given a payload, and it has asked for nothing
  pub given_unasked : (id : Id) (outcome : Result Data ErrorObject) (payload : P) (acts : List (Act P))
      (more : List (Call P))
      → GivesOwnPayloads [] (given id outcome (Some payload) acts ∷ more) → ⊥
  given_unasked id outcome payload acts more gives =
      let e : Some payload ≡ None = gives [] more (given id outcome (Some payload) acts) id refl (same id) in
      cc (e)

  -- the server is given a payload for the second reply under an id
  pub given_twice : (id : Id) (first second : Result Data ErrorObject) (one two : P) (begun acts others : List (Act P))
      (more : List (Call P))
      → GivesOwnPayloads begun (given id first (Some one) acts ∷ given id second (Some two) others ∷ more) → ⊥
  given_twice id first second one two begun acts others more gives =
      let before : List (Call P) = given id first (Some one) acts ∷ [] in
      let over : was_given id before ≡ true = ap (λ (b : Bool). b || false) (same id) in
      let e : Some two ≡ None = subst (λ (b : Bool). Some two ≡ (if b then None else kept_under id (all_sent 0 (begun
      ++ acts_of before)))) over
      (gives before more (given id second (Some two) others) id refl (same id)) in
      cc (e)

  -- what the server asked first comes back with the payload of another, or with none
  pub given_another : (outcome : Result Data ErrorObject) (method : List ℕ) (params : Data) (own : P) (payload : Option
      P) (acts : List (Act P)) (more : List (Call P))
      → (payload ≡ Some own → ⊥) → GivesOwnPayloads (asks method params own ∷ []) (given (number (pos 0)) outcome
      payload acts ∷ more) → ⊥
  given_another outcome method params own payload acts more other gives =
      other (gives [] more (given (number (pos 0)) outcome payload acts) (number (pos 0)) refl refl)

-- ---- wakes

module _ {S P : Type 0} (may : Stated S P) where
  -- a wake came, and the server did nothing, though it states that it acts
  pub does_nothing_woken : ((old new : S) → may.woken_post old [] new → ⊥) → (count : ℕ) (old new : S)
      (payload : Option P)
      (more : List (Call P))
      → TakesCalls may count old (record { came = None; payload = payload; acts = [] } ∷ more) new → ⊥
  does_nothing_woken acts count old new payload more took = acts old took.0 took.2.0

  -- at each wake the server states that it tells something first
  module _ (tells_first : (old new : S) (acts : List (Act P)) → may.woken_post old acts new → (method : List ℕ)
      × (params : Data) × (more : List (Act P)) × (acts ≡ tells method params ∷ more)) where
    -- at a wake nothing is sent
    silent_wake : (old new : S × Queues P) → WorksSending may old None [] new → ⊥
    silent_wake old new gives =
        let a = acts_at may old None [] new gives in
        let first = tells_first old.0 a.did a.acts a.handed.0 in
        let e : [] ≡ old.1.sent ++ all_sends old.1 (tells first.0 first.1 ∷ first.2) = a.sent
        ∙ ap (λ (acts : List (Act P)). old.1.sent ++ all_sends old.1 acts) first.3 in
        no_one old.1.sent _ (notification first.0 first.1) (sym e)

    silent_among : (before after : List Exchange) (p q : Phase) (w w' : ServerApplication S P)
        → Ran (with_queues may) p w (before ++ record { came = None; sent = []; not_sent = None } ∷ after) q w' → ⊥
    silent_among [] after p q w w' run = by (row (with_queues may) p run.4 w run.5 None run.0 run.6)
      where
        by : StepCase (with_queues may) p w None run.0 run.4 run.5 → ⊥
        by (at_initialize i method params outcome here there is_asked gave sent next) = cc (there)
        by (at_initialized m here there is gave next) = cc (there)
        by (at_served m here there is gave next) = cc (there)
        by (at_woken here none gave next) =
            silent_wake (seen w) (seen run.5) (subst (λ (sent : List Message). WorksSending may (seen w) None sent
            (seen run.5)) (run.3 refl) gave)
        by (at_shutdown i method params parting here there is gave output next) = cc (there)
        by (idle m there stays_so step idles) = cc (there)
    silent_among (x ∷ before) after p q w w' run = silent_among before after run.4 q run.5 w' run.8

    -- a session in which a wake came, and nothing was sent for it
    pub sleeps : (first last : S) (before after : List Exchange) (stop : Stop) (answer : SessionAnswer)
        → ServerSession may first last (before ++ record { came = None; sent = []; not_sent = None } ∷ after) stop
        answer → ⊥
    sleeps first last before after stop answer session =
        let out = session.out in
        let way = ran (with_queues may) starting out.last session.old out.after _ out.reached in
        silent_among before after starting way.0 session.old out.after way.1

-- ---- acts that are not sent, or not in their place

module _ {S P : Type 0} (may : Stated S P) (method : List ℕ) (params : Data) (more : List (Act P)) where
  -- what is done first is sent first
  done_first : (came : Option Message) → (rest : List (Act P)) × (acts_done_at came (tells method params ∷ more)
      ≡ tells method params ∷ rest)
  done_first None = (more, refl)
  done_first (Some (request i name given)) = (more, refl)
  done_first (Some (notification name given)) = (more ++ cancelled_answer (cancelled_by name given), refl)
  done_first (Some (response i outcome)) = (more, refl)

  -- the server tells something at a message or a wake, and nothing is sent there, whatever is sent later
  pub tells_too_late : (old new : S × Queues P) (came : Option Message) (call : Call P) (calls : List (Call P))
      (xs : List Exchange)
      → call.acts ≡ tells method params ∷ more
      → SendsActs may old (call ∷ calls) (record { came = came; sent = []; not_sent = None }
      ∷ xs) new → ⊥
  tells_too_late old new came call calls xs did sends =
      let at = sends.1 in
      let first = done_first came in
      let acts : at.acts ≡ tells method params ∷ more = sym (ap (λ (c : Call P). c.acts) sends.2) ∙ did in
      let done : acts_done_at came at.acts ≡ tells method params ∷ first.0 = ap (acts_done_at came) acts ∙ first.1 in
      no_one old.1.sent (all_sends (does (queues_at old.1 came at.payload) (tells method params)) first.0)
      (notification method params)
      (sym (at.sent ∙ ap (λ l. old.1.sent ++ all_sends (queues_at old.1 came at.payload) l) done))

  -- the server tells something at `initialized`, and nothing is sent there
  pub opens_silently : (start last : S) (opening : Exchange) (later : List Exchange) → offered opening ≡ []
      → (part : TakesPart may start last opening later) → part.begun ≡ tells method params ∷ more → ⊥
  opens_silently start last opening later silent part did =
      let e : [] ≡ notification method params ∷ all_sends (does empty_queues (tells method params)) more = sym silent
      ∙ part.opened ∙ ap (all_sends empty_queues) did in
      cc (e)

-- a server that waits for nothing did something at a wake
pub acts_unwoken : {S P : Type 0} (may : Stated S P) → ((old new : S) (acts : List (Act P)) → may.woken_post old acts
    new
    → stays old acts new)
    → (count : ℕ) (old new : S) (payload : Option P) (act : Act P) (acts : List (Act P)) (more : List (Call P))
    → TakesCalls may count old (record { came = None; payload = payload; acts = act ∷ acts } ∷ more) new → ⊥
acts_unwoken may waits count old new payload act acts more took = cc ((waits old took.0 (act ∷ acts) took.2.0).0)

-- ---- all of it

module _ {S P : Type 0} (may : Stated S P) (first last : S) (held : Pending (Unit {0})) (exchanges more : List Exchange)
    (stop : Stop) (answer : SessionAnswer) where
  -- before `initialize` a request gets a result
  pub serves_first : (id : Id) (method : List ℕ) (params result : Data) → is_initialize (request id method
      params) ≡ false
      → KeepsLaws may first last held (asked id method params (response id (Ok result) ∷ []) ∷ more) stop answer → ⊥
  serves_first id method params result other laws = served_first true true stop answer id method params
      result more other laws.order

  -- a request gets its result, a second one under the same id gets nothing and is not held, and then `exit` comes
  pub drops_reused : (id : Id) (method : List ℕ) (params result given : Data) → held_under id held ≡ 0 → stop ≡ decided
      → answer ≡ Ok Closed
      → KeepsLaws may first last held (more ++ asked id method params (response id (Ok result) ∷ [])
      ∷ asked id method params []
      ∷ record { came = Some (notification (codes "exit") given); sent = []; not_sent = None } ∷ []) stop answer → ⊥
  drops_reused id method params result given free decides closes laws =
      drops_last id method params [] (more ++ answered ∷ []) (exit ∷ []) decided held Closed refl refl free
      (subst (λ l. AnswersLast id l decided held (Ok Closed)) cut
      (subst (λ by. AnswersLast id laws.all decided held by) closes (subst (λ by. AnswersLast id laws.all by held
      answer) decides (laws.once enough id))))
    where
      answered : Exchange
      answered = asked id method params (response id (Ok result) ∷ [])

      exit : Exchange
      exit = record { came = Some (notification (codes "exit") given); sent = []; not_sent = None }

      enough : stop ≡ exhausted → ⊥
      enough out = let e : decided ≡ exhausted = sym decides ∙ out in cc (e)

      cut : laws.all ≡ (more ++ answered ∷ []) ++ asked id method params [] ∷ exit ∷ []
      cut = subst (λ by. WasToSend by (more ++ answered ∷ asked id method params [] ∷ exit ∷ []) laws.all) decides
          laws.to_send
          ∙ sym (append_assoc more (answered ∷ []) (asked id method params [] ∷ exit ∷ []))

  -- the server is left in a state that its last exchange did not lead to
  pub forgets : (stop ≡ exhausted → ⊥) → (laws : KeepsLaws may first last held exchanges stop answer)
      → (last ≡ laws.after → ⊥) → ⊥
  forgets enough laws other = elim laws.kept [ inl ran ↦ enough ran | inr kept ↦ other kept ]

-- ---- a server that answers each request at once

-- it does nothing at a request, replies twice, or replies to another request
module _ (P : Type 0) (id : Id) where
  pub does_nothing : AnswersEach {P = P} [] id → ⊥
  does_nothing each = each

  pub answers_twice : (one other : Result Data ErrorObject)
      → AnswersEach {P = P} (replies id one ∷ replies id other ∷ []) id → ⊥
  answers_twice one other each = each.1

  pub answers_another : (other : Id) (outcome : Result Data ErrorObject) → (other ≡ id → ⊥)
      → AnswersEach {P = P} (replies other outcome ∷ []) id → ⊥
  answers_another other outcome differs each = differs each.0

-- a request comes, and nothing is sent
pub leaves_one : (id : Id) (method : List ℕ) (params : Data) (answer : SessionAnswer)
    → LeavesNone (asked id method params [] ∷ []) no_more answer → ⊥
leaves_one id method params answer none = elim (none.once tt id (ap (λ (b : Bool). one_if b + 0) (same id))) [
  | inl one ↦ absurd (omega (arith, one))
  | inr ends ↦ absurd (cc (ends.1.1))
]
