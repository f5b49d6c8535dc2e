-- Wrong runs whose logs the laws do not let pass.
use Rattle.std.proofs.Common.{ℕ, ◌≡◌, List, [], ◌∷◌, ◌++◌, sym, ◌∙◌, String, Global, Some, None, Ok, codes, pos, refl}
use Rattle.std.specs.Prelude.{string_bytes}
use Rattle.serde_json.specs.Data.{null}
use Rattle.serde_json.specs.View.{view}
use Rattle.serde_json.specs.declared.value.Value.{Value}
use Rattle.lsp_message.specs.Id.{number}
use Rattle.lsp_message.specs.Message.{Message, request, notification, response}
use Rattle.lsp_peers.specs.History.{Entry}
use Rattle.lsp_peers.specs.HistoryLaw.{bare}
use Rattle.lsp_peers.specs.Ids.{nth_id}
use Rattle.lsp_peers.specs.declared.step.Outcome.TheVariants.{Registered, Answered}
use Rattle.lsp_peers.specs.declared.step.Side.TheVariants.{A, B}
use Rattle.lsp_peers.specs.declared.step.Step.TheVariants.{Register, Answer}
use Rattle.lsp_session.specs.Session.{Exchange, messages_of}
use Rattle.lsp_watch.specs.Log.{Log, passed}
use Rattle.lsp_watch.specs.declared.direction.Direction.TheVariants.{ToServer, ToClient}
use Rattle.lsp_watched.specs.Peers.{IsLogOf, KeepsIds}
use Rattle.lsp_watched.specs.Recorded.{IsRecorded}
use Rattle.lsp_watched.specs.Sessions.{IsLogOfSession, ClientKeepsIds, ServerIsClean, ServerKeepsLifecycle}
use Rattle.lsp_watched.specs.Sessions.{ServerRepliesFit}
use Rattle.lsp_watched.proofs.Recorded.{IsSentOf}
use Rattle.lsp_watched.proofs.Waits.{at_each_none, at_each_more}

-- ---- two peers: A asks, and B answers

module _ (method : String Global) (params value : Value) (label : ℕ) where
  abbrev asks : Entry
  asks = bare (Register A method params 7) (Registered (nth_id 0))

  abbrev answers : Entry
  answers = bare (Answer B (nth_id 0) value) (Answered label)

  abbrev question : Message
  question = request (nth_id 0) (string_bytes method) (view params)

  abbrev reply : Message
  reply = response (nth_id 0) (Ok (view value))

  abbrev asked : Log
  asked = passed ToServer 1 question ∷ []

  abbrev answered : Log
  answered = passed ToClient 2 reply ∷ asked

  -- B answers before it is asked
  unasked : IsLogOf A (answers ∷ []) (passed ToClient 1 reply ∷ [])
      × (KeepsIds (passed ToClient 1 reply ∷ []) → ⊥)
  unasked = ((passed ToClient 1 reply ∷ [], (1, refl), refl), λ keeps. let none = keeps [] [] _ refl in cc)

  -- B answers twice
  two_replies : IsLogOf A (asks ∷ answers ∷ answers ∷ []) (passed ToClient 3 reply ∷ answered)
      × (KeepsIds (passed ToClient 3 reply ∷ answered) → ⊥)
  two_replies = (
    (asked, (1, refl), (answered, (2, refl), (passed ToClient 3 reply ∷ answered, (3, refl), refl))),
    λ keeps. let none = keeps [] answered _ refl in cc,
  )

  -- A asks twice under one id
  two_requests : IsLogOf A (asks ∷ asks ∷ []) (passed ToServer 2 question ∷ asked)
      × (KeepsIds (passed ToServer 2 question ∷ asked) → ⊥)
  two_requests = (
    (asked, (1, refl), (passed ToServer 2 question ∷ asked, (2, refl), refl)),
    λ keeps. let none = keeps [] asked _ refl in cc,
  )

-- ---- a session

abbrev initialize : Message
initialize = request (number (pos 1)) (codes "initialize") null

abbrev result : Message
result = response (number (pos 1)) (Ok null)

abbrev note : Message
note = notification (codes "demo/note") null

abbrev exchange : List Message → Exchange
exchange sent = record { came = Some initialize; sent = sent; not_sent = None }

abbrev begun : Log
begun = passed ToServer 1 initialize ∷ []

abbrev answered_once : Log
answered_once = passed ToClient 2 result ∷ begun

-- a request gets two replies
replied_twice : IsLogOfSession (exchange (result ∷ result ∷ []) ∷ []) (passed ToClient 3 result ∷ answered_once)
    × (ServerIsClean (passed ToClient 3 result ∷ answered_once) → ⊥)
    × (ServerRepliesFit (passed ToClient 3 result ∷ answered_once) → ⊥)
replied_twice = (
  (begun, passed ToClient 3 result ∷ answered_once, (1, refl), (2, (3, refl)), refl),
  λ clean. let none = clean [] answered_once _ refl refl in cc,
  λ fits. let none = fits [] answered_once _ refl refl refl in cc,
)

abbrev asked_again : Log
asked_again = passed ToServer 2 initialize ∷ begun

-- A client that reuses an id before the reply may get two replies under it, one for each request. It does not keep its
-- ids.
reused : IsLogOfSession (exchange [] ∷ exchange (result ∷ result ∷ []) ∷ [])
    (passed ToClient 4 result ∷ passed ToClient 3 result ∷ asked_again)
    × (ClientKeepsIds asked_again → ⊥)
reused = (
  (
    begun,
    begun,
    (1, refl),
    refl,
    (
      asked_again,
      passed ToClient 4 result ∷ passed ToClient 3 result ∷ asked_again,
      (2, refl),
      (3, (4, refl)),
      refl,
    ),
  ),
  λ keeps. let none = keeps [] begun _ refl refl in cc,
)

-- The session replies to each request before it takes the next. A recorder sees both requests first, and the second
-- reply finds none: that is why the laws of what a recorder sees ask for such a client too.
abbrev two_in_turn : List Exchange
two_in_turn = exchange (result ∷ []) ∷ exchange (result ∷ []) ∷ []

reused_ahead : IsRecorded two_in_turn (passed ToClient 4 result ∷ passed ToClient 3 result ∷ asked_again)
    × (ClientKeepsIds asked_again → ⊥)
reused_ahead = (
  at_each_more (IsSentOf two_in_turn) (passed ToClient 4 result) (passed ToClient 3 result ∷ asked_again)
      (λ direction. record {
        earlier = exchange (result ∷ []) ∷ [];
        exchange = exchange (result ∷ []);
        later = [];
        cut = refl;
        first = [];
        rest = [];
        sends = refl;
        sent = refl;
        ahead = [];
        took = refl;
      }) (at_each_more (IsSentOf two_in_turn) (passed ToClient 3 result) asked_again (λ direction. record {
        earlier = [];
        exchange = exchange (result ∷ []);
        later = exchange (result ∷ []) ∷ [];
        cut = refl;
        first = [];
        rest = [];
        sends = refl;
        sent = refl;
        ahead = initialize ∷ [];
        took = refl;
      }) (at_each_more (IsSentOf two_in_turn) (passed ToServer 2 initialize) begun (λ direction. cc)
      (at_each_more (IsSentOf two_in_turn) (passed ToServer 1 initialize) [] (λ direction. cc)
      (at_each_none (IsSentOf two_in_turn))))),
  λ keeps. let none = keeps [] begun _ refl refl in cc,
)

-- The session sends no message before it took what it is sent for.
sent_ahead : IsRecorded (exchange (result ∷ []) ∷ []) (passed ToClient 1 result ∷ []) → ⊥
sent_ahead recorded =
    let at = recorded [] [] (passed ToClient 1 result) refl refl in
    nothing_took at.earlier at.exchange at.ahead at.later at.cut at.took
  where
    nothing_took : (earlier : List Exchange) (x : Exchange) (ahead : List Message) (later : List Exchange)
        → exchange (result ∷ []) ∷ [] ≡ earlier ++ x ∷ later
        → [] ≡ messages_of (earlier ++ x ∷ []) ++ ahead → ⊥
    nothing_took [] x ahead later cut took =
        let same : exchange (result ∷ []) ≡ x = cc in
        let none : [] ≡ initialize ∷ ahead = took ∙ (λ k. messages_of (sym same k ∷ []) ++ ahead) in cc
    nothing_took (y ∷ []) x ahead later cut took = cc
    nothing_took (y ∷ z ∷ earlier) x ahead later cut took = cc

-- a notification comes before the result of `initialize`
speaks_early : IsLogOfSession (exchange (note ∷ result ∷ []) ∷ [])
    (passed ToClient 3 result ∷ passed ToClient 2 note ∷ begun)
    × (ServerKeepsLifecycle (passed ToClient 3 result ∷ passed ToClient 2 note ∷ begun) → ⊥)
speaks_early = (
  (begun, passed ToClient 3 result ∷ passed ToClient 2 note ∷ begun, (1, refl), (2, (3, refl)), refl),
  λ keeps. let none = keeps (passed ToClient 3 result ∷ []) begun _ refl refl in cc,
)
