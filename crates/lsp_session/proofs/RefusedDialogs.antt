-- Runs in which a session and its client wait for each other, and accounts that are in no order.
use Rattle.lsp_message.specs.Id.{Id}
use Rattle.lsp_message.specs.Message.{Message, request, notification}
use Rattle.lsp_session.proofs.ActsNoted.{waited_in, taken_noted, refused_grows, grows_both, turns_grow, end_grows}
use Rattle.lsp_session.specs.Account.{Act, gave, took, lost, InOrder}
use Rattle.lsp_session.specs.Answered.{RepliesTo, requests_of}
use Rattle.lsp_session.specs.Boxes.{is_timeout}
use Rattle.lsp_session.specs.Dialog.{Client, NeverBothWait, WaitsForReplies}
use Rattle.lsp_session.specs.Event.{Event, message, timeout, closed, woken}
use Rattle.lsp_session.specs.Session.{Exchange, SessionAnswer, Stop, starting, request_id}
use Rattle.serde_json.specs.Data.{Data}
use Rattle.std.proofs.Common.{◌≡◌, refl, sym, ◌∙◌, ap, ◌+◌, suc, ℕ, Bool, true, false, true≢false, List, [], ◌∷◌, ◌++◌}
use Rattle.std.proofs.Common.{length, length-append, map, arith, Option, Some}
use Rattle.std.proofs.lemmas.Bool.{eqb-true, eq-eqb}
use Rattle.std.proofs.lemmas.List.Elements.{filter_map-append}
use Rattle.std.specs.List.{AllZip, list_all}
use Rattle.std.specs.Prelude.{codes, eqb}

-- a client that goes on once it got as many messages as it sent requests
abbrev pub patient : Client
patient sent got = eqb (length (requests_of sent)) (length got)

same_length : (is : List Id) (ms : List Message) → AllZip RepliesTo is ms → length is ≡ length ms
same_length [] [] all = refl
same_length [] (m ∷ ms) all = absurd all
same_length (i ∷ is) [] all = absurd all
same_length (i ∷ is) (m ∷ ms) all = ap suc (same_length is ms all.1)

-- it waits for nothing but its replies
pub patient_waits : WaitsForReplies patient
patient_waits sent got replies = eq-eqb (length (requests_of sent)) (length got) (same_length (requests_of sent) got
    replies)

-- the transport took whatever was sent
abbrev is_kept : Act → Bool
is_kept (lost m) = false
is_kept act = true

module _ (i : Id) (method : List ℕ) (params : Data) where
  abbrev ask : Message
  ask = request i method params

  one_more : (sent : List Message) → length (requests_of (sent ++ ask ∷ [])) ≡ length (requests_of sent) + 1
  one_more sent = rw (filter_map-append request_id sent (ask ∷ []), length-append (requests_of sent) (i ∷ [])) refl

  never_both : (sent got : List Message) → patient sent got ≡ true → patient (sent ++ ask ∷ []) got ≡ true → ⊥
  never_both sent got first second =
      let a : length (requests_of sent) ≡ length got = eqb-true (length (requests_of sent)) (length got) first in
      let b : length (requests_of (sent ++ ask ∷ [])) ≡ length got = eqb-true (length (requests_of (sent ++ ask ∷ [])))
      (length got) second in
      let c : length (requests_of sent) + 1 ≡ length got = sym (one_more sent) ∙ b in
      omega (arith, a, c)

  -- A reply is held back: the request is read, and something else is awaited before its reply is sent. The client waits
  -- for ever.
  pub holds_a_reply_back : (sent got : List Message) (before : List Act) (event : Event) (after : List Act)
      → list_all is_kept before ≡ true
      → NeverBothWait patient sent got (before ++ gave (message ask) ∷ gave event ∷ after) → ⊥
  holds_a_reply_back sent got [] (message m) after kept never = never_both sent got never.0 never.1.0
  holds_a_reply_back sent got [] timeout after kept never = never_both sent got never.0 never.1.0
  holds_a_reply_back sent got [] closed after kept never = never_both sent got never.0 never.1.0
  holds_a_reply_back sent got [] woken after kept never = never_both sent got never.0 never.1.0
  holds_a_reply_back sent got (gave (message m) ∷ before) event after kept never = holds_a_reply_back (sent ++ m ∷ [])
      got before event after kept never.1
  holds_a_reply_back sent got (gave timeout ∷ before) event after kept never = holds_a_reply_back sent got before event
      after kept never.1
  holds_a_reply_back sent got (gave closed ∷ before) event after kept never = holds_a_reply_back sent got before event
      after kept never.1
  holds_a_reply_back sent got (gave woken ∷ before) event after kept never = holds_a_reply_back sent got before event
      after kept never.1
  holds_a_reply_back sent got (took m ∷ before) event after kept never = holds_a_reply_back sent (got ++ m ∷ []) before
      event after kept never
  holds_a_reply_back sent got (lost m ∷ before) event after kept never = true≢false (sym kept)

-- the result of `initialize` is held back until `initialized` comes
pub holds_the_result_back : (i : Id) (params given : Data) (result : Message) (after : List Act)
    → NeverBothWait patient [] [] (gave (message (request i (codes "initialize") params))
    ∷ gave (message (notification (codes "initialized") given)) ∷ took result ∷ after) → ⊥
holds_the_result_back i params given result after never =
    holds_a_reply_back i (codes "initialize") params [] [] [] (message (notification (codes "initialized") given))
    (took result ∷ after) refl never

-- the reply to `shutdown` is held back until `exit` comes
pub holds_the_shutdown_reply_back : (sent got : List Message) (before : List Act) (i : Id) (params given : Data)
    (shutdown_reply : Message) (after : List Act) → list_all is_kept before ≡ true
    → NeverBothWait patient sent got (before ++ gave (message (request i (codes "shutdown") params))
    ∷ gave (message (notification (codes "exit") given)) ∷ took shutdown_reply ∷ after) → ⊥
holds_the_shutdown_reply_back sent got before i params given shutdown_reply after kept never =
    holds_a_reply_back i (codes "shutdown") params sent got before (message (notification (codes "exit") given))
    (took shutdown_reply ∷ after) kept never

-- ---- acts in order

no_such : (passed : List Event) (m : Message) (event : Event) (reply : Message) (more after : List Act)
    → list_all is_timeout passed ≡ true
    → gave (message m) ∷ gave event ∷ after ≡ (map gave (passed ++ message m ∷ []) ++ took reply ∷ []) ++ more → ⊥
no_such [] m event reply more after only same = let e : gave event ≡ took reply = cc (same) in cc (e)
no_such (timeout ∷ passed) m event reply more after only same = let e : gave (message m) ≡ gave timeout = cc
    (same) in cc (e)
no_such (message o ∷ passed) m event reply more after only same = absurd (cc (only))
no_such (closed ∷ passed) m event reply more after only same = absurd (cc (only))
no_such (woken ∷ passed) m event reply more after only same = absurd (cc (only))

-- a message is read for which something is to be sent, and something else is awaited before that is sent
pub reads_on_first : (m reply : Message) (output : List Message) (lost_one : Option Message) (xs : List Exchange)
    (event : Event) (after : List Act) (stop : Stop) (answer : SessionAnswer)
    → InOrder (gave (message m) ∷ gave event ∷ after) (record {
      came = Some m;
      sent = reply ∷ output;
      not_sent = lost_one;
    } ∷ xs) stop answer → ⊥
reads_on_first m reply output lost_one xs event after stop answer h =
    let turn = h.turns.1 in
    let first = turn.taken.0 in
    let w = waited_in starting (message m) [] turn.met turn.waited in
    let rest = grows_both first turn.mid h.mid (
      map took output,
      taken_noted output first turn.mid turn.taken.2,
    ) (grows_both turn.mid h.turns.0.1 h.mid (refused_grows lost_one h.turns.0.0 turn.mid h.turns.0.1 turn.refuses)
    (turns_grow h.passes_late xs h.turns.0 (h.reached, h.mid) h.turns.2)) in
    let all = grows_both first h.mid (gave (message m) ∷ gave event ∷ after) rest (end_grows h.reached _ stop h.mid _
    h.ends) in
    no_such w.passed m event reply all.0 after w.only_timeouts (all.1 ∙ ap (λ (acts : List Act). acts ++ all.0)
    (turn.taken.1 ∙ ap (λ (acts : List Act). acts ++ took reply ∷ []) w.are))
