-- A recorder sees more of the client's messages than the session took: what the session sends breaks no rule all the
-- same, if the client reuses no id before the reply.
use Rattle.std.proofs.Common.{◌≡◌, ◌≤◌, ◌⊎◌, inl, inr, false, List, [], ◌∷◌, ◌++◌}
use Rattle.std.proofs.Common.{Option, Some, None, refl, sym, ap, ◌∙◌, subst, arith, append_assoc, append-nil}
use Rattle.std.specs.List.{filter_map}
use Rattle.std.specs.Prelude.{map, option_to_list}
use Rattle.lsp_message.specs.Id.{Id}
use Rattle.lsp_message.specs.Message.{Message, request, notification, response}
use Rattle.lsp_acts.specs.Law.{one_if, is_request_under, is_reply_under, came_with, how_many, NeverMore}
use Rattle.lsp_session.specs.Answered.{RepliesToEach, requests_of, IsReplied, AllReplied, AnswersRequests}
use Rattle.lsp_session.specs.Session.{Exchange, offered, messages_of, sends_of, SessionAnswer, Stop}
use Rattle.lsp_watch.specs.CleanLog.{is_call}
use Rattle.lsp_watch.specs.Log.{Log, Passed, passed, from_client}
use Rattle.lsp_watch.specs.declared.direction.Direction.TheVariants.{ToServer, ToClient}
use Rattle.lsp_watched.specs.Recorded.{gone, IsSentAt, IsRecorded}
use Rattle.lsp_watched.specs.Sessions.{PassSession, IsLogOfSession, ClientKeepsIds, ServerIsClean}
use Rattle.lsp_watched.specs.Passing.{Pass}
use Rattle.lsp_watched.proofs.Waits.{at_each_none, at_each_more}
use Rattle.lsp_watched.proofs.Replies.{how_many_append, one_came, replies_fit}

-- ---- what was sent and what came

pub sends_append : (xs ys : List Exchange) → sends_of (xs ++ ys) ≡ sends_of xs ++ sends_of ys
sends_append [] ys = refl
sends_append (x ∷ xs) ys = ap (λ l. offered x ++ l) (sends_append xs ys) ∙ sym (append_assoc (offered x) (sends_of xs)
    (sends_of ys))

came_first : (c : Option Message) (all front : List (Option Message)) (ms : List Message)
    → filter_map (λ (came : Option Message). came) all ≡ filter_map (λ (came : Option Message). came) front ++ ms
    → filter_map (λ (came : Option Message). came) (c ∷ all)
    ≡ filter_map (λ (came : Option Message). came) (c ∷ front) ++ ms
came_first None all front ms is = is
came_first (Some n) all front ms is = ap (λ l. n ∷ l) is

came_alone : (c : Option Message) → filter_map (λ (came : Option Message). came) (c ∷ []) ≡ option_to_list c
came_alone None = refl
came_alone (Some m) = refl

pub came_last : (front : List Exchange) (x : Exchange)
    → messages_of (front ++ x ∷ []) ≡ messages_of front ++ option_to_list x.came
came_last [] x = came_alone x.came
came_last (y ∷ front) x = came_first y.came (map (λ (z : Exchange). z.came) (front ++ x ∷ []))
    (map (λ (z : Exchange). z.came) front) (option_to_list x.came) (came_last front x)

-- ---- a session's own log

module _ (exchanges : List Exchange) where
  abbrev pub IsSentOf : Log → Passed → Type 0
  IsSentOf before p = from_client p.direction ≡ false → IsSentAt exchanges before p.message

  client_passes : (ms : List Message) (old new : Log) → Pass ToServer ms old new → IsRecorded exchanges old
      → IsRecorded exchanges new × (gone ToServer new ≡ gone ToServer old ++ ms)
      × (gone ToClient new ≡ gone ToClient old)
  client_passes [] old new passes recorded = (
    subst (IsRecorded exchanges) (sym passes) recorded,
    ap (gone ToServer) passes ∙ sym (append-nil (gone ToServer old)),
    ap (gone ToClient) passes,
  )
  client_passes (m ∷ ms) old new passes recorded =
      let rest = client_passes ms (passed ToServer passes.0 m ∷ old) new passes.1
      (at_each_more IsSentOf (passed ToServer passes.0 m) old (λ direction. cc) recorded) in
      (rest.0, rest.1 ∙ append_assoc (gone ToServer old) (m ∷ []) ms, rest.2)

  module _ (earlier : List Exchange) (x : Exchange) (later : List Exchange)
      (cut : exchanges ≡ earlier ++ x ∷ later) where
    server_passes : (first ms : List Message) (old new : Log) → Pass ToClient ms old new → offered x ≡ first ++ ms
        → gone ToClient old ≡ sends_of earlier ++ first → gone ToServer old ≡ messages_of (earlier ++ x ∷ [])
        → IsRecorded exchanges old
        → IsRecorded exchanges new × (gone ToServer new ≡ messages_of (earlier ++ x ∷ []))
        × (gone ToClient new ≡ sends_of earlier ++ (offered x))
    server_passes first [] old new passes sends sent took recorded = (
      subst (IsRecorded exchanges) (sym passes) recorded,
      ap (gone ToServer) passes ∙ took,
      ap (gone ToClient) passes ∙ sent ∙ ap (λ l. sends_of earlier ++ l) (sym (append-nil first) ∙ sym sends),
    )
    server_passes first (m ∷ ms) old new passes sends sent took recorded =
        server_passes (first ++ m ∷ []) ms (passed ToClient passes.0 m ∷ old) new passes.1
        (sends ∙ sym (append_assoc first (m ∷ []) ms))
        (ap (λ l. l ++ m ∷ []) sent ∙ append_assoc (sends_of earlier) first (m ∷ [])) took
        (at_each_more IsSentOf (passed ToClient passes.0 m) old (λ direction. record {
          earlier = earlier;
          exchange = x;
          later = later;
          cut = cut;
          first = first;
          rest = ms;
          sends = sends;
          sent = sent;
          ahead = [];
          took = took ∙ sym (append-nil (messages_of (earlier ++ x ∷ [])));
        }) recorded)

  all_pass : (before xs : List Exchange) (old new : Log) → exchanges ≡ before ++ xs → PassSession xs old new
      → gone ToServer old ≡ messages_of before → gone ToClient old ≡ sends_of before → IsRecorded exchanges old
      → IsRecorded exchanges new
  all_pass before [] old new is passes took sent recorded = subst (IsRecorded exchanges) (sym passes) recorded
  all_pass before (x ∷ xs) old new is passes took sent recorded =
      let came = client_passes (option_to_list x.came) old passes.0 passes.2 recorded in
      let then = server_passes before x xs is [] (offered x) passes.0 passes.1 passes.3 refl
      (came.2 ∙ sent ∙ sym (append-nil (sends_of before)))
      (came.1 ∙ ap (λ l. l ++ option_to_list x.came) took ∙ sym (came_last before x)) came.0 in
      all_pass (before ++ x ∷ []) xs passes.1 new (is ∙ sym (append_assoc before (x ∷ []) xs)) passes.4 then.1
      (then.2 ∙ sym (sends_append before (x ∷ []) ∙ ap (λ l. sends_of before ++ l) (append-nil (offered x)))) then.0

pub session_is_recorded : (exchanges : List Exchange) (log : Log) → IsLogOfSession exchanges log
    → IsRecorded exchanges log
session_is_recorded exchanges log passes = all_pass exchanges [] exchanges [] log refl passes refl refl
    (at_each_none (IsSentOf exchanges))

-- ---- sessions in which each request gets its one reply

-- one reply, or none, for a request, and nothing else
abbrev pub RepliesAtMost : Exchange → Type 0
RepliesAtMost x = IsReplied x ⊎ (offered x ≡ [])

abbrev pub AllAtMost : List Exchange → Type 0
AllAtMost [] = Unit {0}
AllAtMost (x ∷ xs) = RepliesAtMost x × AllAtMost xs

pub at_most_each : (xs ys : List Exchange) → AllReplied xs → AllAtMost ys → AllAtMost (xs ++ ys)
at_most_each [] ys all rest = rest
at_most_each (x ∷ xs) ys all rest = (inl all.0, at_most_each xs ys all.1 rest)

at_most_front : (xs ys : List Exchange) → AllAtMost (xs ++ ys) → AllAtMost xs
at_most_front [] ys all = tt
at_most_front (x ∷ xs) ys all = (all.0, at_most_front xs ys all.1)

pub at_most_at : (xs : List Exchange) (x : Exchange) (ys : List Exchange) → AllAtMost (xs ++ x ∷ ys) → RepliesAtMost x
at_most_at [] x ys all = all.0
at_most_at (y ∷ xs) x ys all = at_most_at xs x ys all.1

at_most : (exchanges : List Exchange) (stop : Stop) (answer : SessionAnswer)
    → AnswersRequests exchanges stop answer → AllAtMost exchanges
at_most exchanges stop answer (inl all) = subst AllAtMost (append-nil exchanges)
    (at_most_each exchanges [] all tt)
at_most exchanges stop answer (inr last) = subst AllAtMost (sym last.cut)
    (at_most_each last.before _ last.replied (inr refl, tt))

-- what is sent for a message, in numbers
replied_once : (came : Option Message) (sent : List Message)
    → RepliesToEach (requests_of (messages_of (record { came = came; sent = sent; not_sent = None } ∷ []))) sent
    → (id : Id)
    → how_many (is_reply_under id) sent ≡ one_if (came_with (is_request_under id) came)
replied_once None [] replies id = refl
replied_once None (m ∷ ms) replies id = absurd replies
replied_once (Some (notification method params)) [] replies id = refl
replied_once (Some (notification method params)) (m ∷ ms) replies id = absurd replies
replied_once (Some (response i outcome)) [] replies id = refl
replied_once (Some (response i outcome)) (m ∷ ms) replies id = absurd replies
replied_once (Some (request i method params)) [] replies id = absurd replies
replied_once (Some (request i method params)) (m ∷ n ∷ ms) replies id = absurd replies.1
replied_once (Some (request i method params)) (m ∷ []) replies id = omega (
  arith,
  ap (λ k. one_if (is_reply_under id k)) replies.0.1,
)

no_more : (x : Exchange) → RepliesAtMost x → (id : Id)
    → how_many (is_reply_under id) (offered x) ≤ one_if (came_with (is_request_under id) x.came)
no_more x (inl replied) id = omega (arith, replied_once x.came (offered x) replied id)
no_more x (inr none) id = omega (arith, ap (how_many (is_reply_under id)) none)

pub never_more_of : (xs : List Exchange) → AllAtMost xs → (id : Id)
    → how_many (is_reply_under id) (sends_of xs) ≤ how_many (is_request_under id) (messages_of xs)
never_more_of [] all id = omega arith
never_more_of (x ∷ xs) all id = omega (
  arith,
  how_many_append (is_reply_under id) (offered x) (sends_of xs),
  no_more x all.0 id,
  one_came (is_request_under id) x.came (map (λ (y : Exchange). y.came) xs),
  never_more_of xs all.1 id,
)

pub never_more : (exchanges : List Exchange) → AllAtMost exchanges → (id : Id) → NeverMore id exchanges
never_more exchanges all id before after is = never_more_of before
    (at_most_front before after (subst AllAtMost is all)) id

-- only replies are sent
sends_replies : (ids : List Id) (first : List Message) (m : Message) (rest : List Message)
    → RepliesToEach ids (first ++ m ∷ rest)
    → is_call m ≡ false
sends_replies [] [] m rest replies = absurd replies
sends_replies [] (n ∷ first) m rest replies = absurd replies
sends_replies (i ∷ ids) [] m rest replies = ap is_call replies.0.1
sends_replies (i ∷ ids) (n ∷ first) m rest replies = sends_replies ids first m rest replies.1

none_there : (first : List Message) (m : Message) (rest : List Message) → first ++ m ∷ rest ≡ [] → is_call m ≡ false
none_there [] m rest is = cc
none_there (n ∷ first) m rest is = cc

pub is_a_reply : (x : Exchange) (first : List Message) (m : Message) (rest : List Message) → RepliesAtMost x
    → offered x ≡ first ++ m ∷ rest → is_call m ≡ false
is_a_reply x first m rest (inl replied) is = sends_replies (requests_of (messages_of (x ∷ []))) first m rest
    (subst (RepliesToEach (requests_of (messages_of (x ∷ [])))) is replied)
is_a_reply x first m rest (inr none) is = none_there first m rest (sym is ∙ none)

pub replies_are_clean : (exchanges : List Exchange) (stop : Stop)
    (answer : SessionAnswer) (log : Log) → AnswersRequests exchanges stop answer
    → IsRecorded exchanges log → ClientKeepsIds log → ServerIsClean log
replies_are_clean exchanges stop answer log answers recorded anew later before p is direction =
    let all = at_most exchanges stop answer answers in
    let at = recorded later before p is direction in
    replies_fit exchanges log (never_more exchanges all) recorded anew later before p is direction
    (is_a_reply at.exchange at.first p.message at.rest
    (at_most_at at.earlier at.exchange at.later (subst AllAtMost at.cut all)) at.sends)
