-- Where there are never more replies than requests, and no id is reused too early, each reply was asked for.
use Rattle.std.proofs.Common.{◌≡◌, ◌≤◌, ◌+◌, ℕ, Bool, true, false, cond, ◌||◌, List, [], ◌∷◌, ◌++◌, Option, Some}
use Rattle.std.proofs.Common.{None, is_some, refl, sym, ap, ◌∙◌, subst, arith, append_assoc, option_map}
use Rattle.std.specs.List.{filter_map}
use Rattle.lsp_message.specs.Id.{Id, same_id}
use Rattle.lsp_message.specs.Message.{Message, request, notification, response}
use Rattle.lsp_message.proofs.Ids.{same_own, same_is}
use Rattle.lsp_acts.specs.Law.{one_if, is_request_under, is_reply_under, came_with, how_many, NeverMore}
use Rattle.lsp_session.specs.Session.{Exchange, offered, messages_of, sends_of}
use Rattle.lsp_watch.specs.CleanLog.{AtEach, is_call}
use Rattle.lsp_watch.specs.Log.{Log, Passed, passed, from_client}
use Rattle.lsp_watch.specs.Rules.{session_finding}
use Rattle.lsp_watch.specs.declared.direction.Direction.{Direction}
use Rattle.lsp_watch.specs.declared.direction.Direction.TheVariants.{ToServer, ToClient}
use Rattle.lsp_watched.specs.Recorded.{gone, IsSentAt, IsRecorded}
use Rattle.lsp_watched.specs.Sessions.{AsksAnew, ClientKeepsIds, ServerRepliesFit}
use Rattle.lsp_watched.proofs.Waits.{waits, after_request, after_notification, after_reply, reply_fits, none_asks}

-- ---- what stands in a part of a log

module _ (P : Log → Passed → Type 0) where
  pub at_tail : (p : Passed) (log : Log) → AtEach P (p ∷ log) → AtEach P log
  at_tail p log all later before q is = all (p ∷ later) before q (ap (λ l. p ∷ l) is)

  pub at_part : (later log : Log) → AtEach P (later ++ log) → AtEach P log
  at_part [] log all = all
  at_part (p ∷ later) log all = at_part later log (at_tail p (later ++ log) all)

  pub at_before : (log later before : Log) (p : Passed) → log ≡ later ++ p ∷ before → AtEach P log → AtEach P before
  at_before log later before p is all = at_tail p before (at_part later (p ∷ before) (subst (AtEach P) is all))

-- ---- counts

pub how_many_append : (p : Message → Bool) (xs ys : List Message) → how_many p (xs ++ ys)
    ≡ how_many p xs + how_many p ys
how_many_append p [] ys = omega arith
how_many_append p (x ∷ xs) ys = omega (arith, how_many_append p xs ys)

pub one_came : (p : Message → Bool) (c : Option Message) (cs : List (Option Message))
    → how_many p (filter_map (λ (came : Option Message). came) (c ∷ cs))
    ≡ one_if (came_with p c) + how_many p (filter_map (λ (came : Option Message). came) cs)
one_came p None cs = omega arith
one_came p (Some m) cs = omega arith

how_sent : (p : Message → Bool) (before : List Exchange) (x : Exchange) → how_many p (sends_of (before ++ x ∷ []))
    ≡ how_many p (sends_of before) + how_many p (offered x)
how_sent p [] x = omega (arith, how_many_append p (offered x) [])
how_sent p (y ∷ before) x = omega (
  arith,
  how_many_append p (offered y) (sends_of (before ++ x ∷ [])),
  how_many_append p (offered y) (sends_of before),
  how_sent p before x,
)

-- how many requests of the client passed under an id, and how many replies to them
abbrev pub asked : Id → Log → ℕ
asked id log = how_many (is_request_under id) (gone ToServer log)

abbrev pub told : Id → Log → ℕ
told id log = how_many (is_reply_under id) (gone ToClient log)

-- each request that was asked was told its reply, or waits
abbrev pub Balances : Log → Type 0
Balances log = (id : Id) → asked id log ≡ told id log + one_if (waits ToServer id log)

one_asked : (b w : Bool) (n t : ℕ) → (b ≡ true → w ≡ false) → n ≡ t + one_if w → n + one_if b ≡ t + one_if (b || w)
one_asked true true n t new e = let bad : true ≡ false = new refl in cc
one_asked true false n t new e = omega (arith, e)
one_asked false w n t new e = omega (arith, e)

one_told : (b w : Bool) (n t : ℕ) → (b ≡ true → w ≡ true) → n ≡ t + one_if w → n ≡ t + one_if b
    + one_if (cond b false w)
one_told true true n t asked e = omega (arith, e)
one_told true false n t asked e = let bad : false ≡ true = asked refl in cc
one_told false w n t asked e = omega (arith, e)

-- one of the client's messages more
client_step : (place : ℕ) (m : Message) (old : Log) → AsksAnew old m → Balances old
    → Balances (passed ToServer place m ∷ old)
client_step place (request i method params) old new balance = λ id. omega (
  arith,
  how_many_append (is_request_under id) (gone ToServer old) (request i method params ∷ []),
  one_asked (same_id id i) (waits ToServer id old) (asked id old) (told id old)
      (λ same. ap (λ k. waits ToServer k old) (same_is id i same) ∙ none_asks ToServer i old new) (balance id),
  ap one_if (after_request ToServer ToServer id place old i method params),
)
client_step place (notification method params) old new balance = λ id. omega (
  arith,
  how_many_append (is_request_under id) (gone ToServer old) (notification method params ∷ []),
  balance id,
  ap one_if (after_notification ToServer ToServer id place old method params),
)
client_step place (response i outcome) old new balance = λ id. omega (
  arith,
  how_many_append (is_request_under id) (gone ToServer old) (response i outcome ∷ []),
  balance id,
  ap one_if (after_reply ToServer ToServer id place old i outcome),
)

-- With this message of the server's there are no more replies than requests.
abbrev pub OneMore : Log → Message → Type 0
OneMore before m = (id : Id) → told id before + one_if (is_reply_under id m) ≤ asked id before

must_wait : (b w : Bool) (n t : ℕ) → b ≡ true → n ≡ t + one_if w → t + one_if b ≤ n → w ≡ true
must_wait true true n t is e bound = refl
must_wait true false n t is e bound = absurd (omega (arith, e, bound))
must_wait false w n t is e bound = cc

waiting_for : (i : Id) (outcome : _) (old : Log) → OneMore old (response i outcome) → Balances old
    → waits ToServer i old ≡ true
waiting_for i outcome old bound balance = must_wait (same_id i i) (waits ToServer i old) (asked i old) (told i old)
    (same_own i) (balance i) (bound i)

server_step : (place : ℕ) (m : Message) (old : Log) → OneMore old m → Balances old
    → Balances (passed ToClient place m ∷ old)
server_step place (response i outcome) old bound balance = λ id. omega (
  arith,
  how_many_append (is_reply_under id) (gone ToClient old) (response i outcome ∷ []),
  one_told (same_id id i) (waits ToServer id old) (asked id old) (told id old)
      (λ same. ap (λ k. waits ToServer k old) (same_is id i same) ∙ waiting_for i outcome old bound balance)
      (balance id),
  ap one_if (after_reply ToServer ToClient id place old i outcome),
)
server_step place (request i method params) old bound balance = λ id. omega (
  arith,
  how_many_append (is_reply_under id) (gone ToClient old) (request i method params ∷ []),
  balance id,
  ap one_if (after_request ToServer ToClient id place old i method params),
)
server_step place (notification method params) old bound balance = λ id. omega (
  arith,
  how_many_append (is_reply_under id) (gone ToClient old) (notification method params ∷ []),
  balance id,
  ap one_if (after_notification ToServer ToClient id place old method params),
)

step : (direction : Direction) (place : ℕ) (m : Message) (old : Log) → (from_client direction ≡ true → AsksAnew old m)
    → (from_client direction ≡ false → OneMore old m) → Balances old → Balances (passed direction place m ∷ old)
step ToServer place m old new bound balance = client_step place m old (new refl) balance
step ToClient place m old new bound balance = server_step place m old (bound refl) balance

abbrev pub IsBounded : Log → Passed → Type 0
IsBounded before p = from_client p.direction ≡ false → OneMore before p.message

abbrev pub AsksNew : Log → Passed → Type 0
AsksNew before p = from_client p.direction ≡ true → AsksAnew before p.message

pub balanced : (log : Log) → ClientKeepsIds log → AtEach IsBounded log → Balances log
balanced [] anew bound = λ id. refl
balanced (p ∷ before) anew bound = step p.direction p.place p.message before (anew [] before p refl)
    (bound [] before p refl)
    (balanced before (at_tail AsksNew p before anew) (at_tail IsBounded p before bound))

-- ---- what the server sends

pub one_more : (exchanges : List Exchange) (before : Log) (m : Message) → ((id : Id) → NeverMore id exchanges)
    → IsSentAt exchanges before m → OneMore before m
one_more exchanges before m never at = λ id. omega (
  arith,
  never id (at.earlier ++ at.exchange ∷ []) at.later (at.cut ∙ sym
      (append_assoc at.earlier (at.exchange ∷ []) at.later)),
  how_sent (is_reply_under id) at.earlier at.exchange,
  ap (how_many (is_reply_under id)) at.sends,
  how_many_append (is_reply_under id) at.first (m ∷ at.rest),
  ap (how_many (is_reply_under id)) at.sent,
  how_many_append (is_reply_under id) (sends_of at.earlier) at.first,
  ap (how_many (is_request_under id)) at.took,
  how_many_append (is_request_under id) (messages_of (at.earlier ++ at.exchange ∷ [])) at.ahead,
)

fits : (before : Log) (direction : Direction) (place : ℕ) (m : Message)
    → (from_client direction ≡ false → OneMore before m)
    → Balances before → from_client direction ≡ false → is_call m ≡ false → session_finding before direction m ≡ None
fits before ToServer place m bound balance = λ direction reply. cc
fits before ToClient place (response i outcome) bound balance = λ direction reply.
    reply_fits before ToClient i outcome (waiting_for i outcome before (bound refl) balance)
fits before ToClient place (request i method params) bound balance = λ direction reply. cc
fits before ToClient place (notification method params) bound balance = λ direction reply. cc

pub replies_fit : (exchanges : List Exchange) (log : Log) → ((id : Id) → NeverMore id exchanges)
    → IsRecorded exchanges log → ClientKeepsIds log → ServerRepliesFit log
replies_fit exchanges log never recorded anew later before p is =
    let bound : AtEach IsBounded log = λ l b q e direction. one_more exchanges b q.message never
    (recorded l b q e direction) in
    fits before p.direction p.place p.message (bound later before p is)
    (balanced before (at_before AsksNew log later before p is anew) (at_before IsBounded log later before p is bound))
