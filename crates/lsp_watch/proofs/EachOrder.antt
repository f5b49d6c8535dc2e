-- A breach that looks only at what its own side sent is there in each order.
use Rattle.std.proofs.Common.{◌≡◌, ℕ, Bool, true, false, cond, ◌||◌, ◌&&◌, ◌⊎◌, inl, inr, ⊎_elim, List, [], ◌∷◌, ◌++◌}
use Rattle.std.proofs.Common.{Option, Some, None, is_some, option_map, refl, sym, ap, ◌∙◌, subst, codes}
use Rattle.std.specs.List.{list_any}
use Rattle.std.specs.Option.{option_or}
use Rattle.std.specs.Prelude.{option_and_then, option_to_list}
use Rattle.lsp_message.specs.Id.{Id}
use Rattle.lsp_message.specs.Message.{Message, request, notification, response}
use Rattle.lsp_watch.specs.Documents.{deed_in, params_in, uri_in, version_in, document_after, document_of, deed_finding}
use Rattle.lsp_watch.specs.Documents.{document_finding}
use Rattle.lsp_watch.specs.Log.{Log, Passed, Open, Finding, passed, asks, tells, is_some_such, open_of, waiting}
use Rattle.lsp_watch.specs.Log.{progress_token}
use Rattle.lsp_watch.specs.Orders.{AreOrders, sent, is_sure, any_finding, breaks}
use Rattle.lsp_watch.specs.Progress.{gives, progress_finding, token_finding, token_of, created_finding}
use Rattle.lsp_watch.specs.Rules.{place_of, client_tells, client_asks, lifecycle_of, initializing, broken_by}
use Rattle.lsp_watch.specs.Rules.{client_finding}
use Rattle.lsp_watch.specs.Rules.{opening_finding, opened_finding, server_finding, is_early, tells_opening}
use Rattle.lsp_watch.specs.Rules.{reply_finding, session_finding}
use Rattle.lsp_watch.specs.Verdicts.{findings_of}
use Rattle.lsp_watch.specs.declared.direction.Direction.{Direction}
use Rattle.lsp_watch.specs.declared.direction.Direction.TheVariants.{ToServer, ToClient}
use Rattle.lsp_watch.specs.declared.lifecycle.Lifecycle.{Lifecycle}
use Rattle.lsp_watch.specs.declared.progress.Token.{Token}
use Rattle.lsp_watch.specs.declared.progress.Token.TheVariants.{Live, Ended}
use Rattle.lsp_watch.specs.declared.rule.Rule.TheVariants.{SentAgain, BeforeResult, BeforeInitialized, AfterExit}
use Rattle.lsp_watch.specs.declared.rule.Rule.TheVariants.{AfterShutdown, IdStillOpen, NoSuchToken}

-- ---- what depends on the client's messages alone

document_step : (uri : List ℕ) (direction : Direction) (place : ℕ) (m : Message) (before : Log)
    → document_of uri before ≡ document_of uri (sent ToServer before)
    → document_of uri (passed direction place m ∷ before)
    ≡ document_of uri (sent ToServer (passed direction place m ∷ before))
document_step uri ToServer place m before is = ap (document_after uri (deed_in ToServer m) place (params_in m)) is
document_step uri ToClient place (request i method params) before is = is
document_step uri ToClient place (notification method params) before is = is
document_step uri ToClient place (response i outcome) before is = is

document_same : (uri : List ℕ) (log : Log) → document_of uri log ≡ document_of uri (sent ToServer log)
document_same uri [] = refl
document_same uri (p ∷ before) = document_step uri p.direction p.place p.message before (document_same uri before)

tells_step : (method : List ℕ) (direction : Direction) (place : ℕ) (m : Message) (before : Log)
    → place_of (client_tells method) before ≡ place_of (client_tells method) (sent ToServer before)
    → place_of (client_tells method) (passed direction place m ∷ before)
    ≡ place_of (client_tells method) (sent ToServer (passed direction place m ∷ before))
tells_step method ToServer place m before is = ap (cond (tells method m) (Some place)) is
tells_step method ToClient place m before is = is

pub tells_same : (method : List ℕ) (log : Log)
    → place_of (client_tells method) log ≡ place_of (client_tells method) (sent ToServer log)
tells_same method [] = refl
tells_same method (p ∷ before) = tells_step method p.direction p.place p.message before (tells_same method before)

asks_step : (method : List ℕ) (direction : Direction) (place : ℕ) (m : Message) (before : Log)
    → place_of (client_asks method) before ≡ place_of (client_asks method) (sent ToServer before)
    → place_of (client_asks method) (passed direction place m ∷ before)
    ≡ place_of (client_asks method) (sent ToServer (passed direction place m ∷ before))
asks_step method ToServer place m before is = ap (cond (asks method m) (Some place)) is
asks_step method ToClient place m before is = is

asks_same : (method : List ℕ) (log : Log)
    → place_of (client_asks method) log ≡ place_of (client_asks method) (sent ToServer log)
asks_same method [] = refl
asks_same method (p ∷ before) = asks_step method p.direction p.place p.message before (asks_same method before)

-- ---- findings

abbrev Sure : Option Finding → Type 0
Sure found = is_some_such is_sure found ≡ true

abbrev There : Option Finding → Type 0
There found = is_some_such any_finding found ≡ true

there_of : (found : Option Finding) → Sure found → There found
there_of None is = is
there_of (Some found) is = refl

there_or : (a b : Option Finding) → There a → There (option_or a b)
there_or None b is = cc
there_or (Some a) b is = refl

-- ---- the lifecycle: the same, whether or not `initialize` has its result

unsure_again : (result waits : Option ℕ) → Sure (option_or (broken_by SentAgain result) (broken_by BeforeResult waits))
    → ⊥
unsure_again None None is = cc
unsure_again None (Some place) is = cc
unsure_again (Some place) waits is = cc

invited : (b : Bool) (initialized : Option ℕ) (place : ℕ)
    → Sure (cond b (broken_by SentAgain initialized)
    (cond (is_some initialized) None (Some (BeforeInitialized, Some place))))
    → (b ≡ false) × (initialized ≡ None)
invited true None place is = cc
invited true (Some at) place is = cc
invited false None place is = (refl, refl)
invited false (Some at) place is = cc

opened_sure : (s : Lifecycle) (v : Option ℕ) (m : Message) (result : Option ℕ) → Sure (opened_finding s v result m)
    → (tells (codes "initialized") m ≡ false) × (s.initialized ≡ None)
opened_sure s v m None is = cc
opened_sure s v m (Some place) is = invited (tells (codes "initialized") m) s.initialized place is

opened_there : (t : Lifecycle) (w : Option ℕ) (m : Message) → tells (codes "initialized") m ≡ false
    → t.initialized ≡ None → (result : Option ℕ) → There (opened_finding t w result m)
opened_there t w m is_other uninvited None = refl
opened_there t w m is_other uninvited (Some place) =
    ap (λ b. is_some_such any_finding (cond b (broken_by SentAgain t.initialized)
    (cond (is_some t.initialized) None (Some (BeforeInitialized, Some place))))) is_other
    ∙ ap (λ at. is_some_such any_finding (cond (is_some at) None (Some (BeforeInitialized, Some place)))) uninvited

opening_sure : (s t : Lifecycle) (v w : Option ℕ) (m : Message) → s.initialized ≡ t.initialized
    → Sure (opening_finding s v m) → There (opening_finding t w m)
opening_sure s t v w m same is = by (asks (codes "initialize") m) is
  where
    by : (b : Bool) → Sure (cond b (option_or (broken_by SentAgain s.result) (broken_by BeforeResult v))
        (opened_finding s v s.result m))
        → There (cond b (option_or (broken_by SentAgain t.result) (broken_by BeforeResult w))
        (opened_finding t w t.result m))
    by true is = absurd (unsure_again s.result v is)
    by false is =
        let parts = opened_sure s v m s.result is in
        opened_there t w m parts.0 (sym same ∙ parts.1) t.result

call_sure : (b : Bool) (exit shutdown : Option ℕ) (one other : Option Finding)
    → Sure (cond b (broken_by AfterExit exit)
    (option_or (option_or (broken_by AfterExit exit) (broken_by AfterShutdown shutdown)) one))
    → (Sure one → There other)
    → There (cond b (broken_by AfterExit exit)
    (option_or (option_or (broken_by AfterExit exit) (broken_by AfterShutdown shutdown)) other))
call_sure true None shutdown one other is more = cc
call_sure true (Some place) shutdown one other is more = refl
call_sure false (Some place) shutdown one other is more = refl
call_sure false None (Some place) one other is more = refl
call_sure false None None one other is more = more is

client_sure : (s t : Lifecycle) (v w : Option ℕ) (m : Message) → s.initialized ≡ t.initialized → s.exit ≡ t.exit
    → s.shutdown ≡ t.shutdown → Sure (client_finding s v m) → There (client_finding t w m)
client_sure s t v w m initialized exit shutdown is =
    let base : There (cond (tells (codes "exit") m) (broken_by AfterExit s.exit)
    (option_or (option_or (broken_by AfterExit s.exit) (broken_by AfterShutdown s.shutdown)) (opening_finding t w m))) =
    call_sure (tells (codes "exit") m) s.exit s.shutdown (opening_finding s v m) (opening_finding t w m) is
    (opening_sure s t v w m initialized) in
    subst (λ (at : Option ℕ). There (cond (tells (codes "exit") m) (broken_by AfterExit t.exit)
    (option_or (option_or (broken_by AfterExit t.exit) (broken_by AfterShutdown at)) (opening_finding t w m)))) shutdown
    (subst (λ (at : Option ℕ). There (cond (tells (codes "exit") m) (broken_by AfterExit at)
    (option_or (option_or (broken_by AfterExit at) (broken_by AfterShutdown s.shutdown)) (opening_finding t w m)))) exit
    base)

-- ---- a message of the client

and_then_same : {A B : Type 0} (f g : A → Option B) → ((x : A) → f x ≡ g x) → (o : Option A)
    → option_and_then f o ≡ option_and_then g o
and_then_same f g same None = refl
and_then_same f g same (Some x) = same x

unsure_id : (o : Option Open) → Sure (option_map (λ asked. (IdStillOpen, Some asked.place)) o) → ⊥
unsure_id None is = cc
unsure_id (Some o) is = cc

unsure_reply : (o : Option Open) → Sure (reply_finding o) → ⊥
unsure_reply None is = cc
unsure_reply (Some o) is = cc

unsure_token : (b : Bool) → Sure (cond b None (Some (NoSuchToken, None))) → ⊥
unsure_token true is = cc
unsure_token false is = cc

unsure_progress : (before : Log) (name : Option Id)
    → Sure (option_and_then (λ name. token_finding (open_of before) (token_of name before) ToServer name) name) → ⊥
unsure_progress before None is = cc
unsure_progress before (Some name) is = unsure_token (list_any (gives ToServer name) (open_of before)) is

or_false : (a : Bool) → (a || false) ≡ true → a ≡ true
or_false true is = refl
or_false false is = is

or_else : {A B : Type 0} (a : Bool) {b : Bool} → (a ≡ true → A) → (b ≡ true → B) → (a || b) ≡ true → A ⊎ B
or_else true f g is = inl (f refl)
or_else false f g is = inr (g is)

last : (c : Option Finding) → list_any is_sure (option_to_list c) ≡ true → Sure c
last None is = cc
last (Some c) is = or_false (is_sure c) is

one_of_two : (b c : Option Finding) → list_any is_sure (option_to_list b ++ option_to_list c) ≡ true → Sure b ⊎ Sure c
one_of_two None c is = inr (last c is)
one_of_two (Some b) c is = or_else (is_sure b) (λ at. at) (λ rest. last c rest) is

-- of three findings a sure one is one of them
one_of : (a b c : Option Finding)
    → list_any is_sure (option_to_list a ++ (option_to_list b ++ option_to_list c)) ≡ true
    → Sure a ⊎ (Sure b ⊎ Sure c)
one_of None b c is = inr (one_of_two b c is)
one_of (Some a) b c is = or_else (is_sure a) (λ at. at) (λ rest. one_of_two b c rest) is

there_first : (a b c : Option Finding) → There a
    → list_any any_finding (option_to_list a ++ (option_to_list b ++ option_to_list c)) ≡ true
there_first None b c is = cc
there_first (Some a) b c is = refl

there_second : (a b c : Option Finding) → There b
    → list_any any_finding (option_to_list a ++ (option_to_list b ++ option_to_list c)) ≡ true
there_second None None c is = cc
there_second None (Some b) c is = refl
there_second (Some a) b c is = refl

sure_or : (a b : Option Finding) → Sure (option_or a b) → Sure a ⊎ Sure b
sure_or None b is = inr is
sure_or (Some a) b is = inl is

module _ (before rest : Log) (same : sent ToServer before ≡ sent ToServer rest) where
  documents : (m : Message) → document_finding before ToServer m ≡ document_finding rest ToServer m
  documents m = and_then_same _ _ (λ deed. and_then_same _ _ (λ uri.
      ap (deed_finding deed (version_in (params_in m))) (document_same uri before ∙ ap (document_of uri) same
      ∙ sym (document_same uri rest))) (uri_in (params_in m))) (deed_in ToServer m)

  client : (m : Message) → Sure (client_finding (lifecycle_of before) (initializing before) m)
      → There (client_finding (lifecycle_of rest) (initializing rest) m)
  client m is = client_sure (lifecycle_of before) (lifecycle_of rest) (initializing before) (initializing rest) m
      (tells_same (codes "initialized") before ∙ ap (place_of (client_tells (codes "initialized"))) same
      ∙ sym (tells_same (codes "initialized") rest))
      (tells_same (codes "exit") before ∙ ap (place_of (client_tells (codes "exit"))) same
      ∙ sym (tells_same (codes "exit") rest))
      (asks_same (codes "shutdown") before ∙ ap (place_of (client_asks (codes "shutdown"))) same
      ∙ sym (asks_same (codes "shutdown") rest)) is

  session : (m : Message) → Sure (session_finding before ToServer m) → There (session_finding rest ToServer m)
  session (request i method params) is = ⊎_elim
      (λ at. there_or _ _ (client (request i method params) at))
      (λ at. absurd (unsure_id (waiting ToServer i before) at))
      (sure_or _ _ is)
  session (notification method params) is = ⊎_elim
      (λ at. there_or _ _ (client (notification method params) at)) (λ at. cc) (sure_or _ _ is)
  session (response i outcome) is = absurd (unsure_reply (waiting ToClient i before) is)

  from_client : (m : Message) → list_any is_sure (findings_of before ToServer m) ≡ true
      → list_any any_finding (findings_of rest ToServer m) ≡ true
  from_client m is = ⊎_elim
      (λ at. there_first _ (document_finding rest ToServer m) (progress_finding rest ToServer m) (session m at))
      (λ more. ⊎_elim
      (λ at. there_second (session_finding rest ToServer m) _ (progress_finding rest ToServer m)
      (there_of _ (subst Sure (documents m) at)))
      (λ at. absurd (unsure_progress before (progress_token m) at)) more)
      (one_of (session_finding before ToServer m) (document_finding before ToServer m)
      (progress_finding before ToServer m) is)

-- ---- a message of the server breaks no such rule

unsure_server : (s : Lifecycle) (waits : Option ℕ) (may_tell : Bool) (m : Message) → Sure
    (server_finding s waits may_tell m)
    → ⊥
unsure_server s waits may_tell m is = by (is_some s.result || (is_some waits && (may_tell || is_early m))) is
  where
    by : (b : Bool) → Sure (cond b None (Some (BeforeResult, waits))) → ⊥
    by true is = cc
    by false is = cc

unsure_created : (b : Bool) (token : Option Token) → Sure (cond b None (created_finding ToClient token)) → ⊥
unsure_created true token is = cc
unsure_created false None is = cc
unsure_created false (Some Live) is = cc
unsure_created false (Some (Ended place)) is = cc

unsure_server_progress : (before : Log) (name : Option Id)
    → Sure (option_and_then (λ name. token_finding (open_of before) (token_of name before) ToClient name) name) → ⊥
unsure_server_progress before None is = cc
unsure_server_progress before (Some name) is =
    unsure_created (list_any (gives ToClient name) (open_of before)) (token_of name before) is

unsure_session : (before : Log) (m : Message) → Sure (session_finding before ToClient m) → ⊥
unsure_session before (request i method params) is = ⊎_elim
    (unsure_server (lifecycle_of before) (initializing before) (tells_opening before (request i method params))
    (request i method params))
    (unsure_id (waiting ToClient i before)) (sure_or _ _ is)
unsure_session before (notification method params) is = ⊎_elim
    (unsure_server (lifecycle_of before) (initializing before) (tells_opening before (notification method params))
    (notification method params))
    (λ at. cc) (sure_or _ _ is)
unsure_session before (response i outcome) is = unsure_reply (waiting ToServer i before) is

unsure_document : (before : Log) (m : Message) → Sure (document_finding before ToClient m) → ⊥
unsure_document before (request i method params) is = cc
unsure_document before (notification method params) is = cc
unsure_document before (response i outcome) is = cc

from_server : (before : Log) (m : Message) → list_any is_sure (findings_of before ToClient m) ≡ true → ⊥
from_server before m is = ⊎_elim (unsure_session before m)
    (⊎_elim (unsure_document before m) (unsure_server_progress before (progress_token m)))
    (one_of (session_finding before ToClient m) (document_finding before ToClient m)
    (progress_finding before ToClient m) is)

-- ---- whole logs

or_right : (a b : Bool) → b ≡ true → (a || b) ≡ true
or_right true b is = refl
or_right false b is = is

or_left : (a b : Bool) → a ≡ true → (a || b) ≡ true
or_left true b is = refl
or_left false b is = cc

-- a place of the other order, where the same message of the client is
record Placed (order c : Log) (p : Passed) : Type 0 where
  rest : Log
  behind : sent ToServer rest ≡ c
  more : list_any any_finding (findings_of rest ToServer p.message) || breaks any_finding rest ≡ true
      → breaks any_finding order ≡ true

place_step : (direction : Direction) (place : ℕ) (m : Message) (before c : Log) (p : Passed)
    → (sent ToServer before ≡ p ∷ c → Placed before c p)
    → sent ToServer (passed direction place m ∷ before) ≡ p ∷ c → Placed (passed direction place m ∷ before) c p
place_step ToServer place m before c p more is = record {
  rest = before;
  behind = cc;
  more = subst (λ (q : Passed). list_any any_finding (findings_of before ToServer q.message)
      || breaks any_finding before ≡ true → breaks any_finding (passed ToServer place m ∷ before) ≡ true)
      (let same : passed ToServer place m ≡ p = cc in same) (λ it. it);
}
place_step ToClient place m before c p more is =
    let found = more is in
    record {
      rest = found.rest;
      behind = found.behind;
      more = λ it. or_right (list_any any_finding (findings_of before ToClient m)) (breaks any_finding before)
          (found.more it);
    }

placed : (order c : Log) (p : Passed) → sent ToServer order ≡ p ∷ c → Placed order c p
placed [] c p is = cc
placed (q ∷ before) c p is = place_step q.direction q.place q.message before c p (placed before c p) is

each_step : (direction : Direction) (place : ℕ) (m : Message) (before order : Log)
    → ((order : Log) → sent ToServer before ≡ sent ToServer order → breaks is_sure before ≡ true
    → breaks any_finding order ≡ true)
    → sent ToServer (passed direction place m ∷ before) ≡ sent ToServer order
    → breaks is_sure (passed direction place m ∷ before) ≡ true → breaks any_finding order ≡ true
each_step ToServer place m before order more same is =
    let at = placed order (sent ToServer before) (passed ToServer place m) (sym same) in
    at.more (⊎_elim
    (λ here. or_left _ (breaks any_finding at.rest) (from_client before at.rest (sym at.behind) m here))
    (λ there. or_right (list_any any_finding (findings_of at.rest ToServer m)) _
    (more at.rest (sym at.behind) there))
    (or_else (list_any is_sure (findings_of before ToServer m)) (λ it. it) (λ it. it) is))
each_step ToClient place m before order more same is = ⊎_elim
    (λ here. absurd (from_server before m here)) (λ there. more order same there)
    (or_else (list_any is_sure (findings_of before ToClient m)) (λ it. it) (λ it. it) is)

each_order : (log order : Log) → sent ToServer log ≡ sent ToServer order → breaks is_sure log ≡ true
    → breaks any_finding order ≡ true
each_order [] order same is = cc
each_order (p ∷ before) order same is =
    each_step p.direction p.place p.message before order (each_order before) same is

pub in_each_order : (log order : Log) → AreOrders log order → breaks is_sure log ≡ true → breaks any_finding order ≡
    true
in_each_order log order orders is = each_order log order orders.client is
