-- The calls of a clean log keep the order of the lifecycle.
use Rattle.std.proofs.Common.{◌≡◌, ◌⊎◌, inl, inr, Bool, true, false, cond, ◌&&◌, ◌||◌, [], ◌∷◌, ◌++◌, Option}
use Rattle.std.proofs.Common.{Some, None, refl, sym, ap, ◌∙◌, is_some, ℕ, true≢false, codes, List, option_map}
use Rattle.std.proofs.lemmas.Slice.Eq.{bytes_eq-Decides}
use Rattle.std.specs.Bool.{MatchBool}
use Rattle.std.specs.List.{list_any, find}
use Rattle.std.specs.Option.{option_or}
use Rattle.std.specs.Str.{bytes_eq}
use Rattle.lsp_message.specs.Message.{Message, request, notification, response}
use Rattle.lsp_watch.specs.CleanLog.{IsClean, HasResult, is_call, ClientKeepsOrder, ServerKeepsOrder, KeepsOrder}
use Rattle.lsp_watch.specs.Log.{Log, Passed, Open, Finding, asks, tells, is_success, from_client, is_initialize}
use Rattle.lsp_watch.specs.Log.{answers_initialize, open_of, open_after, opens_session, without_first, is_for, other}
use Rattle.lsp_watch.specs.Rules.{broken_by, place_of, client_tells, client_asks, initializing}
use Rattle.lsp_watch.specs.Rules.{initialize_result, lifecycle_of, is_early, tells_opening, server_finding}
use Rattle.lsp_watch.specs.Rules.{client_finding, opening_finding, opened_finding, lifecycle_finding}
use Rattle.lsp_watch.specs.declared.rule.Rule.TheVariants.{BeforeResult, BeforeInitialized, SentAgain, AfterShutdown}
use Rattle.lsp_watch.specs.declared.rule.Rule.TheVariants.{AfterExit}
use Rattle.lsp_watch.specs.declared.direction.Direction.{Direction}
use Rattle.lsp_watch.specs.declared.direction.Direction.TheVariants.{ToServer, ToClient}
use Rattle.lsp_watch.specs.declared.lifecycle.Lifecycle.{Lifecycle}
use Rattle.lsp_watch.proofs.CleanReplies.{first_none, second_none, mapped_none, lifecycle_fits}

-- ---- places

none_or : (b : Bool) (place : ℕ) (o : Option ℕ) (rest : Bool) → (o ≡ None → rest ≡ false) → cond b (Some place) o ≡ None
    → (b || rest) ≡ false
none_or true place o rest more e = cc
none_or false place o rest more e = more e

none_such : (such : Passed → Bool) (log : Log) → place_of such log ≡ None → list_any such log ≡ false
none_such such [] e = refl
none_such such (p ∷ before) e = none_or (such p) p.place (place_of such before) (list_any such before)
    (none_such such before) e

one_or : (b : Bool) (place : ℕ) (o : Option ℕ) (rest : Bool) → (is_some o ≡ true → rest ≡ true)
    → is_some (cond b (Some place) o) ≡ true → (b || rest) ≡ true
one_or true place o rest more e = refl
one_or false place o rest more e = more e

one_such : (such : Passed → Bool) (log : Log) → is_some (place_of such log) ≡ true → list_any such log ≡ true
one_such such [] e = cc
one_such such (p ∷ before) e = one_or (such p) p.place (place_of such before) (list_any such before)
    (one_such such before) e

or_right : (a b : Bool) → b ≡ true → (a || b) ≡ true
or_right true b e = refl
or_right false b e = e

or_more : (a b c : Bool) → (b ≡ true → c ≡ true) → (a || b) ≡ true → (a || c) ≡ true
or_more true b c more e = refl
or_more false b c more e = more e

or_false_right : (a : Bool) → (a || false) ≡ true → a ≡ true
or_false_right true e = refl
or_false_right false e = e

-- an `initialize` that has no reply was sent
module _ (such : Open → Bool) where
  without_any : (q : Open → Bool) (xs : List Open) → list_any such (without_first q xs) ≡ true
      → list_any such xs ≡ true
  without_any q [] e = e
  without_any q (x ∷ xs) e = by (q x) (such x) (without_any q xs) e
    where
      by : (b s : Bool) → (list_any such (without_first q xs) ≡ true → list_any such xs ≡ true)
          → list_any such (cond b xs (x ∷ without_first q xs)) ≡ true → (such x || list_any such xs) ≡ true
      by true s more e = or_right (such x) (list_any such xs) e
      by false s more e = or_more (such x) (list_any such (without_first q xs)) (list_any such xs) more e

  any_push : (xs : List Open) (y : Open) → list_any such (xs ++ y ∷ []) ≡ true
      → (list_any such xs || such y) ≡ true
  any_push [] y e = or_false_right (such y) e
  any_push (x ∷ xs) y e = by (such x) (any_push xs y) e
    where
      by : (b : Bool) → (list_any such (xs ++ y ∷ []) ≡ true → (list_any such xs || such y) ≡ true)
          → (b || list_any such (xs ++ y ∷ [])) ≡ true → ((b || list_any such xs) || such y) ≡ true
      by true more e = refl
      by false more e = more e

  pub find_any : (xs : List Open) → is_some (option_map (λ (o : Open). o.place) (find such xs)) ≡ true
      → list_any such xs ≡ true
  find_any [] e = cc
  find_any (x ∷ xs) e = by (such x) (find_any xs) e
    where
      by : (b : Bool)
          → (is_some (option_map (λ (o : Open). o.place) (find such xs)) ≡ true → list_any such xs ≡ true)
          → is_some (option_map (λ (o : Open). o.place) (cond b (Some x) (find such xs))) ≡ true
          → (b || list_any such xs) ≡ true
      by true more e = refl
      by false more e = more e

swap_or : (a b : Bool) → (a || b) ≡ true → (b || a) ≡ true
swap_or true b e = or_right b true refl
swap_or false true e = refl
swap_or false false e = cc

opened_by : (direction : Direction) (place : ℕ) (m : Message) (before : Log)
    → (list_any opens_session (open_of before) ≡ true → list_any is_initialize before ≡ true)
    → list_any opens_session (open_after direction place m (open_of before)) ≡ true
    → (is_initialize (record { direction = direction; place = place; message = m }) || list_any is_initialize before)
    ≡ true
opened_by direction place (request i method params) before more e = or_more
    (from_client direction && bytes_eq method (codes "initialize"))
    (list_any opens_session (open_of before)) (list_any is_initialize before) more
    (swap_or (list_any opens_session (open_of before)) (from_client direction && bytes_eq method (codes "initialize"))
    (any_push opens_session (open_of before) _ e))
opened_by direction place (notification method params) before more e =
    or_right (from_client direction && false) (list_any is_initialize before) (more e)
opened_by direction place (response i outcome) before more e =
    or_right (from_client direction && false) (list_any is_initialize before)
    (more (without_any opens_session (is_for (other direction) i) (open_of before) e))

open_initialize : (log : Log) → list_any opens_session (open_of log) ≡ true → list_any is_initialize log ≡ true
open_initialize [] e = e
open_initialize (p ∷ before) e = opened_by p.direction p.place p.message before (open_initialize before) e

one_initialize : (log : Log) → is_some (initializing log) ≡ true → list_any is_initialize log ≡ true
one_initialize log e = open_initialize log (find_any opens_session (open_of log) e)

both : (a b : Bool) → (a && b) ≡ true → (a ≡ true) × (b ≡ true)
both true b e = (refl, e)
both false b e = cc

pub has_result : (log : Log) → is_some (initialize_result log) ≡ true → HasResult log
has_result [] e = cc
has_result (p ∷ before) e = by (has_result before) (answers_initialize before p && is_success p.message) refl e
  where
    by : (is_some (initialize_result before) ≡ true → HasResult before) → (b : Bool)
        → (answers_initialize before p && is_success p.message) ≡ b
        → is_some (cond b (Some p.place) (initialize_result before)) ≡ true → HasResult (p ∷ before)
    by more true is e = let parts = both (answers_initialize before p) (is_success p.message) is in record {
      earlier = before;
      reply = p;
      since = [];
      place = refl;
      answers = parts.0;
      succeeds = parts.1;
    }
    by more false is e = let found = more e in record {
      earlier = found.earlier;
      reply = found.reply;
      since = p ∷ found.since;
      place = ap (λ xs. p ∷ xs) found.place;
      answers = found.answers;
      succeeds = found.succeeds;
    }

and_of : (a b : Bool) → a ≡ true → b ≡ true → (a && b) ≡ true
and_of true b e f = f
and_of false b e f = cc

or_some : (b : Bool) (place : ℕ) (o : Option ℕ) → is_some o ≡ true → is_some (cond b (Some place) o) ≡ true
or_some true place o e = refl
or_some false place o e = e

pub result_kept : (since earlier : Log) (reply : Passed) → answers_initialize earlier reply ≡ true
    → is_success reply.message ≡ true → is_some (initialize_result (since ++ reply ∷ earlier)) ≡ true
result_kept [] earlier reply a s = ap (λ b. is_some (cond b (Some reply.place) (initialize_result earlier)))
    (and_of (answers_initialize earlier reply) (is_success reply.message) a s)
result_kept (p ∷ since) earlier reply a s = or_some
    (answers_initialize (since ++ reply ∷ earlier) p && is_success p.message) p.place _
    (result_kept since earlier reply a s)

no_result : (log : Log) → initialize_result log ≡ None → HasResult log → ⊥
no_result log e has = true≢false (sym (result_kept has.since has.earlier has.reply has.answers has.succeeds)
    ∙ ap (λ l. is_some (initialize_result l)) (sym has.place) ∙ ap is_some e)

-- ---- findings

never : (b : Bool) (x : Option ℕ) (rest more : Option Finding) → cond b (broken_by AfterExit x)
    (option_or (option_or (broken_by AfterExit x) rest) more) ≡ None → x ≡ None
never b None rest more e = refl
never true (Some p) rest more e = cc
never false (Some p) rest more e = cc

unless : (b : Bool) (x s : Option ℕ) (more : Option Finding) → cond b (broken_by AfterExit x)
    (option_or (option_or (broken_by AfterExit x) (broken_by AfterShutdown s)) more) ≡ None → (b ≡ true) ⊎ (s ≡ None)
unless true x s more e = inl refl
unless false x None more e = inr refl
unless false None (Some p) more e = cc
unless false (Some q) (Some p) more e = cc

pub otherwise : (b : Bool) (a first more : Option Finding) → b ≡ false → cond b a (option_or first more) ≡ None
    → more ≡ None
otherwise true a first more is e = cc
otherwise false a first more is e = second_none first more e

left_false : (a b : Bool) → (a || b) ≡ false → a ≡ false
left_false true b e = cc
left_false false b e = refl

right_false : (a b : Bool) → (a || b) ≡ false → b ≡ false
right_false true b e = cc
right_false false b e = e

taken : {A : Type 0} (b : Bool) (x y : Option A) → b ≡ true → cond b x y ≡ None → x ≡ None
taken true x y is e = e
taken false x y is e = cc

passed_by : {A : Type 0} (b : Bool) (x y : Option A) → b ≡ false → cond b x y ≡ None → y ≡ None
passed_by true x y is e = cc
passed_by false x y is e = e

abbrev uninvited : ℕ → Option ℕ → Option Finding
uninvited place o = cond (is_some o) None (Some (BeforeInitialized, Some place))

has_come : (place : ℕ) (o : Option ℕ) → uninvited place o ≡ None → is_some o ≡ true
has_come place None e = cc
has_come place (Some x) e = refl

module _ (stands : Lifecycle) (waits : Option ℕ) (m : Message) where
  result_came : (r : Option ℕ) → opened_finding stands waits r m ≡ None → is_some r ≡ true
  result_came None e = cc
  result_came (Some place) e = refl

  invited : (r : Option ℕ) → opened_finding stands waits r m ≡ None → tells (codes "initialized") m ≡ false
      → is_some stands.initialized ≡ true
  invited None e other = cc
  invited (Some place) e other = has_come place stands.initialized (passed_by (tells (codes "initialized") m)
      (broken_by SentAgain stands.initialized) (uninvited place stands.initialized) other e)

  again : (r : Option ℕ) → opened_finding stands waits r m ≡ None → tells (codes "initialized") m ≡ true
      → stands.initialized ≡ None
  again None e is = cc
  again (Some place) e is = mapped_none (λ at. (SentAgain, Some at)) stands.initialized
      (taken (tells (codes "initialized") m) (broken_by SentAgain stands.initialized)
      (uninvited place stands.initialized) is e)

-- what differs from `exit`
not_exit : (m : Message) → asks (codes "initialize") m ≡ true → tells (codes "exit") m ≡ false
not_exit (request i method params) e = refl
not_exit (notification method params) e = cc
not_exit (response i outcome) e = cc

other_call : (m : Message) → tells (codes "initialized") m ≡ true → (tells (codes "exit") m ≡ false)
    × (asks (codes "initialize") m ≡ false)
other_call (request i method params) e = cc
other_call (response i outcome) e = cc
other_call (notification method params) e = (
  ap (λ t. bytes_eq t (codes "exit")) ((bytes_eq-Decides method (codes "initialized")).0 e),
  refl,
)

module _ (stands : Lifecycle) (waits : Option ℕ) (m : Message) (fits : client_finding stands waits m ≡ None) where
  opening_fits : tells (codes "exit") m ≡ false → opening_finding stands waits m ≡ None
  opening_fits other = otherwise (tells (codes "exit") m) (broken_by AfterExit stands.exit)
      (option_or (broken_by AfterExit stands.exit) (broken_by AfterShutdown stands.shutdown))
      (opening_finding stands waits m) other fits

  opened_fits : tells (codes "exit") m ≡ false → asks (codes "initialize") m ≡ false
      → opened_finding stands waits stands.result m ≡ None
  opened_fits other later = passed_by (asks (codes "initialize") m)
      (option_or (broken_by SentAgain stands.result) (broken_by BeforeResult waits))
      (opened_finding stands waits stands.result m) later (opening_fits other)

  first_fits : asks (codes "initialize") m ≡ true → stands.result ≡ None
  first_fits is = mapped_none (λ at. (SentAgain, Some at)) stands.result
      (first_none (broken_by SentAgain stands.result) (broken_by BeforeResult waits)
      (taken (asks (codes "initialize") m)
      (option_or (broken_by SentAgain stands.result) (broken_by BeforeResult waits))
      (opened_finding stands waits stands.result m) is (opening_fits (not_exit m is))))

  never_exit : stands.exit ≡ None
  never_exit = never (tells (codes "exit") m) stands.exit (broken_by AfterShutdown stands.shutdown)
      (opening_finding stands waits m) fits

  exit_or_serving : (tells (codes "exit") m ≡ true) ⊎ (stands.shutdown ≡ None)
  exit_or_serving = unless (tells (codes "exit") m) stands.exit stands.shutdown (opening_finding stands waits m) fits

  opened_later : (tells (codes "exit") m || asks (codes "initialize") m) ≡ false
      → opened_finding stands waits stands.result m ≡ None
  opened_later e = opened_fits (left_false (tells (codes "exit") m) (asks (codes "initialize") m) e)
      (right_false (tells (codes "exit") m) (asks (codes "initialize") m) e)

serves : (before : Log) (m : Message)
    → (tells (codes "exit") m ≡ true) ⊎ (place_of (client_asks (codes "shutdown")) before ≡ None)
    → (tells (codes "exit") m ≡ true) ⊎ (list_any (client_asks (codes "shutdown")) before ≡ false)
serves before m (inl is) = inl is
serves before m (inr none) = inr (none_such (client_asks (codes "shutdown")) before none)

client_order : (before : Log) (m : Message) → client_finding (lifecycle_of before) (initializing before) m ≡ None
    → ClientKeepsOrder before m
client_order before m fits = let stands : Lifecycle = lifecycle_of before in let w = initializing before in record {
  unended = none_such (client_tells (codes "exit")) before (never_exit stands w m fits);
  serving = serves before m (exit_or_serving stands w m fits);
  opened = λ later. has_result before (result_came stands w m stands.result (opened_later stands w m fits later));
  invited = λ later other. one_such (client_tells (codes "initialized")) before (invited stands w m stands.result
      (opened_later stands w m fits later) other);
  once = λ is. none_such (client_tells (codes "initialized")) before (again stands w m stands.result
      (opened_fits stands w m fits (other_call m is).0 (other_call m is).1) is);
  first = λ is. no_result before (first_fits stands w m fits is);
}

abbrev too_early : Bool → Option ℕ → Option Finding
too_early may at = cond may None (Some (BeforeResult, at))

server_order : (before : Log) (m : Message)
    → server_finding (lifecycle_of before) (initializing before) (tells_opening before m) m ≡ None
    → ServerKeepsOrder before m
server_order before m fits = by (is_some (initialize_result before)) (is_some (initializing before))
    (tells_opening before m || is_early m) refl refl refl fits
  where
    by : (r i e : Bool) → is_some (initialize_result before) ≡ r → is_some (initializing before) ≡ i
        → (tells_opening before m || is_early m) ≡ e
        → too_early (r || (i && e)) (initializing before) ≡ None → ServerKeepsOrder before m
    by true i e at waits early fits = inl (has_result before at)
    by false true true at waits early fits = inr (early, one_initialize before waits)
    by false true false at waits early fits = cc
    by false false e at waits early fits = cc

call_order : (before : Log) (direction : Direction) (m : Message) → lifecycle_finding before direction m ≡ None
    → is_call m ≡ true
    → MatchBool (from_client direction) (ClientKeepsOrder before m) (ServerKeepsOrder before m)
call_order before ToServer (request i method params) fits is = client_order before (request i method params) fits
call_order before ToServer (notification method params) fits is = client_order before (notification method params) fits
call_order before ToClient (request i method params) fits is = server_order before (request i method params) fits
call_order before ToClient (notification method params) fits is = server_order before (notification method params) fits
call_order before direction (response i outcome) fits is = cc

pub keeps_order : (log : Log) → IsClean log → KeepsOrder log
keeps_order log clean = λ later before p is call.
    call_order before p.direction p.message (lifecycle_fits before p.direction p.message (clean later before p is)) call
