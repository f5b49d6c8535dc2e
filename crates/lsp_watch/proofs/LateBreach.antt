-- A breach that looks at both sides, by a message after all of the other side, is there in each order.
use Rattle.std.proofs.Common.{◌≡◌, ℕ, ◌≤◌, Bool, true, false, cond, ◌||◌, ◌&&◌, ◌⊎◌, inl, inr, ⊎_elim, List, [], ◌∷◌}
use Rattle.std.proofs.Common.{◌++◌, Option, Some, None, is_some, option_map, refl, sym, ap, ◌∙◌, subst, codes, arith}
use Rattle.std.proofs.lemmas.List.{append_assoc, append-nil}
use Rattle.std.specs.List.{list_any}
use Rattle.std.specs.Option.{option_or}
use Rattle.std.specs.Prelude.{filter, find, option_and_then, option_to_list}
use Rattle.lsp_message.proofs.Ids.{same_own}
use Rattle.lsp_message.specs.Id.{Id, same_id}
use Rattle.lsp_message.specs.Message.{Message, request, notification, response}
use Rattle.lsp_watch.proofs.CleanOrder.{has_result, result_kept, find_any, otherwise}
use Rattle.lsp_watch.proofs.CleanReplies.{first_none, second_none, mapped_none, one_waits}
use Rattle.lsp_watch.proofs.EachOrder.{tells_same}
use Rattle.lsp_watch.proofs.Matched.{or_parts, or_right, Matched, matched_before, breaks_less, sent_append}
use Rattle.lsp_watch.proofs.Matched.{Found, find_place, same_end}
use Rattle.lsp_watch.proofs.Matched.{asked_in, replied_in, asked_append, replied_append, asked_own, replied_own}
use Rattle.lsp_watch.proofs.Matched.{asked_before, kept, some_first, reply_fits, at_place, still_waits}
use Rattle.lsp_watch.proofs.Queues.{first, rest as others_of, queue, waiting_is, both, and_true, same_direction_own}
use Rattle.lsp_watch.specs.Documents.{deed_in, params_in, uri_in, version_in, document_of, deed_finding, is_not_higher}
use Rattle.lsp_watch.specs.Documents.{document_finding}
use Rattle.lsp_watch.specs.Log.{
  Log,
  Passed,
  Open,
  Finding,
  passed,
  asks,
  tells,
  from_client,
  other,
  same_direction,
  is_for,
}
use Rattle.lsp_watch.specs.Log.{is_reply, reply_id, is_success, is_some_such, open_of, waiting, opens_session}
use Rattle.lsp_watch.specs.Log.{answers_initialize, progress_token, is_id}
use Rattle.lsp_watch.specs.Orders.{AreOrders, IsBehindAll, sent, is_late, is_unasked, any_finding, breaks}
use Rattle.lsp_watch.specs.CleanLog.{HasResult}
use Rattle.lsp_watch.specs.Progress.{gives, progress_finding, token_of, token_finding, created_finding}
use Rattle.lsp_watch.specs.Rules.{place_of, client_tells, lifecycle_of, initializing, initialize_result, broken_by}
use Rattle.lsp_watch.specs.Rules.{client_finding, opening_finding, opened_finding, server_finding, is_early}
use Rattle.lsp_watch.specs.Rules.{tells_opening, opens_under, reply_finding, session_finding}
use Rattle.lsp_watch.specs.Verdicts.{findings_of}
use Rattle.lsp_watch.specs.declared.direction.Direction.{Direction}
use Rattle.lsp_watch.specs.declared.direction.Direction.TheVariants.{ToServer, ToClient}
use Rattle.lsp_watch.specs.declared.documents.Deed.{Deed}
use Rattle.lsp_watch.specs.declared.documents.Deed.TheVariants.{Opens, Changes, Closes}
use Rattle.lsp_watch.specs.declared.documents.Document.{Document}
use Rattle.lsp_watch.specs.declared.lifecycle.Lifecycle.{Lifecycle}
use Rattle.lsp_watch.specs.declared.progress.Token.{Token}
use Rattle.lsp_watch.specs.declared.progress.Token.TheVariants.{Live, Ended}
use Rattle.lsp_watch.specs.declared.rule.Rule.TheVariants.{SentAgain, BeforeResult, BeforeInitialized, AfterExit}
use Rattle.lsp_watch.specs.declared.rule.Rule.TheVariants.{AfterShutdown, IdStillOpen, VersionNotHigher}

-- ---- one request that waits

find_such : (p : Open → Bool) (xs : List Open) (o : Open) → find p xs ≡ Some o → p o ≡ true
find_such p [] o e = cc
find_such p (x ∷ xs) o e = by (p x) refl (find_such p xs o) e
  where
    by : (b : Bool) → p x ≡ b → (find p xs ≡ Some o → p o ≡ true) → cond b (Some x) (find p xs) ≡ Some o → p o ≡ true
    by true is more e = let same : x ≡ o = cc in ap p (sym same) ∙ is
    by false is more e = more e

find_has : (p : Open → Bool) (xs : List Open) (o : Open) → find p xs ≡ Some o → (such : Open → Bool) → such o ≡ true
    → list_any such xs ≡ true
find_has p [] o e such is = cc
find_has p (x ∷ xs) o e such is = by (p x) (find_has p xs o) e
  where
    by : (b : Bool) → (find p xs ≡ Some o → (such : Open → Bool) → such o ≡ true → list_any such xs ≡ true)
        → cond b (Some x) (find p xs) ≡ Some o → (such x || list_any such xs) ≡ true
    by true more e = let same : x ≡ o = cc in ap (λ b. b || list_any such xs) (ap such same ∙ is)
    by false more e = or_right (such x) (list_any such xs) (more e such is)

has_find : (such : Open → Bool) (xs : List Open) → list_any such xs ≡ true
    → is_some (option_map (λ (o : Open). o.place) (find such xs)) ≡ true
has_find such [] e = cc
has_find such (x ∷ xs) e = by (such x) (has_find such xs) e
  where
    by : (b : Bool) → (list_any such xs ≡ true → is_some (option_map (λ (o : Open). o.place) (find such xs)) ≡ true)
        → (b || list_any such xs) ≡ true
        → is_some (option_map (λ (o : Open). o.place) (cond b (Some x) (find such xs))) ≡ true
    by true more e = refl
    by false more e = more e

any_first : (xs : List Open) (o : Open) → first xs ≡ Some o → list_any (λ o. true) xs ≡ true
any_first [] o e = cc
any_first (x ∷ xs) o e = refl

first_any : (xs : List Open) → first xs ≡ None → list_any (λ o. true) xs ≡ true → ⊥
first_any [] e is = cc
first_any (x ∷ xs) e is = cc

-- those of a client among those of one id
from_queue : (such p : Open → Bool) (xs : List Open) → list_any such (filter p xs) ≡ true → list_any such xs ≡ true
from_queue such p [] e = cc
from_queue such p (x ∷ xs) e = by (p x) (such x) (from_queue such p xs) e
  where
    by : (b s : Bool) → (list_any such (filter p xs) ≡ true → list_any such xs ≡ true)
        → list_any such (cond b (x ∷ filter p xs) (filter p xs)) ≡ true → (such x || list_any such xs) ≡ true
    by true s more e = left (such x) more e
      where
        left : (s : Bool) → (list_any such (filter p xs) ≡ true → list_any such xs ≡ true)
            → (s || list_any such (filter p xs)) ≡ true → (s || list_any such xs) ≡ true
        left true more e = refl
        left false more e = more e
    by false s more e = or_right (such x) (list_any such xs) (more e)

module _ (such : Open → Bool) (client : (o : Open) → such o ≡ true → from_client o.direction ≡ true) where
  in_queue : (xs : List Open) → list_any such xs ≡ true
      → (id : Id) × (list_any such (filter (is_for ToServer id) xs) ≡ true)
  in_queue [] e = cc
  in_queue (x ∷ xs) e = by (such x) refl (in_queue xs) e
    where
      put : (id : Id) (b : Bool) → list_any such (filter (is_for ToServer id) xs) ≡ true
          → list_any such (cond b (x ∷ filter (is_for ToServer id) xs) (filter (is_for ToServer id) xs)) ≡ true
      put id true e = or_right (such x) _ e
      put id false e = e

      by : (b : Bool) → such x ≡ b
          → (list_any such xs ≡ true → (id : Id) × (list_any such (filter (is_for ToServer id) xs) ≡ true))
          → (b || list_any such xs) ≡ true
          → (id : Id) × (list_any such (filter (is_for ToServer id) (x ∷ xs)) ≡ true)
      by true is more e = (
        x.id,
        ap (λ b. list_any such (cond b (x ∷ filter (is_for ToServer x.id) xs) (filter (is_for ToServer x.id) xs)))
            (and_true (from_client x.direction) (same_id x.id x.id) (client x is) (same_own x.id))
            ∙ ap (λ b. b || list_any such (filter (is_for ToServer x.id) xs)) is,
      )
      by false is more e = let found = more e in (found.0, put found.0 (is_for ToServer found.0 x) found.1)

  -- a client's request that waits in one log waits in another one
  waits_too : (one two : Log) → Matched one → Matched two
      → ((id : Id) → (more : List Open) × (asked_in ToServer id two ≡ asked_in ToServer id one ++ more))
      → ((id : Id) → replied_in ToServer id two ≤ replied_in ToServer id one)
      → list_any such (open_of one) ≡ true → list_any such (open_of two) ≡ true
  waits_too one two first second asks replies e =
      let found = in_queue (open_of one) e in
      let more = asks found.0 in
      from_queue such (is_for ToServer found.0) (open_of two)
      (still_waits ToServer found.0 one two such first second more.0 more.1 (replies found.0) found.1)

-- ---- the result of `initialize`

record AnswersIt (log : Log) (r : Passed) : Type 0 where
  id : Id
  asked : Open
  names : reply_id r.message ≡ Some id
  direction : r.direction ≡ ToClient
  waits : waiting ToServer id log ≡ Some asked
  opens : opens_session asked ≡ true

some_open : (o : Option Open) → is_some_such opens_session o ≡ true
    → (asked : Open) × (o ≡ Some asked) × (opens_session asked ≡ true)
some_open None e = cc
some_open (Some asked) e = (asked, refl, e)

of_server : (o : Open) → is_for ToClient o.id o ≡ true → opens_session o ≡ true → ⊥
of_server o e is = apart o.direction (both (same_direction ToClient o.direction) (same_id o.id o.id) e).0
    (both (from_client o.direction) _ is).0
  where
    apart : (direction : Direction) → same_direction ToClient direction ≡ true → from_client direction ≡ true → ⊥
    apart ToServer e is = cc
    apart ToClient e is = cc

answers_it : (log : Log) (direction : Direction) (place : ℕ) (m : Message)
    → answers_initialize log (passed direction place m) ≡ true
    → AnswersIt log (passed direction place m)
answers_it log direction place (request i method params) e = cc
answers_it log direction place (notification method params) e = cc
answers_it log ToClient place (response i outcome) e = let found = some_open (waiting ToServer i log) e in record {
  id = i;
  asked = found.0;
  names = refl;
  direction = refl;
  waits = found.1;
  opens = found.2;
}
answers_it log ToServer place (response i outcome) e =
    let found = some_open (waiting ToClient i log) e in
    let for_it = find_such (is_for ToClient i) (open_of log) found.0 found.1 in
    absurd (of_server found.0
    (and_true (same_direction ToClient found.0.direction) (same_id found.0.id found.0.id)
    (both (same_direction ToClient found.0.direction) (same_id i found.0.id) for_it).0 (same_own found.0.id)) found.2)

it_answers : (log : Log) (r : Passed) (id : Id) (o : Open) → reply_id r.message ≡ Some id → r.direction ≡ ToClient
    → waiting ToServer id log ≡ Some o → opens_session o ≡ true → answers_initialize log r ≡ true
it_answers log r id o names direction waits opens =
    ap (λ w. is_some_such opens_session (option_and_then (λ i. waiting (other w) i log) (reply_id r.message))) direction
    ∙ ap (λ i. is_some_such opens_session (option_and_then (λ i. waiting ToServer i log) i)) names
    ∙ ap (is_some_such opens_session) waits ∙ opens

sent_here : (direction : Direction) (p : Passed) (earlier : Log) → p.direction ≡ direction
    → sent direction (p ∷ earlier) ≡ p ∷ sent direction earlier
sent_here direction p earlier is = ap (λ w. cond (same_direction direction w) (p ∷ sent direction earlier)
    (sent direction earlier)) is
    ∙ ap (λ b. cond b (p ∷ sent direction earlier) (sent direction earlier)) (same_direction_own direction)

-- two lists of requests with a common front
abbrev Common : Log → Log → Id → Type 0
Common one two id = (m : List Open) × (n : List Open) × (asked_in ToServer id one ++ m ≡ asked_in ToServer id two ++ n)

-- a reply that gives `initialize` its result gives it also in another log
module _ (earlier : Log) (r : Passed) (answers : answers_initialize earlier r ≡ true)
    (succeeds : is_success r.message ≡ true) (matched : Matched earlier) where
  abbrev it : AnswersIt earlier r
  it = answers_it earlier r.direction r.place r.message answers

  at_it : (two since found : Log) → Matched two → two ≡ since ++ r ∷ found → sent ToClient found ≡ sent ToClient earlier
      → Common earlier two it.id → is_some (initialize_result two) ≡ true
  at_it two since found fits place behind common =
      let here : Matched (r ∷ found) = matched_before since (r ∷ found) (subst Matched place fits) in
      let replies : is_reply ToServer it.id r ≡ true = and_true (same_direction ToClient r.direction)
      (is_id it.id (reply_id r.message)) (ap (same_direction ToClient) it.direction)
      (ap (is_id it.id) it.names ∙ same_own it.id) in
      let waits = one_waits found ToServer it.id r.direction r.place r.message replies
      (reply_fits found r it.id it.names here) in
      let a = kept ToServer it.id earlier matched in
      let b = kept ToServer it.id found (matched_before (r ∷ []) found here) in
      let tail = asked_before ToServer it.id since r found in
      let qa = some_first ToServer it.id (queue ToServer it.id earlier) it.asked
      (sym (waiting_is ToServer it.id earlier) ∙ it.waits) in
      let qb = some_first ToServer it.id (queue ToServer it.id found) waits.0
      (sym (waiting_is ToServer it.id found) ∙ waits.1) in
      let left : a.done ++ it.asked ∷ (others_of (queue ToServer it.id earlier) ++ common.0)
      ≡ asked_in ToServer it.id earlier ++ common.0 =
      sym (ap (λ zs. zs ++ common.0) (a.is ∙ ap (λ zs. a.done ++ zs) qa)
      ∙ append_assoc a.done (it.asked ∷ others_of (queue ToServer it.id earlier)) common.0) in
      let right : asked_in ToServer it.id two ++ common.1
      ≡ b.done ++ waits.0 ∷ (others_of (queue ToServer it.id found) ++ (tail.0 ++ common.1)) =
      ap (λ zs. zs ++ common.1) (ap (asked_in ToServer it.id) place ∙ tail.1)
      ∙ append_assoc (asked_in ToServer it.id found) tail.0 common.1
      ∙ ap (λ zs. zs ++ (tail.0 ++ common.1)) (b.is ∙ ap (λ zs. b.done ++ zs) qb)
      ∙ append_assoc b.done (waits.0 ∷ others_of (queue ToServer it.id found)) (tail.0 ++ common.1) in
      let same : it.asked ≡ waits.0 = at_place a.done b.done it.asked waits.0
      (others_of (queue ToServer it.id earlier) ++ common.0)
      (others_of (queue ToServer it.id found) ++ (tail.0 ++ common.1))
      (left ∙ common.2 ∙ right)
      (a.count ∙ replied_own ToServer it.id earlier ∙ ap (replied_in ToServer it.id) (sym behind)
      ∙ sym (replied_own ToServer it.id found) ∙ sym b.count) in
      ap (λ l. is_some (initialize_result l)) place
      ∙ result_kept since found r
      (it_answers found r it.id waits.0 it.names it.direction waits.1 (ap opens_session (sym same) ∙ it.opens)) succeeds

  too : (two : Log) (later : List Passed) → Matched two → sent ToClient two ≡ later ++ r ∷ sent ToClient earlier
      → Common earlier two it.id → is_some (initialize_result two) ≡ true
  too two later fits e common =
      let found = find_place ToClient two later (sent ToClient earlier) r e in
      at_it two found.since found.earlier fits found.place found.behind common

-- an element of a list lies in its end, or before that
split : {A : Type 0} (xs : List A) (x : A) (zs ns ys : List A) → xs ++ x ∷ zs ≡ ns ++ ys
    → ((l : List A) × (ys ≡ l ++ x ∷ zs)) ⊎ ((l : List A) × (zs ≡ l ++ ys))
split [] x zs [] ys e = inl ([], sym e)
split [] x zs (n ∷ ns) ys e = inr (ns, cc)
split (a ∷ xs) x zs [] ys e = inl (a ∷ xs, sym e)
split (a ∷ xs) x zs (n ∷ ns) ys e = split xs x zs ns ys cc

-- ---- two logs, of which one has more of what each side sent

module _ (before rest : Log) (whole : Matched before) (part : Matched rest) where
  module _ (nc ns : List Passed) (clients : sent ToServer before ≡ nc ++ sent ToServer rest)
      (servers : sent ToClient before ≡ ns ++ sent ToClient rest) where
    more_asked : (id : Id) → (more : List Open) × (asked_in ToServer id before ≡ asked_in ToServer id rest ++ more)
    more_asked id = (
      asked_in ToServer id nc,
      asked_own ToServer id before ∙ ap (asked_in ToServer id) clients
          ∙ asked_append ToServer id nc (sent ToServer rest)
          ∙ ap (λ zs. zs ++ asked_in ToServer id nc) (sym (asked_own ToServer id rest)),
    )

    result_too : is_some (initialize_result rest) ≡ true → is_some (initialize_result before) ≡ true
    result_too e =
        let h = has_result rest e in
        let fits : Matched (h.reply ∷ h.earlier) =
        matched_before h.since (h.reply ∷ h.earlier) (subst Matched h.place part) in
        let it = answers_it h.earlier h.reply.direction h.reply.place h.reply.message h.answers in
        let tail = asked_before ToServer it.id h.since h.reply h.earlier in
        let more = more_asked it.id in
        too h.earlier h.reply h.answers h.succeeds (matched_before (h.reply ∷ []) h.earlier fits) before
        (ns ++ sent ToClient h.since) whole
        (servers ∙ ap (λ zs. ns ++ zs) (ap (sent ToClient) h.place ∙ sent_append ToClient h.since (h.reply ∷ h.earlier)
        ∙ ap (λ zs. sent ToClient h.since ++ zs) (sent_here ToClient h.reply h.earlier it.direction))
        ∙ sym (append_assoc ns (sent ToClient h.since) (h.reply ∷ sent ToClient h.earlier))) (
          tail.0 ++ more.0,
          [],
          sym (append_assoc (asked_in ToServer it.id h.earlier) tail.0 more.0)
              ∙ ap (λ zs. zs ++ more.0) (sym (ap (asked_in ToServer it.id) h.place ∙ tail.1))
              ∙ sym more.1 ∙ sym (append-nil (asked_in ToServer it.id before)),
        )

-- ---- what was asked and replied, by what each side sent

asked_from : (direction : Direction) (id : Id) (one two : Log) (more : List Passed) → sent direction two ≡ more
    ++ sent direction one
    → asked_in direction id two ≡ asked_in direction id one ++ asked_in direction id more
asked_from direction id one two more e = asked_own direction id two ∙ ap (asked_in direction id) e
    ∙ asked_append direction id more (sent direction one)
    ∙ ap (λ zs. zs ++ asked_in direction id more) (sym (asked_own direction id one))

replied_from : (direction : Direction) (id : Id) (one two : Log) (more : List Passed)
    → sent (other direction) one ≡ more ++ sent (other direction) two
    → replied_in direction id two ≤ replied_in direction id one
replied_from direction id one two more e = fewer _ _ _ _ (replied_own direction id two)
    (replied_own direction id one ∙ ap (replied_in direction id) e)
    (replied_append direction id more (sent (other direction) two))
  where
    fewer : (a b c d : ℕ) → a ≡ c → b ≡ d → c ≤ d → a ≤ b
    fewer a b c d e f g = omega (arith, e, f, g)

-- a request that waits in one log cannot be missing in another one, in which as much or more was asked
no_longer : (direction : Direction) (id : Id) (one two : Log) → Matched one → Matched two → (more : List Open)
    → asked_in direction id two ≡ asked_in direction id one ++ more
    → replied_in direction id two ≤ replied_in direction id one
    → (o : Open) → waiting direction id one ≡ Some o → waiting direction id two ≡ None → ⊥
no_longer direction id one two first second more asks replies o is none =
    first_any (queue direction id two) (sym (waiting_is direction id two) ∙ none)
    (still_waits direction id one two (λ o. true) first second more asks replies
    (any_first (queue direction id one) o (sym (waiting_is direction id one) ∙ is)))

-- ---- findings

abbrev Late : Option Finding → Type 0
Late found = is_some_such is_late found ≡ true

late_or : (a b : Option Finding) → Late (option_or a b) → Late a ⊎ Late b
late_or None b e = inr e
late_or (Some a) b e = inl e

late_id : (o : Option Open) → Late (option_map (λ (asked : Open). (IdStillOpen, Some asked.place)) o)
    → (asked : Open) × (o ≡ Some asked)
late_id None e = cc
late_id (Some asked) e = (asked, refl)

late_reply : (o : Option Open) → Late (reply_finding o) → o ≡ None
late_reply None e = refl
late_reply (Some asked) e = cc

fits_reply : (o : Option Open) → reply_finding o ≡ None → (asked : Open) × (o ≡ Some asked)
fits_reply None e = cc
fits_reply (Some asked) e = (asked, refl)

late_again : (result waits : Option ℕ) → Late (option_or (broken_by SentAgain result) (broken_by BeforeResult waits))
    → (is_some result ≡ true) ⊎ (is_some waits ≡ true)
late_again None None e = cc
late_again None (Some place) e = inr refl
late_again (Some place) waits e = inl refl

late_call : (b : Bool) (exit shutdown : Option ℕ) (one : Option Finding)
    → Late (cond b (broken_by AfterExit exit)
    (option_or (option_or (broken_by AfterExit exit) (broken_by AfterShutdown shutdown)) one))
    → (b ≡ false) × Late one
late_call true None shutdown one e = cc
late_call true (Some place) shutdown one e = cc
late_call false (Some place) shutdown one e = cc
late_call false None (Some place) one e = cc
late_call false None None one e = (refl, e)

absent : {A : Type 0} (o : Option A) → o ≡ None → is_some o ≡ true → ⊥
absent None e is = cc
absent (Some x) e is = cc

late_invited : (b : Bool) (i j : Option ℕ) (p q : ℕ) → i ≡ j
    → Late (cond b (broken_by SentAgain i) (cond (is_some i) None (Some (BeforeInitialized, Some p))))
    → cond b (broken_by SentAgain j) (cond (is_some j) None (Some (BeforeInitialized, Some q))) ≡ None → ⊥
late_invited true None j p q same e none = cc
late_invited true (Some a) None p q same e none = cc
late_invited true (Some a) (Some b) p q same e none = cc
late_invited false None j p q same e none = cc
late_invited false (Some a) j p q same e none = cc

late_opened : (s t : Lifecycle) (v w : Option ℕ) (m : Message) (a b : Option ℕ) → s.initialized ≡ t.initialized
    → (is_some b ≡ true → is_some a ≡ true) → Late (opened_finding s v a m) → opened_finding t w b m ≡ None → ⊥
late_opened s t v w m a None same keeps e none = cc
late_opened s t v w m None (Some q) same keeps e none = let o : Option ℕ = None in absent o refl (keeps refl)
late_opened s t v w m (Some p) (Some q) same keeps e none =
    late_invited (tells (codes "initialized") m) s.initialized t.initialized p q same e none

or_one : (a b : Bool) → a ≡ true → (a || b) ≡ true
or_one true b e = refl
or_one false b e = cc

grows : (a b v w m n early : Bool) → (b ≡ true → a ≡ true) → (w ≡ true → v ≡ true) → (n ≡ true → m ≡ true)
    → (b || (w && (n || early))) ≡ true → (a || (v && (m || early))) ≡ true
grows a true v w m n early f g h e = or_one a _ (f refl)
grows a false v true m true early f g h e = or_right a _ (and_true v (m || early) (g refl) (or_one m early (h refl)))
grows a false v true m false early f g h e = or_right a _ (and_true v (m || early) (g refl) (or_right m early e))
grows a false v false m n early f g h e = cc

abbrev before_it : Option ℕ → Option Finding
before_it at = Some (BeforeResult, at)

late_server : (b c : Bool) (at place : Option ℕ) → (c ≡ true → b ≡ true) → Late (cond b None (before_it at))
    → cond c None (before_it place) ≡ None → ⊥
late_server true c at place keeps e none = cc
late_server false true at place keeps e none = let bad : false ≡ true = keeps refl in cc
late_server false false at place keeps e none = cc

late_version : (b : Bool) (place : ℕ) → Late (cond b (Some (VersionNotHigher, Some place)) None) → ⊥
late_version true place e = cc
late_version false place e = cc

late_deed : (deed : Deed) (version : _) (d : Option Document) → Late (deed_finding deed version d) → ⊥
late_deed Opens version None e = cc
late_deed Opens version (Some d) e = cc
late_deed Changes version None e = cc
late_deed Closes version None e = cc
late_deed Closes version (Some d) e = cc
late_deed Changes version (Some d) e = late_version (is_not_higher version d.version) d.reported e

late_document : (before : Log) (direction : Direction) (m : Message) → Late (document_finding before direction m) → ⊥
late_document before direction m e = by (deed_in direction m) e
  where
    at : (deed : Deed) (uri : Option (List ℕ)) → Late (option_and_then (λ uri.
        deed_finding deed (version_in (params_in m)) (document_of uri before)) uri) → ⊥
    at deed None e = cc
    at deed (Some uri) e = late_deed deed (version_in (params_in m)) (document_of uri before) e

    by : (deed : Option Deed) → Late (option_and_then (λ deed. option_and_then (λ uri.
        deed_finding deed (version_in (params_in m)) (document_of uri before)) (uri_in (params_in m))) deed) → ⊥
    by None e = cc
    by (Some deed) e = at deed (uri_in (params_in m)) e

late_created : (b : Bool) (direction : Direction) (token : Option Token)
    → Late (cond b None (created_finding direction token)) → ⊥
late_created true direction token e = cc
late_created false ToServer token e = cc
late_created false ToClient None e = cc
late_created false ToClient (Some Live) e = cc
late_created false ToClient (Some (Ended place)) e = cc

late_progress : (before : Log) (direction : Direction) (m : Message) → Late (progress_finding before direction m) → ⊥
late_progress before direction m e = by (progress_token m) e
  where
    by : (name : Option Id) → Late (option_and_then (λ name.
        token_finding (open_of before) (token_of name before) direction name) name) → ⊥
    by None e = cc
    by (Some name) e = late_created (list_any (gives direction name) (open_of before)) direction (token_of name before)
        e

or_end : (a : Bool) → (a || false) ≡ true → a ≡ true
or_end true e = refl
or_end false e = e

late_last : (c : Option Finding) → list_any is_late (option_to_list c) ≡ true → Late c
late_last None e = cc
late_last (Some c) e = or_end (is_late c) e

or_cases : (a b : Bool) → (a || b) ≡ true → (a ≡ true) ⊎ (b ≡ true)
or_cases true b e = inl refl
or_cases false b e = inr e

late_two : (b c : Option Finding) → list_any is_late (option_to_list b ++ option_to_list c) ≡ true → Late b ⊎ Late c
late_two None c e = inr (late_last c e)
late_two (Some b) c e = ⊎_elim (λ at. inl at) (λ at. inr (late_last c at)) (or_cases (is_late b) _ e)

late_one : (a b c : Option Finding)
    → list_any is_late (option_to_list a ++ (option_to_list b ++ option_to_list c)) ≡ true
    → Late a ⊎ (Late b ⊎ Late c)
late_one None b c e = inr (late_two b c e)
late_one (Some a) b c e = ⊎_elim (λ at. inl at) (λ at. inr (late_two b c at)) (or_cases (is_late a) _ e)

late_session : (before : Log) (direction : Direction) (m : Message) → list_any is_late (findings_of before direction m)
    ≡ true
    → Late (session_finding before direction m)
late_session before direction m e = ⊎_elim (λ at. at)
    (λ more. absurd (⊎_elim (late_document before direction m) (late_progress before direction m) more))
    (late_one (session_finding before direction m) (document_finding before direction m)
    (progress_finding before direction m) e)

-- ---- one message

opens_client : (o : Open) → opens_session o ≡ true → from_client o.direction ≡ true
opens_client o e = (both (from_client o.direction) _ e).0

under_client : (name : Id) (o : Open) → opens_under name o ≡ true → from_client o.direction ≡ true
under_client name o e = opens_client o (both (opens_session o) _ e).0

module _ (before rest : Log) (whole : Matched before) (part : Matched rest) (newer : List Passed) where
  -- of the client: its side sent the same before
  module _ (own : sent ToServer rest ≡ sent ToServer before)
      (others : sent ToClient before ≡ newer ++ sent ToClient rest)
    where
      asked_same : (id : Id) → asked_in ToServer id rest ≡ asked_in ToServer id before ++ []
      asked_same id = asked_from ToServer id before rest [] own

      fewer : (id : Id) → replied_in ToServer id rest ≤ replied_in ToServer id before
      fewer id = replied_from ToServer id before rest newer others

      waits_still : is_some (initializing before) ≡ true → is_some (initializing rest) ≡ true
      waits_still e = has_find opens_session (open_of rest)
          (waits_too opens_session opens_client before rest whole part (λ id. ([], asked_same id)) fewer
          (find_any opens_session (open_of before) e))

      again : is_some (initialize_result before) ≡ true
          → (is_some (initialize_result rest) ≡ true) ⊎ (is_some (initializing rest) ≡ true)
      again e = ⊎_elim (λ at. inl (in_part at)) (λ at. inr (still at))
          (split (sent ToClient h.since) h.reply (sent ToClient h.earlier) newer (sent ToClient rest)
          (sym stands ∙ others))
        where
          h : HasResult before
          h = has_result before e

          fits : Matched (h.reply ∷ h.earlier)
          fits = matched_before h.since (h.reply ∷ h.earlier) (subst Matched h.place whole)

          earlier_fits : Matched h.earlier
          earlier_fits = matched_before (h.reply ∷ []) h.earlier fits

          it : AnswersIt h.earlier h.reply
          it = answers_it h.earlier h.reply.direction h.reply.place h.reply.message h.answers

          stands : sent ToClient before ≡ sent ToClient h.since ++ h.reply ∷ sent ToClient h.earlier
          stands = ap (sent ToClient) h.place ∙ sent_append ToClient h.since (h.reply ∷ h.earlier)
              ∙ ap (λ zs. sent ToClient h.since ++ zs) (sent_here ToClient h.reply h.earlier it.direction)

          all : (id : Id) → (more : List Open) × (asked_in ToServer id rest ≡ asked_in ToServer id h.earlier ++ more)
          all id = let tail = asked_before ToServer id h.since h.reply h.earlier in (
            tail.0,
            asked_same id ∙ append-nil (asked_in ToServer id before) ∙ ap (asked_in ToServer id) h.place ∙ tail.1,
          )

          in_part : (l : List Passed) × (sent ToClient rest ≡ l ++ h.reply ∷ sent ToClient h.earlier)
              → is_some (initialize_result rest) ≡ true
          in_part at = let front = all it.id in
              too h.earlier h.reply h.answers h.succeeds earlier_fits rest at.0 part at.1
              (front.0, [], sym front.1 ∙ sym (append-nil (asked_in ToServer it.id rest)))

          still : (l : List Passed) × (sent ToClient h.earlier ≡ l ++ sent ToClient rest)
              → is_some (initializing rest) ≡ true
          still at = has_find opens_session (open_of rest)
              (waits_too opens_session opens_client h.earlier rest earlier_fits part all
              (λ id. replied_from ToServer id h.earlier rest at.0 at.1)
              (find_has (is_for ToServer it.id) (open_of h.earlier) it.asked it.waits opens_session it.opens))

      opening : (m : Message) → Late (opening_finding (lifecycle_of before) (initializing before) m)
          → opening_finding (lifecycle_of rest) (initializing rest) m ≡ None → ⊥
      opening m e none = by (asks (codes "initialize") m) e none
        where
          by : (b : Bool)
              → Late (cond b (option_or (broken_by SentAgain (initialize_result before))
              (broken_by BeforeResult (initializing before)))
              (opened_finding (lifecycle_of before) (initializing before) (initialize_result before) m))
              → cond b (option_or (broken_by SentAgain (initialize_result rest))
              (broken_by BeforeResult (initializing rest)))
              (opened_finding (lifecycle_of rest) (initializing rest) (initialize_result rest) m) ≡ None → ⊥
          by true e none =
              let result : initialize_result rest ≡ None = mapped_none _ _ (first_none _ _ none) in
              let waits : initializing rest ≡ None = mapped_none _ _ (second_none _ _ none) in
              ⊎_elim
              (λ at. ⊎_elim (absent (initialize_result rest) result) (absent (initializing rest) waits) (again at))
              (λ at. absent (initializing rest) waits (waits_still at))
              (late_again (initialize_result before) (initializing before) e)
          by false e none = late_opened (lifecycle_of before) (lifecycle_of rest) (initializing before)
              (initializing rest)
              m (initialize_result before) (initialize_result rest)
              (tells_same (codes "initialized") before ∙ ap (place_of (client_tells (codes "initialized"))) (sym own)
              ∙ sym (tells_same (codes "initialized") rest))
              (result_too before rest whole part [] newer (sym own) others) e none

      client : (m : Message) → Late (client_finding (lifecycle_of before) (initializing before) m)
          → client_finding (lifecycle_of rest) (initializing rest) m ≡ None → ⊥
      client m e none =
          let parts = late_call (tells (codes "exit") m) (lifecycle_of before).exit (lifecycle_of before).shutdown
          _ e in
          opening m parts.1 (otherwise (tells (codes "exit") m) _ _ _ parts.0 none)

      of_client : (m : Message) → Late (session_finding before ToServer m) → session_finding rest ToServer m ≡ None → ⊥
      of_client (request i method params) e none = ⊎_elim
          (λ at. client (request i method params) at (first_none _ _ none))
          (λ at. let asked = late_id (waiting ToServer i before) at in
          no_longer ToServer i before rest whole part [] (asked_same i) (fewer i) asked.0 asked.1
          (mapped_none _ _ (second_none _ _ none)))
          (late_or _ _ e)
      of_client (notification method params) e none = ⊎_elim
          (λ at. client (notification method params) at (first_none _ _ none)) (λ at. cc) (late_or _ _ e)
      of_client (response i outcome) e none =
          let asked = fits_reply (waiting ToClient i rest) none in
          no_longer ToClient i rest before part whole (asked_in ToClient i newer)
          (asked_from ToClient i rest before newer others)
          (replied_from ToClient i rest before [] own) asked.0 asked.1 (late_reply (waiting ToClient i before) e)

  -- of the server: its side sent the same before
  module _ (own : sent ToClient rest ≡ sent ToClient before)
      (others : sent ToServer before ≡ newer ++ sent ToServer rest)
    where
      asked_more : (id : Id) → (more : List Open) × (asked_in ToServer id before ≡ asked_in ToServer id rest ++ more)
      asked_more id = (asked_in ToServer id newer, asked_from ToServer id rest before newer others)

      as_many : (id : Id) → replied_in ToServer id before ≤ replied_in ToServer id rest
      as_many id = replied_from ToServer id rest before [] own

      waits_more : is_some (initializing rest) ≡ true → is_some (initializing before) ≡ true
      waits_more e = has_find opens_session (open_of before)
          (waits_too opens_session opens_client rest before part whole asked_more as_many
          (find_any opens_session (open_of rest) e))

      may_tell : (name : Option Id)
          → is_some_such (λ name. list_any (opens_under name) (open_of rest)) name ≡ true
          → is_some_such (λ name. list_any (opens_under name) (open_of before)) name ≡ true
      may_tell None e = e
      may_tell (Some name) e = waits_too (opens_under name) (under_client name) rest before part whole asked_more
          as_many e

      server : (m : Message)
          → Late (server_finding (lifecycle_of before) (initializing before) (tells_opening before m) m)
          → server_finding (lifecycle_of rest) (initializing rest) (tells_opening rest m) m ≡ None → ⊥
      server m e none = late_server
          (is_some (initialize_result before) || (is_some (initializing before)
          && (tells_opening before m || is_early m)))
          (is_some (initialize_result rest) || (is_some (initializing rest) && (tells_opening rest m || is_early m)))
          (initializing before) (initializing rest)
          (grows _ _ _ _ _ _ _ (result_too before rest whole part newer [] others (sym own)) waits_more
          (may_tell (progress_token m))) e none

      of_server_side : (m : Message) → Late (session_finding before ToClient m)
          → session_finding rest ToClient m ≡ None → ⊥
      of_server_side (request i method params) e none = ⊎_elim
          (λ at. server (request i method params) at (first_none _ _ none))
          (λ at. let asked = late_id (waiting ToClient i before) at in
          no_longer ToClient i before rest whole part [] (asked_from ToClient i before rest [] own)
          (replied_from ToClient i before rest newer others) asked.0 asked.1
          (mapped_none _ _ (second_none _ _ none)))
          (late_or _ _ e)
      of_server_side (notification method params) e none = ⊎_elim
          (λ at. server (notification method params) at (first_none _ _ none)) (λ at. cc) (late_or _ _ e)
      of_server_side (response i outcome) e none =
          let asked = fits_reply (waiting ToServer i rest) none in
          no_longer ToServer i rest before part whole (asked_in ToServer i newer)
          (asked_from ToServer i rest before newer others)
          (replied_from ToServer i rest before [] own) asked.0 asked.1 (late_reply (waiting ToServer i before) e)

one_message : (direction : Direction) (m : Message) (before rest : Log) → Matched before → Matched rest
    → (newer : List Passed)
    → sent direction rest ≡ sent direction before → sent (other direction) before ≡ newer ++ sent (other direction) rest
    → Late (session_finding before direction m) → session_finding rest direction m ≡ None → ⊥
one_message ToServer m before rest whole part newer own others = of_client before rest whole part newer own others m
one_message ToClient m before rest whole part newer own others =
    of_server_side before rest whole part newer own others m

-- ---- whole logs

by_direction : (log order : Log) → AreOrders log order → (direction : Direction) → sent direction log
    ≡ sent direction order
by_direction log order orders ToServer = orders.client
by_direction log order orders ToClient = orders.server

not_other : (direction : Direction) → same_direction (other direction) direction ≡ false
not_other ToServer = refl
not_other ToClient = refl

sent_past : (p : Passed) (since earlier : Log)
    → sent (other p.direction) (since ++ p ∷ earlier) ≡ sent (other p.direction) since
    ++ sent (other p.direction) earlier
sent_past p since earlier = sent_append (other p.direction) since (p ∷ earlier)
    ∙ ap (λ b. sent (other p.direction) since
    ++ cond b (p ∷ sent (other p.direction) earlier) (sent (other p.direction) earlier))
    (not_other p.direction)

no_first : (a : Option Finding) (more : List Finding) → list_any any_finding (option_to_list a ++ more) ≡ false
    → a ≡ None
no_first None more e = refl
no_first (Some a) more e = cc

clean_end : (since earlier : Log) → breaks any_finding (since ++ earlier) ≡ false → breaks any_finding earlier ≡ false
clean_end [] earlier e = e
clean_end (p ∷ since) earlier e = clean_end since earlier
    (or_parts (list_any any_finding (findings_of (since ++ earlier) p.direction p.message)) _ e).1

pub late_in_each_order : (after before order : Log) (p : Passed) → IsBehindAll after p before
    → AreOrders (after ++ p ∷ before) order → list_any is_late (findings_of before p.direction p.message) ≡ true
    → breaks any_finding order ≡ true
late_in_each_order after before order p last orders e = by (breaks any_finding order) refl
  where
    at : Found p.direction order (sent p.direction before) p
    at = find_place p.direction order (sent p.direction after) (sent p.direction before) p
        (sym (by_direction (after ++ p ∷ before) order orders p.direction) ∙ sent_append p.direction after (p ∷ before)
        ∙ ap (λ zs. sent p.direction after ++ zs) (sent_here p.direction p before refl))

    others : sent (other p.direction) before ≡ sent (other p.direction) at.since ++ sent (other p.direction) at.earlier
    others = ap (λ zs. zs ++ sent (other p.direction) before) (sym last.last) ∙ sym (sent_past p after before)
        ∙ by_direction (after ++ p ∷ before) order orders (other p.direction) ∙ ap (sent (other p.direction)) at.place
        ∙ sent_past p at.since at.earlier

    none : breaks any_finding order ≡ false → ⊥
    none clean =
        let rest = clean_end at.since (p ∷ at.earlier) (subst (λ l. breaks any_finding l ≡ false) at.place clean) in
        let parts = or_parts (list_any any_finding (findings_of at.earlier p.direction p.message)) _ rest in
        one_message p.direction p.message before at.earlier last.matched
        (breaks_less is_unasked at.earlier parts.1) (sent (other p.direction) at.since) at.behind others
        (late_session before p.direction p.message e)
        (no_first (session_finding at.earlier p.direction p.message) _ parts.0)

    by : (b : Bool) → breaks any_finding order ≡ b → breaks any_finding order ≡ true
    by true is = is
    by false is = absurd (none is)

-- the same requests are left without a reply
pub same_left : (log order : Log) → AreOrders log order → Matched log → breaks any_finding order ≡ false
    → (direction : Direction) (id : Id) → queue direction id log ≡ queue direction id order
same_left log order orders fits clean direction id =
    let a = kept direction id log fits in
    let b = kept direction id order (breaks_less is_unasked order clean) in
    same_end a.done b.done (queue direction id log) (queue direction id order)
    (sym a.is ∙ asked_own direction id log ∙ ap (asked_in direction id) (by_direction log order orders direction)
    ∙ sym (asked_own direction id order) ∙ b.is)
    (a.count ∙ replied_own direction id log
    ∙ ap (replied_in direction id) (by_direction log order orders (other direction))
    ∙ sym (replied_own direction id order) ∙ sym b.count)
