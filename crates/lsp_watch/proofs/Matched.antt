-- Where each reply has its request, the requests that wait are those that passed, without as many as were answered.
use Rattle.std.proofs.Common.{◌≡◌, ℕ, suc, ◌+◌, ◌≤◌, Bool, true, false, cond, ◌||◌, ◌&&◌, List, [], ◌∷◌, ◌++◌, length}
use Rattle.std.proofs.Common.{Option, Some, None, refl, sym, ap, ◌∙◌, arith}
use Rattle.std.proofs.lemmas.List.{append_assoc, append-nil, length-append}
use Rattle.std.specs.List.{list_any}
use Rattle.std.specs.Option.{option_or}
use Rattle.std.specs.Prelude.{option_to_list}
use Rattle.lsp_message.specs.Id.{Id, same_id}
use Rattle.lsp_message.specs.Message.{Message, request, notification, response}
use Rattle.lsp_watch.proofs.CleanReplies.{one_waits, never}
use Rattle.lsp_watch.proofs.Queues.{first, rest, queue, waiting_is, queue_request, queue_notification, queue_reply}
use Rattle.lsp_watch.proofs.Queues.{other_directions}
use Rattle.lsp_watch.specs.Log.{Log, Passed, Open, Finding, passed, other, same_direction, is_reply, reply_id, waiting}
use Rattle.lsp_watch.specs.Log.{request_of}
use Rattle.lsp_watch.specs.Orders.{sent, is_unasked, any_finding, breaks}
use Rattle.lsp_watch.specs.Rules.{reply_finding, id_finding}
use Rattle.lsp_watch.specs.Verdicts.{findings_of}
use Rattle.lsp_watch.specs.declared.direction.Direction.{Direction}

-- ---- tests

pub or_parts : (a b : Bool) → (a || b) ≡ false → (a ≡ false) × (b ≡ false)
or_parts true b e = cc
or_parts false b e = (refl, e)

pub or_right : (a b : Bool) → b ≡ true → (a || b) ≡ true
or_right true b e = refl
or_right false b e = e

-- each reply of the log had its request
abbrev pub Matched : Log → Type 0
Matched log = breaks is_unasked log ≡ false

pub matched_before : (later before : Log) → Matched (later ++ before) → Matched before
matched_before [] before e = e
matched_before (p ∷ later) before e = matched_before later before
    ((or_parts (list_any is_unasked (findings_of (later ++ before) p.direction p.message)) _ e).1)

-- a log in which nothing breaks a rule
module _ (such : Finding → Bool) where
  less : (xs : List Finding) → list_any any_finding xs ≡ false → list_any such xs ≡ false
  less [] e = refl
  less (x ∷ xs) e = cc

  none_such : (a b : Bool) → a ≡ false → b ≡ false → (a || b) ≡ false
  none_such true b e f = cc
  none_such false b e f = f

  pub breaks_less : (log : Log) → breaks any_finding log ≡ false → breaks such log ≡ false
  breaks_less [] e = refl
  breaks_less (p ∷ before) e =
      let parts = or_parts (list_any any_finding (findings_of before p.direction p.message)) (breaks any_finding before)
      e in
      none_such _ _ (less (findings_of before p.direction p.message) parts.0) (breaks_less before parts.1)

-- ---- what one side sent

pub sent_append : (direction : Direction) (xs ys : Log) → sent direction (xs ++ ys) ≡ sent direction xs
    ++ sent direction ys
sent_append direction [] ys = refl
sent_append direction (p ∷ xs) ys = by (same_direction direction p.direction) (sent_append direction xs ys)
  where
    by : (b : Bool) → sent direction (xs ++ ys) ≡ sent direction xs ++ sent direction ys
        → cond b (p ∷ sent direction (xs ++ ys)) (sent direction (xs ++ ys))
        ≡ cond b (p ∷ sent direction xs) (sent direction xs) ++ sent direction ys
    by true e = ap (λ zs. p ∷ zs) e
    by false e = e

-- a place of a log where a message of this direction stands, after these of its side
pub record Found (direction : Direction) (log : Log) (c : List Passed) (p : Passed) : Type 0 where
  pub since : Log
  pub earlier : Log
  pub place : log ≡ since ++ p ∷ earlier
  pub behind : sent direction earlier ≡ c

pub find_place : (direction : Direction) (log : Log) (later c : List Passed) (p : Passed)
    → sent direction log ≡ later ++ p ∷ c → Found direction log c p
find_place direction [] [] c p e = cc
find_place direction [] (q ∷ later) c p e = cc
find_place direction (q ∷ before) later c p e = by (same_direction direction q.direction) later e
    (λ l f. find_place direction before l c p f)
  where
    more : Found direction before c p → Found direction (q ∷ before) c p
    more f = record {
      since = q ∷ f.since;
      earlier = f.earlier;
      place = ap (λ zs. q ∷ zs) f.place;
      behind = f.behind;
    }

    here : q ≡ p → sent direction before ≡ c → Found direction (q ∷ before) c p
    here is behind = record {
      since = [];
      earlier = before;
      place = ap (λ it. it ∷ before) is;
      behind = behind;
    }

    by : (b : Bool) (later : List Passed) → cond b (q ∷ sent direction before) (sent direction before) ≡ later ++ p ∷ c
        → ((l : List Passed) → sent direction before ≡ l ++ p ∷ c → Found direction before c p)
        → Found direction (q ∷ before) c p
    by true [] e step =
        let same : q ≡ p = cc in
        let behind : sent direction before ≡ c = cc in
        here same behind
    by true (r ∷ later) e step = let tail : sent direction before ≡ later ++ p ∷ c = cc in more (step later tail)
    by false later e step = more (step later e)

-- ---- requests and replies of one direction and id

module _ (direction : Direction) (id : Id) where
  abbrev asked_by : Direction → ℕ → Message → List Open
  asked_by went place (request i method params) =
      cond (same_direction direction went && same_id id i) (request_of went place i method params ∷ []) []
  asked_by went place (notification method params) = []
  asked_by went place (response i outcome) = []

  -- the requests, the first first
  abbrev pub asked_in : Log → List Open
  asked_in [] = []
  asked_in (p ∷ before) = asked_in before ++ asked_by p.direction p.place p.message

  -- how many replies
  abbrev pub replied_in : Log → ℕ
  replied_in [] = 0
  replied_in (p ∷ before) = cond (is_reply direction id p) (suc (replied_in before)) (replied_in before)

  pub asked_append : (xs ys : Log) → asked_in (xs ++ ys) ≡ asked_in ys ++ asked_in xs
  asked_append [] ys = sym (append-nil (asked_in ys))
  asked_append (p ∷ xs) ys = ap (λ zs. zs ++ asked_by p.direction p.place p.message) (asked_append xs ys)
      ∙ append_assoc (asked_in ys) (asked_in xs) (asked_by p.direction p.place p.message)

  pub replied_append : (xs ys : Log) → replied_in ys ≤ replied_in (xs ++ ys)
  replied_append [] ys = omega arith
  replied_append (p ∷ xs) ys = by (is_reply direction id p) (replied_append xs ys)
    where
      by : (b : Bool) → replied_in ys ≤ replied_in (xs ++ ys)
          → replied_in ys ≤ cond b (suc (replied_in (xs ++ ys))) (replied_in (xs ++ ys))
      by true e = omega arith
      by false e = e

  -- only its own side asks, and only the other side replies
  nothing_asked : (went : Direction) (place : ℕ) (m : Message) → same_direction direction went ≡ false
      → asked_by went place m ≡ []
  nothing_asked went place (request i method params) e =
      ap (λ b. cond (b && same_id id i) (request_of went place i method params ∷ []) []) e
  nothing_asked went place (notification method params) e = refl
  nothing_asked went place (response i outcome) e = refl

  pub asked_own : (log : Log) → asked_in log ≡ asked_in (sent direction log)
  asked_own [] = refl
  asked_own (p ∷ before) = by (same_direction direction p.direction) refl (asked_own before)
    where
      by : (b : Bool) → same_direction direction p.direction ≡ b → asked_in before ≡ asked_in (sent direction before)
          → asked_in before ++ asked_by p.direction p.place p.message
          ≡ asked_in (cond b (p ∷ sent direction before) (sent direction before))
      by true is e = ap (λ zs. zs ++ asked_by p.direction p.place p.message) e
      by false is e = ap (λ zs. asked_in before ++ zs) (nothing_asked p.direction p.place p.message is)
          ∙ append-nil (asked_in before) ∙ e

  pub replied_own : (log : Log) → replied_in log ≡ replied_in (sent (other direction) log)
  replied_own [] = refl
  replied_own (p ∷ before) = by (same_direction (other direction) p.direction) refl (replied_own before)
    where
      by : (b : Bool) → same_direction (other direction) p.direction ≡ b → replied_in before
          ≡ replied_in (sent (other direction) before)
          → replied_in (p ∷ before) ≡ replied_in
          (cond b (p ∷ sent (other direction) before) (sent (other direction) before))
      by true is e = ap (λ n. cond (is_reply direction id p) (suc n) n) e
      by false is e = no_reply is ∙ e
        where
          no_reply : same_direction (other direction) p.direction ≡ false → replied_in (p ∷ before) ≡ replied_in before
          no_reply is = search (is)

  pub asked_before : (since : Log) (p : Passed) (earlier : Log)
      → (more : List Open) × (asked_in (since ++ p ∷ earlier) ≡ asked_in earlier ++ more)
  asked_before since p earlier = (
    asked_by p.direction p.place p.message ++ asked_in since,
    asked_append since (p ∷ earlier)
        ∙ append_assoc (asked_in earlier) (asked_by p.direction p.place p.message) (asked_in since),
  )

  -- ---- what waits

  pub record Kept (log : Log) : Type 0 where
    pub done : List Open
    pub is : asked_in log ≡ done ++ queue direction id log
    pub count : length done ≡ replied_in log

  asked_none : (o : Option Open) (more : List Finding)
      → list_any is_unasked (option_to_list (option_or None (reply_finding o)) ++ more) ≡ false
      → reply_finding o ≡ None
  asked_none None more e = cc
  asked_none (Some asked) more e = refl

  pub some_first : (xs : List Open) (o : Open) → first xs ≡ Some o → xs ≡ o ∷ rest xs
  some_first [] o e = cc
  some_first (x ∷ xs) o e = cc

  -- a message that is no reply to such a request
  put_on : (went : Direction) (place : ℕ) (m : Message) (before : Log) (new : List Open)
      → replied_in (passed went place m ∷ before) ≡ replied_in before → asked_by went place m ≡ new
      → queue direction id (passed went place m ∷ before) ≡ queue direction id before ++ new → Kept before
      → Kept (passed went place m ∷ before)
  put_on went place m before new none asks waits kept = record {
    done = kept.done;
    is = ap (λ zs. zs ++ asked_by went place m) kept.is ∙ append_assoc kept.done (queue direction id before) _
        ∙ ap (λ zs. kept.done ++ zs) (ap (λ zs. queue direction id before ++ zs) asks ∙ sym waits);
    count = kept.count ∙ sym none;
  }

  take_off : (went : Direction) (place : ℕ) (i : Id) (outcome : _) (before : Log) (o : Open)
      → is_reply direction id (passed went place (response i outcome)) ≡ true
      → queue direction id before ≡ o ∷ rest (queue direction id before)
      → queue direction id (passed went place (response i outcome) ∷ before) ≡ rest (queue direction id before)
      → Kept before
      → Kept (passed went place (response i outcome) ∷ before)
  take_off went place i outcome before o replies waits left kept = record {
    done = kept.done ++ o ∷ [];
    is = append-nil (asked_in before) ∙ kept.is ∙ ap (λ zs. kept.done ++ zs) waits
        ∙ sym (append_assoc kept.done (o ∷ []) (rest (queue direction id before)))
        ∙ ap (λ zs. (kept.done ++ o ∷ []) ++ zs) (sym left);
    count = length-append kept.done (o ∷ []) ∙ more kept.count
        ∙ ap (λ b. cond b (suc (replied_in before)) (replied_in before)) (sym replies);
  }
    where
      more : length kept.done ≡ replied_in before
          → length kept.done + length {A = Open} (o ∷ []) ≡ suc (replied_in before)
      more e = omega arith

  step : (went : Direction) (place : ℕ) (m : Message) (before : Log)
      → list_any is_unasked (findings_of before went m) ≡ false → Kept before → Kept (passed went place m ∷ before)
  step went place (request i method params) before fits kept =
      put_on went place (request i method params) before
      (cond (same_direction direction went && same_id id i) (request_of went place i method params ∷ []) [])
      (ap (λ b. cond b (suc (replied_in before)) (replied_in before)) (never (same_direction (other direction) went)))
      refl
      (queue_request direction id went place before i method params) kept
  step went place (notification method params) before fits kept =
      put_on went place (notification method params) before []
      (ap (λ b. cond b (suc (replied_in before)) (replied_in before)) (never (same_direction (other direction) went)))
      refl
      (queue_notification direction id went place before method params ∙ sym (append-nil (queue direction id before)))
      kept
  step went place (response i outcome) before fits kept = by (same_direction (other direction) went && same_id id i)
      refl
    where
      left : (b : Bool) → (same_direction (other direction) went && same_id id i) ≡ b
          → queue direction id (passed went place (response i outcome) ∷ before)
          ≡ cond b (rest (queue direction id before)) (queue direction id before)
      left b is = queue_reply direction id went place before i outcome
          ∙ ap (λ b. cond (b && same_id id i) (rest (queue direction id before)) (queue direction id before))
          (other_directions direction went)
          ∙ ap (λ b. cond b (rest (queue direction id before)) (queue direction id before)) is

      by : (b : Bool) → (same_direction (other direction) went && same_id id i) ≡ b
          → Kept (passed went place (response i outcome) ∷ before)
      by true is =
          let found = one_waits before direction id went place (response i outcome) is
          (asked_none (waiting (other went) i before) _ fits) in
          take_off went place i outcome before found.0 is
          (some_first (queue direction id before) found.0 (sym (waiting_is direction id before) ∙ found.1))
          (left true is) kept
      by false is = put_on went place (response i outcome) before []
          (ap (λ b. cond b (suc (replied_in before)) (replied_in before)) is) refl
          (left false is ∙ sym (append-nil (queue direction id before))) kept

  pub kept : (log : Log) → Matched log → Kept log
  kept [] e = record { done = []; is = refl; count = refl }
  kept (p ∷ before) e =
      let parts = or_parts (list_any is_unasked (findings_of before p.direction p.message)) (breaks is_unasked before) e
      in
      step p.direction p.place p.message before parts.0 (kept before parts.1)

-- a reply fits where each reply has its request
pub reply_fits : (before : Log) (p : Passed) (id : Id) → reply_id p.message ≡ Some id → Matched (p ∷ before)
    → id_finding before p.direction p.message ≡ None
reply_fits before p id names e = by p.direction p.message names
    (or_parts (list_any is_unasked (findings_of before p.direction p.message)) (breaks is_unasked before) e).0
  where
    by : (direction : Direction) (m : Message) → reply_id m ≡ Some id
        → list_any is_unasked (findings_of before direction m) ≡ false → id_finding before direction m ≡ None
    by direction (request i method params) names e = cc
    by direction (notification method params) names e = cc
    by direction (response i outcome) names e = asked_none direction i (waiting (other direction) i before) _ e

-- ---- two logs

-- the same place of two lists with a common front
pub at_place : {A : Type 0} (xs ys : List A) (x y : A) (more others : List A)
    → xs ++ x ∷ more ≡ ys ++ y ∷ others → length xs ≡ length ys → x ≡ y
at_place [] [] x y more others e same = cc
at_place [] (z ∷ ys) x y more others e same = cc
at_place (z ∷ xs) [] x y more others e same = cc
at_place (z ∷ xs) (w ∷ ys) x y more others e same =
    let tail : xs ++ x ∷ more ≡ ys ++ y ∷ others = cc in
    let front : length xs ≡ length ys = cc in
    at_place xs ys x y more others tail front

-- after as many
pub same_end : {A : Type 0} (xs ys more others : List A) → xs ++ more ≡ ys ++ others → length xs ≡ length ys
    → more ≡ others
same_end [] [] more others e same = e
same_end [] (z ∷ ys) more others e same = cc
same_end (z ∷ xs) [] more others e same = cc
same_end (z ∷ xs) (w ∷ ys) more others e same =
    let tail : xs ++ more ≡ ys ++ others = cc in
    let front : length xs ≡ length ys = cc in
    same_end xs ys more others tail front

module _ {A : Type 0} (such : A → Bool) where
  pub any_right : (xs ys : List A) → list_any such ys ≡ true → list_any such (xs ++ ys) ≡ true
  any_right [] ys e = e
  any_right (x ∷ xs) ys e = or_right (such x) _ (any_right xs ys e)

  or_left : (a b c : Bool) → (b ≡ true → c ≡ true) → (a || b) ≡ true → (a || c) ≡ true
  or_left true b c more e = refl
  or_left false b c more e = more e

  pub any_left : (xs ys : List A) → list_any such xs ≡ true → list_any such (xs ++ ys) ≡ true
  any_left [] ys e = cc
  any_left (x ∷ xs) ys e = or_left (such x) (list_any such xs) _ (any_left xs ys) e

  -- after fewer of the same list
  pub later_has : (xs ys more others : List A) → xs ++ more ≡ ys ++ others → length xs ≤ length ys
      → list_any such others ≡ true → list_any such more ≡ true
  later_has [] ys more others e short is = let same : more ≡ ys ++ others = e in
      ap (list_any such) same ∙ any_right ys others is
  later_has (x ∷ xs) [] more others e short is = let bad : ⊥ = omega (arith, short) in absurd bad
  later_has (x ∷ xs) (y ∷ ys) more others e short is =
      let tail : xs ++ more ≡ ys ++ others = cc in
      let shorter : length xs ≤ length ys = omega (arith, short) in
      later_has xs ys more others tail shorter is

-- A request that waits in one log waits in another one, in which as much or more was asked, and as much or less
-- replied.
pub still_waits : (direction : Direction) (id : Id) (one two : Log) (such : Open → Bool) → Matched one → Matched two
    → (more : List Open) → asked_in direction id two ≡ asked_in direction id one ++ more
    → replied_in direction id two ≤ replied_in direction id one
    → list_any such (queue direction id one) ≡ true → list_any such (queue direction id two) ≡ true
still_waits direction id one two such first second more asks replies is =
    let a = kept direction id one first in
    let b = kept direction id two second in
    later_has such b.done a.done (queue direction id two) (queue direction id one ++ more)
    (sym b.is ∙ asks ∙ ap (λ zs. zs ++ more) a.is ∙ append_assoc a.done (queue direction id one) more)
    (shorter (length b.done) (length a.done) b.count a.count) (any_left such (queue direction id one) more is)
  where
    shorter : (m n : ℕ) → m ≡ replied_in direction id two → n ≡ replied_in direction id one → m ≤ n
    shorter m n e f = omega (arith, replies)
