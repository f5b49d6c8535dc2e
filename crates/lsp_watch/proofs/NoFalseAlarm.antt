-- A lawful log breaks no rule of ids or of progress.
use Rattle.std.proofs.Common.{◌≡◌, Bool, true, false, cond, ◌&&◌, ◌||◌, List, [], ◌∷◌, ◌++◌, Option, Some, None}
use Rattle.std.proofs.Common.{refl, sym, ap, ◌∙◌, subst, ℕ, option_map, true≢false, ◌⊎◌, inl, inr, ⊎_elim, not, filter}
use Rattle.std.specs.List.{list_any}
use Rattle.std.specs.Prelude.{find, option_and_then}
use Rattle.lsp_message.proofs.Ids.{same_own, same_is}
use Rattle.lsp_message.specs.Id.{Id, same_id}
use Rattle.lsp_message.specs.Message.{Message, request, notification, response}
use Rattle.lsp_watch.proofs.Queues.{same_direction_is, both}
use Rattle.lsp_watch.specs.CleanLog.{AtEach}
use Rattle.lsp_watch.specs.Lawful.{IsGiven, IsAccepted, MayTell, MayPass, IsLawful, BreaksNone, without, with}
use Rattle.lsp_watch.specs.Log.{
  Log,
  Passed,
  Open,
  Finding,
  passed,
  other,
  same_direction,
  is_for,
  request_of,
  without_first,
}
use Rattle.lsp_watch.specs.Log.{open_of, progress_token, is_success}
use Rattle.lsp_watch.specs.Progress.{gives, token_finding, created_finding, progress_finding, token_of}
use Rattle.lsp_watch.specs.Progress.{after_end, after_accept, once_ended, ended_by}
use Rattle.lsp_watch.specs.Rules.{id_finding, reply_finding}
use Rattle.lsp_watch.specs.declared.progress.Token.{Token}
use Rattle.lsp_watch.specs.declared.progress.Token.TheVariants.{Live}
use Rattle.lsp_watch.specs.declared.direction.Direction.{Direction}
use Rattle.lsp_watch.specs.declared.direction.Direction.TheVariants.{ToServer, ToClient}

-- ---- lists

module _ {A : Type 0} (p : A → Bool) where
  -- none is such
  abbrev AllNot : List A → Type 0
  AllNot [] = Unit {0}
  AllNot (x ∷ xs) = (p x ≡ false) × AllNot xs

  all_not : (zs : List A) → ((o : A) (xs ys : List A) → zs ≡ xs ++ o ∷ ys → p o ≡ false) → AllNot zs
  all_not [] none = tt
  all_not (z ∷ zs) none = (none z [] zs refl, all_not zs (λ o xs ys is. none o (z ∷ xs) ys (ap (λ l. z ∷ l) is)))

  none_found : (zs : List A) → AllNot zs → find p zs ≡ None
  none_found [] none = refl
  none_found (z ∷ zs) none = ap (λ b. cond b (Some z) (find p zs)) none.0 ∙ none_found zs none.1

  not_push : (xs : List A) (y : A) → AllNot xs → p y ≡ false → AllNot (xs ++ y ∷ [])
  not_push [] y none is = (is, tt)
  not_push (x ∷ xs) y none is = (none.0, not_push xs y none.1 is)

  not_without : (xs : List A) (o : A) (ys : List A) → AllNot (xs ++ o ∷ ys) → AllNot (xs ++ ys)
  not_without [] o ys none = none.1
  not_without (x ∷ xs) o ys none = (none.0, not_without xs o ys none.1)

  not_at : (xs : List A) (o : A) (ys : List A) → AllNot (xs ++ o ∷ ys) → p o ≡ false
  not_at [] o ys none = none.0
  not_at (x ∷ xs) o ys none = not_at xs o ys none.1

  -- some is such
  one_any : (xs : List A) (o : A) (ys : List A) → p o ≡ true → list_any p (xs ++ o ∷ ys) ≡ true
  one_any [] o ys is = ap (λ b. b || list_any p ys) is
  one_any (x ∷ xs) o ys is = by (p x) (one_any xs o ys is)
    where
      by : (b : Bool) → list_any p (xs ++ o ∷ ys) ≡ true → (b || list_any p (xs ++ o ∷ ys)) ≡ true
      by true e = refl
      by false e = e

  one_found : (xs : List A) (o : A) (ys : List A) → AllNot xs → p o ≡ true → find p (xs ++ o ∷ ys) ≡ Some o
  one_found [] o ys none is = ap (λ b. cond b (Some o) (find p ys)) is
  one_found (x ∷ xs) o ys none is = ap (λ b. cond b (Some x) (find p (xs ++ o ∷ ys))) none.0
      ∙ one_found xs o ys none.1 is

  -- the first that is such goes
  one_goes : (xs : List A) (o : A) (ys : List A) → AllNot xs → p o ≡ true → without_first p (xs ++ o ∷ ys) ≡ xs ++ ys
  one_goes [] o ys none is = ap (λ b. cond b ys (o ∷ without_first p ys)) is
  one_goes (x ∷ xs) o ys none is = ap (λ b. cond b (xs ++ o ∷ ys) (x ∷ without_first p (xs ++ o ∷ ys))) none.0
      ∙ ap (λ l. x ∷ l) (one_goes xs o ys none.1 is)

-- ---- each open request has its own id

abbrev Distinct : List Open → Type 0
Distinct [] = Unit {0}
Distinct (x ∷ xs) = AllNot (is_for x.direction x.id) xs × Distinct xs

-- if one of these has the id, the other has not
not_both : (direction : Direction) (id : Id) (x o : Open) → is_for direction id o ≡ true → is_for x.direction x.id o
    ≡ false
    → is_for direction id x ≡ false
not_both direction id x o is other = by (is_for direction id x) refl
  where
    by : (b : Bool) → is_for direction id x ≡ b → is_for direction id x ≡ false
    by false e = e
    by true e =
        let parts = both (same_direction direction x.direction) (same_id id x.id) e in
        let same : is_for x.direction x.id o ≡ is_for direction id o =
        ap (λ w. is_for w x.id o) (same_direction_is direction x.direction parts.0)
        ∙ ap (λ k. is_for direction k o) (sym (same_is id x.id parts.1)) in
        absurd (true≢false (sym is ∙ sym same ∙ other))

own_direction : (w : Direction) → same_direction w w ≡ true
own_direction ToServer = refl
own_direction ToClient = refl

and_true : (a b : Bool) → a ≡ true → b ≡ true → (a && b) ≡ true
and_true true b e f = f
and_true false b e f = cc

own_for : (o : Open) → is_for o.direction o.id o ≡ true
own_for o = and_true (same_direction o.direction o.direction) (same_id o.id o.id) (own_direction o.direction)
    (same_own o.id)

-- the other way round
not_back : (x r : Open) → is_for r.direction r.id x ≡ false → is_for x.direction x.id r ≡ false
not_back x r none = not_both x.direction x.id r x (own_for x) none

distinct_push : (xs : List Open) (r : Open) → AllNot (is_for r.direction r.id) xs → Distinct xs
    → Distinct (xs ++ r ∷ [])
distinct_push [] r free apart = (tt, tt)
distinct_push (x ∷ xs) r free apart = (
  not_push (is_for x.direction x.id) xs r apart.0 (not_back x r free.0),
  distinct_push xs r free.1 apart.1,
)

distinct_without : (xs : List Open) (o : Open) (ys : List Open) → Distinct (xs ++ o ∷ ys) → Distinct (xs ++ ys)
distinct_without [] o ys apart = apart.1
distinct_without (x ∷ xs) o ys apart = (
  not_without (is_for x.direction x.id) xs o ys apart.0,
  distinct_without xs o ys apart.1,
)

none_before : (direction : Direction) (id : Id) (xs : List Open) (o : Open) (ys : List Open) → is_for direction id o
    ≡ true
    → Distinct (xs ++ o ∷ ys) → AllNot (is_for direction id) xs
none_before direction id [] o ys is apart = tt
none_before direction id (x ∷ xs) o ys is apart = (
  not_both direction id x o is (not_at (is_for x.direction x.id) xs o ys apart.0),
  none_before direction id xs o ys is apart.1,
)

-- ---- message by message

abbrev Fine : Log → Passed → Type 0
Fine before p = (id_finding before p.direction p.message ≡ None)
    × (progress_finding before p.direction p.message ≡ None)

each_none : AtEach Fine []
each_none [] before p is = cc
each_none (x ∷ later) before p is = cc

each_more : (p : Passed) (log : Log) → Fine log p → AtEach Fine log → AtEach Fine (p ∷ log)
each_more p log here there [] before q is =
    let same : p ≡ q = cc in
    let rest : log ≡ before = cc in
    subst (λ l. Fine l q) rest (subst (Fine log) same here)
each_more p log here there (x ∷ later) before q is = there later before q cc

-- ---- the live tokens

or_right : (a b : Bool) → b ≡ true → (a || b) ≡ true
or_right true b is = refl
or_right false b is = is

abbrev Kept : Id → Id → List Id → Type 0
Kept name ended live = list_any (same_id name) (filter (λ n. not (same_id ended n)) live) ≡ true
    → (list_any (same_id name) live ≡ true) × (same_id ended name ≡ false)

kept_at : (name ended x : Id) (live : List Id) → same_id ended x ≡ false → (c : Bool) → same_id name x ≡ c
    → Kept name ended live → (c || list_any (same_id name) (filter (λ n. not (same_id ended n)) live)) ≡ true
    → ((c || list_any (same_id name) live) ≡ true) × (same_id ended name ≡ false)
kept_at name ended x live at true here more is = (refl, ap (same_id ended) (same_is name x here) ∙ at)
kept_at name ended x live at false here more is = more is

kept_other : (name ended : Id) (live : List Id) → Kept name ended live
kept_other name ended [] is = cc
kept_other name ended (x ∷ live) is = by (same_id ended x) refl (kept_other name ended live) is
  where
    by : (b : Bool) → same_id ended x ≡ b → Kept name ended live
        → list_any (same_id name) (cond (not b) (x ∷ filter (λ n. not (same_id ended n)) live)
        (filter (λ n. not (same_id ended n)) live)) ≡ true
        → ((same_id name x || list_any (same_id name) live) ≡ true) × (same_id ended name ≡ false)
    by true at more is = (or_right (same_id name x) (list_any (same_id name) live) (more is).0, (more is).1)
    by false at more is = kept_at name ended x live at (same_id name x) refl more is

-- each of these tokens was accepted, and has not ended
abbrev Lives : Log → List Id → Type 0
Lives log live = (name : Id) → list_any (same_id name) live ≡ true → token_of name log ≡ Some Live

lives_end : (name : Id) (place : ℕ) (ended : Option Id) (live : List Id) (token : Option Token)
    → (list_any (same_id name) live ≡ true → token ≡ Some Live)
    → list_any (same_id name) (without ended live) ≡ true → after_end name place ended token ≡ Some Live
lives_end name place None live token lives is = lives is
lives_end name place (Some ended) live token lives is =
    let kept = kept_other name ended live is in
    ap (λ b. cond b (once_ended place token) token) kept.1 ∙ lives kept.0

lives_with : (name : Id) (succeeds : Bool) (created : Option Id) (live : List Id) (token : Option Token)
    → (list_any (same_id name) live ≡ true → token ≡ Some Live) → list_any (same_id name) (with succeeds created live)
    ≡ true
    → after_accept name (cond succeeds created None) token ≡ Some Live
lives_with name true None live token lives is = lives is
lives_with name true (Some accepted) live token lives is = by (same_id accepted name) refl
  where
    by : (b : Bool) → same_id accepted name ≡ b → cond b (Some Live) token ≡ Some Live
    by true same = refl
    by false same = lives (this (same_id name accepted) refl is)
      where
        this : (c : Bool) → same_id name accepted ≡ c → (c || list_any (same_id name) live) ≡ true
            → list_any (same_id name) live ≡ true
        this true at is = absurd (true≢false (sym at ∙ ap (λ n. same_id n accepted) (same_is name accepted at)
            ∙ ap (same_id accepted) (sym (same_is name accepted at)) ∙ same))
        this false at is = is
lives_with name false created live token lives is = lives is

-- what is kept is what is open, and what lives
abbrev Keeps : Log → List Open → List Id → Type 0
Keeps log asked live = (open_of log ≡ asked) × Distinct asked × Lives log live

fine_if_given : (b : Bool) (found : Option Finding) → (b ≡ true) ⊎ (found ≡ None) → cond b None found ≡ None
fine_if_given true found is = refl
fine_if_given false found is = ⊎_elim (λ e. absurd (true≢false (sym e))) (λ e. e) is

accepted_fine : (direction : Direction) (before : Log) (live : List Id) → Lives before live → (name : Id)
    → IsAccepted direction name live → created_finding direction (token_of name before) ≡ None
accepted_fine ToServer before live lives name may = absurd may
accepted_fine ToClient before live lives name may = ap (created_finding ToClient) (lives name
    (ap (list_any (same_id name)) may.2 ∙ one_any (same_id name) may.0 name may.1 (same_own name)))

reported : (direction : Direction) (before : Log) (asked : List Open) (live : List Id) → Keeps before asked live
    → (name : Option Id) → MayTell direction name asked live
    → option_and_then (λ name. token_finding (open_of before) (token_of name before) direction name) name ≡ None
reported direction before asked live keeps None may = refl
reported direction before asked live keeps (Some name) may = fine_if_given
    (list_any (gives direction name) (open_of before))
    (created_finding direction (token_of name before)) (⊎_elim given accepted may)
  where
    given : IsGiven direction name asked
        → (list_any (gives direction name) (open_of before) ≡ true)
        ⊎ (created_finding direction (token_of name before) ≡ None)
    given may = inl (ap (list_any (gives direction name)) (keeps.0 ∙ may.3)
        ∙ one_any (gives direction name) may.1 may.0 may.2
        may.4)

    accepted : IsAccepted direction name live
        → (list_any (gives direction name) (open_of before) ≡ true)
        ⊎ (created_finding direction (token_of name before) ≡ None)
    accepted may = inr (accepted_fine direction before live keeps.2 name may)

step : (direction : Direction) (place : ℕ) (m : Message) (before : Log) (old new : List Open) (was live : List Id)
    → Keeps before old was → MayPass direction place m old new was live
    → Keeps (passed direction place m ∷ before) new live × Fine before (passed direction place m)
step direction place (request i method params) before old new was live keeps may =
    let none : AllNot (is_for direction i) old = all_not (is_for direction i) old may.0 in (
      (
        ap (λ l. l ++ request_of direction place i method params ∷ []) keeps.0 ∙ sym may.1,
        subst Distinct (sym may.1) (distinct_push old (request_of direction place i method params) none keeps.1),
        subst (Lives (passed direction place (request i method params) ∷ before)) (sym may.2) keeps.2,
      ),
      (ap (option_map _) (ap (find (is_for direction i)) keeps.0 ∙ none_found (is_for direction i) old none), refl),
    )
step direction place (notification method params) before old new was live keeps may = (
  (
    keeps.0 ∙ sym may.1,
    subst Distinct (sym may.1) keeps.1,
    λ name is. lives_end name place (ended_by direction (notification method params)) was (token_of name before)
        (keeps.2 name) (ap (list_any (same_id name)) (sym may.2) ∙ is),
  ),
  (refl, reported direction before old was keeps (progress_token (notification method params)) may.0),
)
step direction place (response i outcome) before old new was live keeps may =
    let at : open_of before ≡ may.1 ++ may.0 ∷ may.2 = keeps.0 ∙ may.3 in
    let apart : Distinct (may.1 ++ may.0 ∷ may.2) = subst Distinct may.3 keeps.1 in
    let none = none_before (other direction) i may.1 may.0 may.2 may.4 apart in
    let found : find (is_for (other direction) i) (open_of before) ≡ Some may.0 =
    ap (find (is_for (other direction) i)) at ∙ one_found (is_for (other direction) i) may.1 may.0 may.2 none may.4 in (
      (
        ap (without_first (is_for (other direction) i)) at
            ∙ one_goes (is_for (other direction) i) may.1 may.0 may.2 none may.4 ∙ sym may.5,
        subst Distinct (sym may.5) (distinct_without may.1 may.0 may.2 apart),
        λ name is. ap (λ f. after_accept name (cond (is_success (response i outcome))
            (option_and_then (λ o. o.created) f)
            None) (token_of name before)) found
            ∙ lives_with name (is_success (response i outcome)) may.0.created was (token_of name before) (keeps.2 name)
            (ap (list_any (same_id name)) (sym may.6) ∙ is),
      ),
      (ap reply_finding found, refl),
    )

lawful : (log : Log) (asked : List Open) (live : List Id) → IsLawful log asked live → Keeps log asked live × BreaksNone
    log
lawful [] asked live is = (
  (sym is.0, subst Distinct (sym is.0) tt, subst (Lives []) (sym is.1) (λ name any. cc)),
  each_none,
)
lawful (p ∷ before) asked live is =
    let more = lawful before is.0 is.1 is.2 in
    let one = step p.direction p.place p.message before is.0 asked is.1 live more.0 is.3 in
    (one.0, each_more p before one.1 more.1)

pub breaks_none : (log : Log) (asked : List Open) (live : List Id) → IsLawful log asked live → BreaksNone log
breaks_none log asked live is = (lawful log asked live is).1
