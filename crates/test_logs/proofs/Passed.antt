-- What a watch says of a message, and what the laws of logs ask for.
use Rattle.std.proofs.Common.{◌≡◌, ℕ, Bool, true, List, [], ◌∷◌, ◌++◌, Option, Some, None, refl, sym, ◌∙◌, ap, subst}
use Rattle.std.specs.List.{list_any}
use Rattle.std.specs.Prelude.{Result, map, option_to_list}
use Rattle.serde_json.specs.Data.{Data}
use Rattle.lsp_message.proofs.Ids.{same_own}
use Rattle.lsp_message.specs.Id.{Id}
use Rattle.lsp_message.specs.Message.{ErrorObject, Message, request, response}
use Rattle.lsp_watch.specs.CleanLog.{IsClean}
use Rattle.lsp_watch.specs.Lawful.{IsLawful, with}
use Rattle.lsp_watch.specs.Log.{Finding, Log, Open, Passed, is_success, passed, request_of}
use Rattle.lsp_watch.specs.Rules.{session_finding}
use Rattle.lsp_watch.specs.Verdicts.{as_breach, breaches_of, entered, entry_findings, findings_of, shape_breach}
use Rattle.lsp_watch.specs.declared.breach.Breach.{Breach}
use Rattle.lsp_watch.specs.declared.direction.Direction.{Direction}
use Rattle.lsp_watch.specs.declared.direction.Direction.TheVariants.{ToClient, ToServer}
use Rattle.lsp_watch.specs.declared.rule.Rule.{Rule}

-- ---- no breach is no finding

behind : {A : Type 0} (xs ys : List A) → xs ++ ys ≡ [] → ys ≡ []
behind [] ys e = e
behind (x ∷ xs) ys e = cc

unmapped : {A B : Type 0} (f : A → B) (xs : List A) → map f xs ≡ [] → xs ≡ []
unmapped f [] e = refl
unmapped f (x ∷ xs) e = cc

first_none : (o : Option Finding) (rest : List Finding) → option_to_list o ++ rest ≡ [] → o ≡ None
first_none None rest e = refl
first_none (Some f) rest e = cc

abbrev head_or : Passed → Log → Passed
head_or p [] = p
head_or p (q ∷ log) = q

abbrev tail_of : Log → Log
tail_of [] = []
tail_of (p ∷ log) = log

more_is_clean : (p : Passed) (log : Log) → IsClean log → session_finding log p.direction p.message ≡ None
    → IsClean (p ∷ log)
more_is_clean p log clean none [] before q e =
    subst (λ b. session_finding b q.direction q.message ≡ None) (ap tail_of e)
    (subst (λ x. session_finding log x.direction x.message ≡ None) (ap (head_or p) e) none)
more_is_clean p log clean none (x ∷ later) before q e = clean later before q (ap tail_of e)

pub still_clean : (whole : Bool) (place : ℕ) (log : Log) (direction : Direction) (faults : List Rule)
    (m : Option Message) → IsClean log → breaches_of whole log direction faults m ≡ []
    → IsClean (entered direction place m log)
still_clean whole place log direction faults None clean none = clean
still_clean whole place log direction faults (Some m) clean none =
    more_is_clean (passed direction place m) log clean (first_none (session_finding log direction m) _
    (unmapped (as_breach whole) (findings_of log direction m)
    (behind (map shape_breach faults) (map (as_breach whole) (findings_of log direction m)) none)))

-- ---- the first breach is a finding

abbrev rule_or : Rule → List Breach → Rule
rule_or r [] = r
rule_or r (b ∷ bs) = b.rule

first_finding : (such : Rule → Bool) (whole : Bool) (found : List Finding) (first : Breach) (rest : List Breach)
    → map (as_breach whole) found ≡ first ∷ rest → such first.rule ≡ true → list_any (λ f. such f.0) found ≡ true
first_finding such whole [] first rest e is = cc
first_finding such whole (f ∷ found) first rest e is = rw (ap such (ap (rule_or f.0) e), is) refl

pub finds : (such : Rule → Bool) (whole : Bool) (log : Log) (direction : Direction) (faults : List Rule)
    (o : Option Message) (m : Message) (items : List Breach) (first : Breach) (rest : List Breach)
    → items ≡ breaches_of whole log direction faults o → faults ≡ [] → o ≡ Some m → items ≡ first ∷ rest
    → such first.rule ≡ true → list_any (λ f. such f.0) (findings_of log direction m) ≡ true
finds such whole log direction faults o m items first rest says none some is holds =
    first_finding such whole (findings_of log direction m) first rest (sym (rw (none, some) at says) ∙ is) holds

-- ---- a request and its reply

none_is_open : (xs : List Open) (o : Open) (ys : List Open) → [] ≡ xs ++ o ∷ ys → ⊥
none_is_open [] o ys is = cc
none_is_open (x ∷ xs) o ys is = cc

module _ (id : Id) (method : List ℕ) (params : Data) (outcome : Result Data ErrorObject) where
  pub answered : (replied : Id) → replied ≡ id
      → IsLawful (passed ToClient 2 (response replied outcome) ∷ passed ToServer 1 (request id method params) ∷ [])
      [] (with (is_success (response replied outcome)) None [])
  answered replied is =
      let asked = request_of ToServer 1 id method params in
      subst (λ (i : Id). IsLawful (passed ToClient 2 (response i outcome)
      ∷ passed ToServer 1 (request id method params) ∷ []) [] (with (is_success (response i outcome)) None []))
      (sym is) (
        asked ∷ [],
        [],
        ([], [], (refl, refl), ((λ o xs ys e. absurd (none_is_open xs o ys e)), refl, refl)),
        (asked, [], [], refl, same_own id, refl, refl),
      )
