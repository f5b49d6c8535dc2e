-- A recording in which nothing counts as a breach, though each breach counts, is clean after each of its lines.
use Rattle.std.proofs.Common.{◌≡◌, ℕ, zero, suc, ◌+◌, Bool, true, false, not, ◌&&◌, ◌||◌, cond, List, [], ◌∷◌, ◌++◌}
use Rattle.std.proofs.Common.{Option, Some, None, refl, sym, ap, subst, ◌∙◌}
use Rattle.serde_json.specs.Data.{Data}
use Rattle.std.specs.List.{list_any}
use Rattle.std.specs.Prelude.{take, map, option_map, option_to_list}
use Rattle.lsp_message.specs.HeaderPart.{lines}
use Rattle.lsp_message.specs.Message.{Message}
use Rattle.lsp_watch.specs.CleanLog.{IsClean}
use Rattle.lsp_watch.specs.Documents.{document_finding}
use Rattle.lsp_watch.specs.Entries.{entry_in}
use Rattle.lsp_watch.specs.Log.{Log, Passed, Finding, passed}
use Rattle.lsp_watch.specs.Progress.{progress_finding}
use Rattle.lsp_watch.specs.RuleData.{level_of, side_of}
use Rattle.lsp_watch.specs.Rules.{session_finding}
use Rattle.lsp_watch.specs.Shape.{faults_of}
use Rattle.lsp_watch.specs.Verdicts.{breaches_of, as_breach, shape_breach, begins_in, entered, findings_of}
use Rattle.lsp_watch.specs.declared.breach.Verdict.TheVariants.{Breach}
use Rattle.lsp_watch.specs.declared.direction.Direction.{Direction}
use Rattle.lsp_watch.specs.declared.rule.Level.TheVariants.{Must, Should, Implied}
use Rattle.lsp_watch.specs.declared.rule.Level.{Level}
use Rattle.lsp_watch.specs.declared.rule.Rule.{Rule}
use Rattle.lsp_judge.specs.Choice.{fails, fails_shown, counts, is_of, is_at_least, is_known, culprit}
use Rattle.lsp_judge.specs.Judged.{Judged, nothing, begins, goes_on, begun, left, is_initialize as opens}
use Rattle.lsp_judge.specs.Types.{unfit}
use Rattle.lsp_judge.specs.Recording.{line_tree, with_line, after_lines, judged_of, with_message, session_from}
use Rattle.lsp_judge.specs.Recording.{session_after, IsStrict}
use Rattle.lsp_judge.specs.declared.choice.Choice.{Choice}
use Rattle.lsp_judge.specs.declared.choice.FailOn.TheVariants.{Both}
use Rattle.lsp_judge.specs.declared.passed.Order.TheVariants.{Known}

-- ---- truth values and lists

or-left : (a b : Bool) → (a || b) ≡ false → a ≡ false
or-left false b e = refl
or-left true b e = cc

or-right : (a b : Bool) → (a || b) ≡ false → b ≡ false
or-right false b e = e
or-right true b e = cc

never : (a b : Bool) → (a && (false && b)) ≡ false
never true b = refl
never false b = refl

any-front : {A : Type 0} (p : A → Bool) (xs ys : List A) → list_any p (xs ++ ys) ≡ false → list_any p xs ≡ false
any-front p [] ys e = refl
any-front p (x ∷ xs) ys e = at (p x) (any-front p xs ys) e
  where
    at : (b : Bool) → (list_any p (xs ++ ys) ≡ false → list_any p xs ≡ false) → (b || list_any p (xs ++ ys)) ≡ false
        → (b || list_any p xs) ≡ false
    at true more e = cc
    at false more e = more e

any-behind : {A : Type 0} (p : A → Bool) (xs ys : List A) → list_any p (xs ++ ys) ≡ false → list_any p ys ≡ false
any-behind p [] ys e = e
any-behind p (x ∷ xs) ys e = any-behind p xs ys (or-right (p x) _ e)

-- ---- logs

abbrev head-or : Passed → Log → Passed
head-or p [] = p
head-or p (q ∷ log) = q

abbrev tail-of : Log → Log
tail-of [] = []
tail-of (p ∷ log) = log

empty_is_clean : (later before : Log) (p : Passed) → [] ≡ later ++ p ∷ before → session_finding before p.direction
    p.message ≡ None
empty_is_clean [] before p e = cc
empty_is_clean (q ∷ later) before p e = cc

more_is_clean : (p : Passed) (log : Log) → IsClean log → session_finding log p.direction p.message ≡ None →
    (later before : Log) (q : Passed)
    → p ∷ log ≡ later ++ q ∷ before → session_finding before q.direction q.message ≡ None
more_is_clean p log clean none [] before q e =
    subst (λ b. session_finding b q.direction q.message ≡ None) (ap tail-of e)
    (subst (λ x. session_finding log x.direction x.message ≡ None) (ap (head-or p) e) none)
more_is_clean p log clean none (x ∷ later) before q e = clean later before q (ap tail-of e)

clean_if : (t : Bool) (log : Log) → IsClean log → IsClean (cond t [] log)
clean_if true log clean = empty_is_clean
clean_if false log clean = clean

-- ---- what counts

at_least : (l : Level) → is_at_least l Implied ≡ true
at_least Must = refl
at_least Should = refl
at_least Implied = refl

module _ (choice : Choice) (strict : IsStrict choice) where
  all_count : (rule : Rule) (direction : Direction) → counts choice rule direction ≡ true
  all_count rule direction = ap (λ s. is_of s (culprit (side_of rule) direction)
      && is_at_least (level_of rule) choice.level)
      strict.side
      ∙ ap (λ l. is_at_least (level_of rule) l) strict.level ∙ at_least (level_of rule)

  first_counts : (direction : Direction) (o : Option Finding) (rest : List Finding)
      → list_any (fails choice Known direction) (map (as_breach true) (option_to_list o ++ rest)) ≡ false → o ≡ None
  first_counts direction None rest e = refl
  first_counts direction (Some f) rest e =
      let counted : counts choice f.0 direction ≡ true = all_count f.0 direction in
      let quiet : counts choice f.0 direction ≡ false = or-left _ (list_any (fails choice Known direction)
      (map (as_breach true) rest)) e in
      cc

  fits : (log : Log) (direction : Direction) (faults : List Rule) (m : Message)
      → list_any (fails choice Known direction) (breaches_of true log direction faults (Some m)) ≡ false
      → session_finding log
      direction m ≡ None
  fits log direction faults m e = first_counts direction (session_finding log direction m)
      (option_to_list (document_finding log direction m) ++ option_to_list (progress_finding log direction m))
      (any-behind (fails choice Known direction) (map shape_breach faults)
      (map (as_breach true) (findings_of log direction m)) e)

  entered_is_clean : (n : ℕ) (log : Log) (direction : Direction) (faults : List Rule) (m : Option Message) → IsClean log
      → list_any (fails choice Known direction) (breaches_of true log direction faults m) ≡ false
      → IsClean (entered direction n m log)
  entered_is_clean n log direction faults None clean e = clean
  entered_is_clean n log direction faults (Some m) clean e = more_is_clean (passed direction n m) log clean
      (fits log direction faults m e)

  -- ---- one line

  begun_broken : (a b : Bool) (x y z : Judged) (j : Judged) → x.is_broken ≡ j.is_broken → y.is_broken ≡ left choice
      true true j
      → z.is_broken ≡ j.is_broken → (cond a x (cond b y z)).is_broken ≡ false → j.is_broken ≡ false
  begun_broken true b x y z j ex ey ez e = sym ex ∙ e
  begun_broken false true x y z j ex ey ez e = or-left j.is_broken _ (sym ey ∙ e)
  begun_broken false false x y z j ex ey ez e = sym ez ∙ e

  -- the parts of `begun`
  abbrev is_part : Judged → Direction → Option Message → Bool
  is_part j direction m = not j.is_begun && (false && not (opens direction m))

  abbrev part : Judged → Judged
  part j = begins false j.is_broken j.is_matched j

  abbrev fresh : Judged → Judged
  fresh j = begins true (left choice true true j) (j.is_matched && is_known Known) j

  was_unbroken : (n : ℕ) (j : Judged) (m : Option (Direction × Data)) → (with_line choice false n j m).is_broken ≡ false
      → j.is_broken ≡ false
  was_unbroken n j None e = e
  was_unbroken n j (Some m) e = begun_broken (is_part j m.0 (entry_in m.1))
      (begins_in j.is_whole j.log m.0 (entry_in m.1)) (part j)
      (fresh j) (goes_on j) j refl refl refl (or-left (begun choice false Known j m.0 (entry_in m.1)).is_broken _ e)

  unbroken : (n : ℕ) (j : Judged) (more : List (List ℕ)) → (after_lines choice false n j more).is_broken ≡ false →
      j.is_broken ≡ false
  unbroken n j [] e = e
  unbroken n j (line ∷ more) e = was_unbroken n j (line_tree line)
      (unbroken (n + 1) (with_line choice false n j (line_tree line)) more e)

  -- a judgement from the first message on, of a session that is clean
  record Stands (j : Judged) (log : Log) : Type 0 where
    log_is : j.log ≡ log
    whole : j.is_whole ≡ true
    clean : IsClean log

  begun_log : (b : Bool) (y z : Judged) (log : Log) → y.log ≡ [] → z.log ≡ log → (cond b y z).log ≡ cond b [] log
  begun_log true y z log ey ez = ey
  begun_log false y z log ey ez = ez

  begun_whole : (b : Bool) (y z : Judged) → y.is_whole ≡ true → z.is_whole ≡ true → (cond b y z).is_whole ≡ true
  begun_whole true y z ey ez = ey
  begun_whole false y z ey ez = ez

  begun_stands : (j : Judged) (direction : Direction) (m : Option Message) (log : Log) → Stands j log
      → Stands (begun choice false Known j direction m) (cond (begins_in true log direction m) [] log)
  begun_stands j direction m log s =
      let b : Bool = begins_in j.is_whole j.log direction m in
      let is : begun choice false Known j direction m ≡ cond b (fresh j) (goes_on j) =
      ap (λ t. cond t (part j) (cond b (fresh j) (goes_on j))) (never (not j.is_begun) (not (opens direction m))) in
      let begins : b ≡ begins_in true log direction m = ap (λ w. begins_in w j.log direction m) s.whole ∙ ap
      (λ l. begins_in true l direction m) s.log_is in
      record {
        log_is = ap (λ r. r.log) is ∙ begun_log b (fresh j) (goes_on j) log refl s.log_is
            ∙ ap (λ t. cond t [] log) begins;
        whole = ap (λ r. r.is_whole) is ∙ begun_whole b (fresh j) (goes_on j) refl s.whole;
        clean = clean_if (begins_in true log direction m) log s.clean;
      }

  line_stands : (n : ℕ) (j : Judged) (log : Log) (m : Option (Direction × Data)) → Stands j log
      → (with_line choice false n j m).is_broken ≡ false → Stands (with_line choice false n j m) (with_message n log m)
  line_stands n j log None s e = s
  line_stands n j log (Some m) s e =
      let direction : Direction = m.0 in
      let before : Log = cond (begins_in true log direction (entry_in m.1)) [] log in
      let at : Judged = begun choice false Known j direction (entry_in m.1) in
      let b : Stands at before = begun_stands j direction (entry_in m.1) log s in
      let quiet : list_any (fails choice Known direction)
      (breaches_of true before direction (faults_of m.1) (entry_in m.1)) ≡
      false =
      ap (λ l. list_any (fails choice Known direction) (breaches_of true l direction (faults_of m.1) (entry_in m.1)))
      (sym b.log_is)
      ∙ ap (λ w. list_any (fails choice Known direction)
      (breaches_of w at.log direction (faults_of m.1) (entry_in m.1)))
      (sym b.whole)
      ∙ any-front (fails choice Known direction)
      (breaches_of at.is_whole at.log direction (faults_of m.1) (entry_in m.1)) _
      (or-left _ (list_any (fails_shown choice Known (Some Breach) direction)
      (unfit at.model choice (Some Breach) at.log direction (entry_in m.1) (option_map (λ x. m.1) (entry_in m.1))))
      (or-right at.is_broken _ e)) in
      record {
        log_is = ap (λ l. entered direction n (entry_in m.1) l) b.log_is;
        whole = b.whole;
        clean = entered_is_clean n before direction (faults_of m.1) (entry_in m.1) b.clean quiet;
      }

  -- ---- all lines

  clean_after : (count n : ℕ) (j : Judged) (log : Log) (all : List (List ℕ)) → Stands j log
      → (after_lines choice false n j all).is_broken ≡ false → IsClean (session_from n log (take count all))
  clean_after zero n j log all s e = s.clean
  clean_after (suc count) n j log [] s e = s.clean
  clean_after (suc count) n j log (line ∷ more) s e =
      let next : Judged = with_line choice false n j (line_tree line) in
      clean_after count (n + 1) next (with_message n log (line_tree line)) more
      (line_stands n j log (line_tree line) s (unbroken (n + 1) next more e)) e

  pub clean_session : (text : List ℕ) → (judged_of choice false text).is_broken ≡ false → (count : ℕ)
      → IsClean (session_after count text)
  clean_session text e count = clean_after count 1 (nothing choice.capabilities None) [] (lines text)
      (record { log_is = refl; whole = refl; clean = empty_is_clean }) e
