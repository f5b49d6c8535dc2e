-- A session in which the messages of a recording passed is the judgement of that recording.
use Rattle.std.proofs.Common.{◌≡◌, ◌≢◌, ℕ, ◌+◌, Bool, true, false, true≢false, cond, ◌||◌, List, [], ◌∷◌}
use Rattle.std.proofs.Common.{Option, Some, None, refl, sym, ap, subst, ◌∙◌, arith}
use Rattle.std.specs.Prelude.{◌==◌, ◌&&◌, not, drop, is_some, option_map, option_and_then, if◌then◌else◌}
use Rattle.serde_json.specs.Data.{Data}
use Rattle.lsp_watch.specs.declared.direction.Direction.{Direction}
use Rattle.lsp_judge.specs.Judged.{Judged, Judges}
use Rattle.lsp_judge.specs.Recording.{direction_of, tree_in, line_tree, is_read, is_empty_line, first_unread, with_line}
use Rattle.lsp_judge.specs.Recording.{after_lines}
use Rattle.lsp_judge.specs.declared.choice.Choice.{Choice}
use Rattle.lsp_judge_c.specs.Messages.{Passes, SawNext, PassesLine, PassEach, last_of}
use Rattle.lsp_judge_c.specs.Statuses.{is_late}
use Rattle.lsp_judge_c.specs.declared.session.Session.{Session}

-- the message of a line of this direction, with the JSON of its content
abbrev of_direction : Direction → Option Data → Option (Direction × Data)
of_direction direction o = option_map (λ tree. (direction, tree)) o

module _ (choice : Choice) (late : Bool) (none : choice.ignored.items ≡ []) where
  -- the choice and the options stay
  pub record Keeps (s : Session) : Type 0 where
    pub choice_is : s.choice ≡ choice
    pub late_is : is_late s.options ≡ late

  module _ (n : ℕ) (line : List ℕ) (s t : Session) (keeps : Keeps s) where
    keeps_on : (w : Option Direction) → PassesLine w n line s t → Keeps t
    keeps_on None same = subst Keeps (sym same) keeps
    keeps_on (Some direction) passes = record {
      choice_is = passes.choice ∙ keeps.choice_is;
      late_is = ap is_late passes.options ∙ keeps.late_is;
    }

    module _ (j : Judged) (judges : Judges s.judgement j) where
      by_direction : (direction : Direction) → Passes s t direction n (drop 3 line)
          → (is_some (of_direction direction (tree_in (drop 3 line))) || false) ≡ true
          → Judges t.judgement (with_line choice late n j (of_direction direction (tree_in (drop 3 line))))
      by_direction direction passes read = at (tree_in (drop 3 line)) saw read
        where
          content : List ℕ
          content = drop 3 line

          saw : SawNext choice late n j direction content (tree_in content) t.judgement
          saw = subst (λ l. SawNext choice l n j direction content (tree_in content) t.judgement) keeps.late_is
              (subst (λ c. SawNext c (is_late s.options) n j direction content (tree_in content) t.judgement)
              keeps.choice_is
              (passes.judges j judges (ap (λ c. c.ignored.items) keeps.choice_is ∙ none)))

          at : (o : Option Data) → SawNext choice late n j direction content o t.judgement
              → (is_some (of_direction direction o) || false) ≡ true
              → Judges t.judgement (with_line choice late n j (of_direction direction o))
          at None it read = absurd (true≢false (sym read))
          at (Some tree) it read = it

      by_line : (w : Option Direction) → PassesLine w n line s t
          → (is_some (option_and_then (λ direction. of_direction direction (tree_in (drop 3 line))) w)
          || is_empty_line w line) ≡ true
          → Judges t.judgement
          (with_line choice late n j (option_and_then (λ direction. of_direction direction (tree_in (drop 3 line))) w))
      by_line None same read = subst (λ it. Judges it.judgement j) (sym same) judges
      by_line (Some direction) passes read = by_direction direction passes read

  pub one_by_one : (n : ℕ) → n ≢ 0 → (j : Judged) (s : Session) (ls : List (List ℕ)) (later : List Session) → Keeps s
      → Judges s.judgement j → PassEach n s ls later → first_unread n ls ≡ 0
      → Judges (last_of s later).judgement (after_lines choice late n j ls)
  one_by_one n some j s [] later keeps judges passes read =
      subst (λ it. Judges (last_of s it).judgement j) (sym passes) judges
  one_by_one n some j s (line ∷ more) [] keeps judges passes read = absurd passes
  one_by_one n some j s (line ∷ more) (t ∷ later) keeps judges passes read = at (is_read line) refl read
      (λ is r. one_by_one (n + 1) (omega arith) (with_line choice late n j (line_tree line)) t more later
      (keeps_on n line s t keeps (direction_of line) passes.0)
      (by_line n line s t keeps j judges (direction_of line) passes.0 is) passes.1 r)
    where
      at : (b : Bool) → is_read line ≡ b → cond b (first_unread (n + 1) more) n ≡ 0
          → (is_read line ≡ true → first_unread (n + 1) more ≡ 0 → Judges (last_of t later).judgement
          (after_lines choice late (n + 1) (with_line choice late n j (line_tree line)) more))
          → Judges (last_of t later).judgement
          (after_lines choice late (n + 1) (with_line choice late n j (line_tree line)) more)
      at true is r behind = behind is r
      at false is r behind = absurd (some r)

  -- the choice and the options stay to the last session
  pub all_keep : (n : ℕ) (s : Session) (ls : List (List ℕ)) (later : List Session) → Keeps s → PassEach n s ls later
      → Keeps (last_of s later)
  all_keep n s [] later keeps passes = subst (λ it. Keeps (last_of s it)) (sym passes) keeps
  all_keep n s (line ∷ more) [] keeps passes = absurd passes
  all_keep n s (line ∷ more) (t ∷ later) keeps passes =
      all_keep (n + 1) t more later (keeps_on n line s t keeps (direction_of line) passes.0) passes.1

-- each message was read, if each line was
unread_on : (place : ℕ) (o : Option Data) (unread : ℕ) → unread ≡ 0 → is_some o ≡ true
    → (if unread == 0 && not (is_some o) then place else unread) ≡ 0
unread_on place (Some tree) unread none read = rw none refl
unread_on place None unread none read = absurd (cc (read))

read_line : (n : ℕ) (line : List ℕ) (s t : Session) (w : Option Direction) → PassesLine w n line s t → s.unread ≡ 0
    → (is_some (option_and_then (λ direction. of_direction direction (tree_in (drop 3 line))) w)
    || is_empty_line w line) ≡ true → t.unread ≡ 0
read_line n line s t None same none read = ap (λ it. it.unread) same ∙ none
read_line n line s t (Some direction) passes none read =
    passes.unread ∙ unread_on n (tree_in (drop 3 line)) s.unread none (is_there (tree_in (drop 3 line)) read)
  where
    is_there : (o : Option Data) → (is_some (of_direction direction o) || false) ≡ true → is_some o ≡ true
    is_there (Some tree) is = refl
    is_there None is = is

pub all_read : (n : ℕ) → n ≢ 0 → (s : Session) (ls : List (List ℕ)) (later : List Session) → s.unread ≡ 0
    → PassEach n s ls later → first_unread n ls ≡ 0 → (last_of s later).unread ≡ 0
all_read n some s [] later none passes read = subst (λ it. (last_of s it).unread ≡ 0) (sym passes) none
all_read n some s (line ∷ more) [] none passes read = absurd passes
all_read n some s (line ∷ more) (t ∷ later) none passes read = at (is_read line) refl read
    (λ is r. all_read (n + 1) (omega arith) t more later (read_line n line s t (direction_of line) passes.0 none is)
    passes.1 r)
  where
    at : (b : Bool) → is_read line ≡ b → cond b (first_unread (n + 1) more) n ≡ 0
        → (is_read line ≡ true → first_unread (n + 1) more ≡ 0 → (last_of t later).unread ≡ 0)
        → (last_of t later).unread ≡ 0
    at true is r behind = behind is r
    at false is r behind = absurd (some r)
