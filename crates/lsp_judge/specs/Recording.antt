-- The messages of a recording, and what a judgement says of them.
use Rattle.serde_json.specs.Data.{Data}
use Rattle.serde_json.specs.Read.{read}
use Rattle.std.specs.List.{list_all}
use Rattle.std.specs.Prelude.{◌≡◌, ℕ, ◌+◌, Bool, true, false, ◌||◌, List, [], ◌∷◌, take, drop, Option, Some, None}
use Rattle.std.specs.Prelude.{option_and_then, option_map, is_some, if◌then◌else◌, codes, ◌==◌}
use Rattle.std.specs.Str.{bytes_eq, is_utf8}
use Rattle.lsp_message.specs.HeaderPart.{lines}
use Rattle.lsp_watch.specs.Entries.{entry_in}
use Rattle.lsp_watch.specs.Log.{Log}
use Rattle.lsp_watch.specs.Shape.{faults_of}
use Rattle.lsp_watch.specs.Verdicts.{begins_in, entered}
use Rattle.lsp_watch.specs.declared.breach.Verdict.TheVariants.{Breach}
use Rattle.lsp_watch.specs.declared.direction.Direction.TheVariants.{ToServer, ToClient}
use Rattle.lsp_watch.specs.declared.direction.Direction.{Direction}
use Rattle.lsp_watch.specs.declared.rule.Level.TheVariants.{Implied}
use Rattle.lsp_watch.specs.declared.rule.Rule.TheVariants.{NotUtf8, NotJson, Unreadable}
use Rattle.lsp_watch.specs.declared.rule.Rule.{Rule}
use Rattle.lsp_judge.specs.Judged.{Judged, nothing, seen, left}
use Rattle.lsp_judge.specs.declared.choice.Choice.{Choice}
use Rattle.lsp_judge.specs.declared.choice.FailOn.TheVariants.{Both}
use Rattle.lsp_judge.specs.declared.passed.Order.TheVariants.{Known}

-- the direction of a line that begins with `-> ` or `<- `
abbrev pub direction_of : List ℕ → Option Direction
direction_of line = if bytes_eq (take 3 line) (codes "-> ") then Some ToServer
    else if bytes_eq (take 3 line) (codes "<- ") then Some ToClient else None

-- the JSON of a content part, which is UTF-8
abbrev pub tree_in : List ℕ → Option Data
tree_in content = if is_utf8 content then read content else None

-- a content that could not be read breaks one of these rules alone
abbrev pub says_unread : Rule → Bool
says_unread NotUtf8 = true
says_unread NotJson = true
says_unread Unreadable = true
says_unread rule = false

-- the message of a line: its direction, and its JSON
abbrev pub line_tree : List ℕ → Option (Direction × Data)
line_tree line = option_and_then (λ direction. option_map (λ tree. (direction, tree)) (tree_in (drop 3 line)))
    (direction_of line)

abbrev pub is_blank : ℕ → Bool
is_blank byte = byte == 32 || byte == 9 || byte == 13 || byte == 10

-- a line with no direction has blanks alone
abbrev pub is_empty_line : Option Direction → List ℕ → Bool
is_empty_line None line = list_all is_blank line
is_empty_line (Some direction) line = false

-- a line has a message, or nothing
abbrev pub is_read : List ℕ → Bool
is_read line = is_some (line_tree line) || is_empty_line (direction_of line) line

-- the first line, counted from n on, that is not read; 0 if each is
abbrev pub first_unread : ℕ → List (List ℕ) → ℕ
first_unread n [] = 0
first_unread n (line ∷ more) = if is_read line then first_unread (n + 1) more else n

module _ (choice : Choice) (may_begin_late : Bool) where
  -- the judgement after one more line
  abbrev pub with_line : ℕ → Judged → Option (Direction × Data) → Judged
  with_line n j None = j
  with_line n j (Some m) =
      seen choice may_begin_late Known (Some Breach) j n m.0 (faults_of m.1) (entry_in m.1)
      (option_map (λ x. m.1) (entry_in m.1))

  -- the judgement after these lines, which are counted from n on
  abbrev pub after_lines : ℕ → Judged → List (List ℕ) → Judged
  after_lines n j [] = j
  after_lines n j (line ∷ more) = after_lines (n + 1) (with_line n j (line_tree line)) more

  -- the judgement of a recording, by no rule of types or texts
  abbrev pub judged_of : List ℕ → Judged
  judged_of text = after_lines 1 (nothing choice.capabilities None) (lines text)

-- ---- the session that goes on, whatever counts

-- an `initialize` behind `exit` begins a new session
abbrev pub with_message : ℕ → Log → Option (Direction × Data) → Log
with_message n log None = log
with_message n log (Some m) =
    entered m.0 n (entry_in m.1) (if begins_in true log m.0 (entry_in m.1) then [] else log)

-- the messages of the session, after these lines, which are counted from n on
abbrev pub session_from : ℕ → Log → List (List ℕ) → Log
session_from n log [] = log
session_from n log (line ∷ more) = session_from (n + 1) (with_message n log (line_tree line)) more

-- the messages of the session that goes on after the first lines of a recording
abbrev pub session_after : ℕ → List ℕ → Log
session_after count text = session_from 1 [] (take count (lines text))

-- each breach of a rule counts
pub record IsStrict (choice : Choice) : Type 0 where
  pub side : choice.fail_on ≡ Both
  pub level : choice.level ≡ Implied
