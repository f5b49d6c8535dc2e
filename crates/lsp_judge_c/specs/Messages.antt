-- What is kept of a session that is judged one message at a time, and what the functions for it return.
use Rattle.std.specs.Prelude.{◌≡◌, ◌⊎◌, ℕ, ◌+◌, drop, ◌==◌, ◌&&◌, ◌||◌, not, nat_le, Bool, true, false, List, [], ◌∷◌}
use Rattle.std.specs.Prelude.{Option, Some, None, is_some, if◌then◌else◌}
use Rattle.std.specs.Str.{is_utf8}
use Rattle.serde_json.specs.Data.{Data}
use Rattle.lsp_message.specs.HeaderPart.{lines}
use Rattle.lsp_watch.specs.declared.breach.Verdict.TheVariants.{Breach}
use Rattle.lsp_watch.specs.declared.direction.Direction.TheVariants.{ToServer, ToClient}
use Rattle.lsp_watch.specs.declared.direction.Direction.{Direction}
use Rattle.lsp_watch.specs.declared.rule.Rule.TheVariants.{NotUtf8, NotJson, Unreadable}
use Rattle.lsp_watch.specs.declared.rule.Rule.{Rule}
use Rattle.lsp_judge.specs.Judged.{Judged, Judges, nothing, seen, left}
use Rattle.lsp_judge.specs.Recording.{direction_of, first_unread, judged_of, tree_in, with_line}
use Rattle.lsp_judge.specs.declared.choice.Choice.{Choice}
use Rattle.lsp_judge.specs.declared.judgement.Judgement.{Judgement}
use Rattle.lsp_judge.specs.declared.passed.Order.TheVariants.{Known}
use Rattle.lsp_judge_c.specs.Statuses.{Picks, is_named, is_late}
use Rattle.lsp_judge_c.specs.declared.LspJudgeOptions.{LspJudgeOptions}
use Rattle.lsp_judge_c.specs.declared.LspJudgeVerdict.{LspJudgeVerdict}
use Rattle.lsp_judge_c.specs.declared.session.Session.{Session}

-- ---- arguments

-- The size is that of the header, and each option has a value that it names. Each format may have each group of rules.
abbrev pub may_open : LspJudgeOptions → Bool
may_open o = o.size == 24 && is_named o && nat_le o.groups 1 && nat_le o.from_line 1

-- the session is open, and each argument has a value that the header names
abbrev pub takes_message : Bool → ℕ → ℕ → LspJudgeVerdict → Bool
takes_message is_open direction place verdict =
    verdict.size == 32 && nat_le direction 1 && not (place == 0) && is_open

abbrev pub takes_end : Bool → ℕ → LspJudgeVerdict → Bool
takes_end is_open ended verdict = verdict.size == 32 && nat_le ended 3 && is_open

abbrev pub direction_named : ℕ → Direction
direction_named n = if n == 0 then ToServer else ToClient

-- 1: the server has ended, 2: the client, 3: both
abbrev pub server_ended : ℕ → Bool
server_ended ended = ended == 1 || ended == 3

abbrev pub client_ended : ℕ → Bool
client_ended ended = ended == 2 || ended == 3

-- ---- a session

-- no message was judged, and what counts is what the options say
pub record Begins (o : LspJudgeOptions) (s : Session) : Type 0 where
  pub options : s.options ≡ o
  pub picks : Picks o s.choice
  pub nothing_is : Judges s.judgement (nothing s.choice.capabilities None)
  pub read : s.unread ≡ 0

-- the place of the first content that was not read, after one more; 0 if each was read
abbrev pub unread_after : ℕ → ℕ → List ℕ → ℕ
unread_after unread place content = if unread == 0 && not (is_some (tree_in content)) then place else unread

-- which rule a content breaks that could not be read, by whether it is UTF-8
abbrev pub SaysUnread : Bool → Rule → Type 0
SaysUnread false rule = rule ≡ NotUtf8
SaysUnread true rule = (rule ≡ NotJson) ⊎ (rule ≡ Unreadable)

-- a judgement that saw a content which could not be read: it is no message, and breaks this rule alone
pub record SawUnread (choice : Choice) (late : Bool) (place : ℕ) (j : Judged) (direction : Direction) (content : List ℕ)
    (judgement : Judgement) : Type 0 where
  pub rule : Rule
  pub why : SaysUnread (is_utf8 content) rule
  pub judges : Judges judgement (seen choice late Known (Some Breach) j place direction (rule ∷ []) None None)

-- a judgement that saw a content after all of `j`: the same as a line of a recording does
abbrev pub SawNext : Choice → Bool → ℕ → Judged → Direction → List ℕ → Option Data → Judgement → Type 0
SawNext choice late place j direction content None judgement = SawUnread choice late place j direction content judgement
SawNext choice late place j direction content (Some tree) judgement =
    Judges judgement (with_line choice late place j (Some (direction, tree)))

-- the session after one more message
pub record Passes (before after : Session) (direction : Direction) (place : ℕ) (content : List ℕ) : Type 0 where
  pub options : after.options ≡ before.options
  pub choice : after.choice ≡ before.choice
  pub unread : after.unread ≡ unread_after before.unread place content
  pub judges : (j : Judged) → Judges before.judgement j → before.choice.ignored.items ≡ []
      → SawNext before.choice (is_late before.options) place j direction content (tree_in content) after.judgement

-- ---- the messages of a recording

-- the message of a line passes, by its direction; a line without a direction has none
abbrev pub PassesLine : Option Direction → ℕ → List ℕ → Session → Session → Type 0
PassesLine None n line before after = after ≡ before
PassesLine (Some direction) n line before after = Passes before after direction n (drop 3 line)

-- the messages of these lines, which are counted from n on, pass one after another; with the sessions after each line
abbrev pub PassEach : ℕ → Session → List (List ℕ) → List Session → Type 0
PassEach n s [] later = later ≡ []
PassEach n s (line ∷ more) [] = ⊥
PassEach n s (line ∷ more) (t ∷ later) = PassesLine (direction_of line) n line s t × PassEach (n + 1) t more later

abbrev pub last_of : Session → List Session → Session
last_of s [] = s
last_of s (t ∷ later) = last_of t later

-- The messages of this recording passed, one after another, in a session that began so. Each line was read.
pub record Recorded (o : LspJudgeOptions) (text : List ℕ) (s : Session) : Type 0 where
  pub first : Session
  pub later : List Session
  pub begins : Begins o first
  pub passes : PassEach 1 first (lines text) later
  pub read : first_unread 1 (lines text) ≡ 0
  pub last : last_of first later ≡ s

-- ---- statuses

-- by whether a rule is broken that counts, whether there was a message, and the first content that was not read
abbrev pub status_of : Bool → Bool → ℕ → ℕ
status_of is_broken is_begun unread =
    if is_broken then 1 else if not is_begun then 2 else if unread == 0 then 0 else 3

abbrev pub status_after : Session → ℕ
status_after s = status_of s.judgement.is_broken true s.unread

-- the status of a session that is over
abbrev pub IsEndOf : Session → ℕ → ℕ → Type 0
IsEndOf s ended status = (j : Judged) → Judges s.judgement j → s.choice.ignored.items ≡ []
    → status ≡ status_of (left s.choice (server_ended ended) (client_ended ended) j) j.is_begun s.unread

-- the status at the end of a session in which the messages of this recording passed
abbrev pub status_of_recording : Choice → Bool → ℕ → List ℕ → ℕ
status_of_recording choice late ended text = let j = judged_of choice late text in
    status_of (left choice (server_ended ended) (client_ended ended) j) j.is_begun 0
