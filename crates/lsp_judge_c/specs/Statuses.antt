-- What the statuses of a recording mean.
use Rattle.std.specs.Prelude.{◌≡◌, ℕ, ◌==◌, ◌&&◌, nat_le, Bool, true, false, List, [], if◌then◌else◌}
use Rattle.lsp_message.specs.HeaderPart.{lines}
use Rattle.lsp_watch.specs.declared.rule.Level.TheVariants.{Must, Should, Implied}
use Rattle.lsp_watch.specs.declared.rule.Level.{Level}
use Rattle.lsp_judge.specs.Judged.{left}
use Rattle.lsp_judge.specs.Recording.{first_unread, judged_of}
use Rattle.lsp_judge.specs.declared.choice.Choice.{Choice}
use Rattle.lsp_judge.specs.declared.choice.FailOn.TheVariants.{Servers, Clients, Both}
use Rattle.lsp_judge.specs.declared.choice.FailOn.{FailOn}
use Rattle.lsp_judge_c.specs.declared.LspJudgeOptions.{LspJudgeOptions}
use Rattle.lsp_judge_c.specs.declared.LspJudgeVerdict.{LspJudgeVerdict}

-- ---- options

-- Of a recording, the rules of a session alone are judged. Of another log, all is reported.
abbrev pub fits_format : LspJudgeOptions → Bool
fits_format o = if o.format == 0 then o.groups == 0 else nat_le o.groups 1 && nat_le o.from_line 1

abbrev pub is_named : LspJudgeOptions → Bool
is_named o = nat_le o.format 1 && nat_le o.side 2 && nat_le o.level 2 && nat_le o.begins_late 1

-- the sizes are those of the header, and each option has a value that it names
abbrev pub is_accepted : LspJudgeOptions → LspJudgeVerdict → Bool
is_accepted o verdict = verdict.size == 32 && o.size == 24 && is_named o && fits_format o

abbrev pub side_named : ℕ → FailOn
side_named n = if n == 0 then Servers else if n == 1 then Clients else Both

abbrev pub level_named : ℕ → Level
level_named n = if n == 0 then Must else if n == 1 then Should else Implied

abbrev pub is_late : LspJudgeOptions → Bool
is_late o = o.begins_late == 1

-- what counts is what the options say, no rule of types or texts is judged, and nothing is ignored
pub record Picks (o : LspJudgeOptions) (choice : Choice) : Type 0 where
  pub side : choice.fail_on ≡ side_named o.side
  pub level : choice.level ≡ level_named o.level
  pub groups : choice.capabilities ≡ (o.groups == 1)
  pub types : choice.types.items ≡ []
  pub all : choice.ignored.items ≡ []

-- each breach of a rule counts, and the log is judged from its first message on
pub record CountsAll (o : LspJudgeOptions) : Type 0 where
  pub side : o.side ≡ 2
  pub level : o.level ≡ 2
  pub whole : o.begins_late ≡ 0

-- ---- recordings, by a choice

-- each line was read, there is a message, and neither a message nor the end of a session breaks a rule that counts
pub record CleanBy (choice : Choice) (late : Bool) (text : List ℕ) : Type 0 where
  pub read : first_unread 1 (lines text) ≡ 0
  pub some : (judged_of choice late text).is_begun ≡ true
  pub keeps : left choice false false (judged_of choice late text) ≡ false

-- a message or the end of a session breaks a rule that counts
abbrev pub BrokenBy : Choice → Bool → List ℕ → Type 0
BrokenBy choice late text = left choice false false (judged_of choice late text) ≡ true

-- there is no message
abbrev pub EmptyBy : Choice → Bool → List ℕ → Type 0
EmptyBy choice late text = (judged_of choice late text).is_begun ≡ false

-- ---- recordings, by the options

pub record IsClean (o : LspJudgeOptions) (text : List ℕ) : Type 0 where
  pub choice : Choice
  pub picks : Picks o choice
  pub clean : CleanBy choice (is_late o) text

pub record IsBroken (o : LspJudgeOptions) (text : List ℕ) : Type 0 where
  pub choice : Choice
  pub picks : Picks o choice
  pub broken : BrokenBy choice (is_late o) text

pub record IsEmpty (o : LspJudgeOptions) (text : List ℕ) : Type 0 where
  pub choice : Choice
  pub picks : Picks o choice
  pub empty : EmptyBy choice (is_late o) text
