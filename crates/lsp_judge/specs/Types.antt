-- Which rules of types and texts a message breaks.
use Rattle.std.specs.Prelude.{Bool, false, List, [], Option, Some, None, filter}
use Rattle.serde_json.specs.Data.{Data}
use Rattle.lsp_message.specs.Message.{Message}
use Rattle.lsp_model.specs.Findings.{any_if, is_unfit_message}
use Rattle.lsp_model.specs.declared.mode.Mode.{Mode}
use Rattle.lsp_model.specs.declared.mode.Mode.TheVariants.{Loose, Strict, Edits, Tokens, Selection, Ranges}
use Rattle.lsp_model.specs.declared.model.Model.{Model}
use Rattle.lsp_watch.specs.Log.{Log}
use Rattle.lsp_watch.specs.declared.breach.Verdict.{Verdict}
use Rattle.lsp_watch.specs.declared.direction.Direction.{Direction}
use Rattle.lsp_watch.specs.declared.rule.Rule.TheVariants.{WrongType, LooseType, EditsOverlap, TokensNotInFives}
use Rattle.lsp_watch.specs.declared.rule.Rule.TheVariants.{SelectionOutside, RangeReversed}
use Rattle.lsp_watch.specs.declared.rule.Rule.{Rule}
use Rattle.lsp_judge.specs.declared.choice.Choice.{Choice}

-- the mode in which a message is unfit if it breaks a rule
abbrev pub mode_of : Rule → Option Mode
mode_of WrongType = Some Loose
mode_of LooseType = Some Strict
mode_of EditsOverlap = Some Edits
mode_of TokensNotInFives = Some Tokens
mode_of SelectionOutside = Some Selection
mode_of RangeReversed = Some Ranges
mode_of rule = None

-- A message breaks a rule of types or texts. The tree is the whole message.
abbrev pub breaks_type : Model → Log → Direction → Message → Data → Rule → Bool
breaks_type model log direction m d rule = any_if (λ mode. is_unfit_message model mode log direction m d) (mode_of rule)

abbrev pub unfit_known : Model → Choice → Log → Direction → Option Message → Option Data → List Rule
unfit_known model choice log direction None d = []
unfit_known model choice log direction (Some m) None = []
unfit_known model choice log direction (Some m) (Some d) =
    filter (λ rule. breaks_type model log direction m d rule) choice.types.items

-- the judged rules of types and texts that a message breaks: none without a model, or where the log does not show them
abbrev pub unfit : Option Model → Choice → Option Verdict → Log → Direction → Option Message → Option Data → List Rule
unfit None choice verdict log direction m d = []
unfit (Some model) choice None log direction m d = []
unfit (Some model) choice (Some verdict) log direction m d = unfit_known model choice log direction m d
