-- Which steps write messages that are read back: those whose params and results nest at most 126 levels, and so their
-- messages at most 127.
use Rattle.std.specs.List.{AllByRecursion}
use Rattle.std.specs.Prelude.{◌≤◌, List}
use Rattle.serde_json.specs.Data.{depth}
use Rattle.serde_json.specs.View.{view}
use Rattle.lsp_peers.specs.declared.step.Step.{Step}
use Rattle.lsp_peers.specs.declared.step.Step.TheVariants.{Register, Tell, Answer}

abbrev pub IsShallow : Step → Type 0
IsShallow (Register side method params payload) = depth (view params) ≤ 126
IsShallow (Tell side method params) = depth (view params) ≤ 126
IsShallow (Answer side id value) = depth (view value) ≤ 126
IsShallow step = Unit {0}

abbrev pub AllShallow : List Step → Type 0
AllShallow steps = AllByRecursion IsShallow steps
