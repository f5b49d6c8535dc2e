-- What an act over a value of one's own carries.
use Rattle.std.specs.Prelude.{◌≡◌, Bool, List, Option, Result, Ok, Err}
use Rattle.serde.specs.Event.{Event}
use Rattle.serde_json.specs.Data.{Data}
use Rattle.lsp_message.specs.Converted.{IsOutcomeOf}
use Rattle.lsp_message.specs.View.{error_view}
use Rattle.lsp_message.specs.declared.msg.ResponseError.{ResponseError}
use Rattle.lsp_acts.specs.Acts.{Act}
use Rattle.lsp_acts.specs.View.{act_view}
use Rattle.lsp_acts.specs.declared.server.Act as rust

-- the act, of payloads that are equal so, with a tree that the value is written as, or the error -32603 and no act
abbrev pub Carries : {P : Type 0} → (P → P → Bool) → (Option (List Event) → Option (List Event) → Type 0)
    → (Data → Act P)
    → Result (rust.Act P) ResponseError → Type 0
Carries same writes carrying (Ok act) = (tree : Data) × IsOutcomeOf writes (Ok tree)
    × (act_view same act ≡ carrying tree)
Carries same writes carrying (Err e) = IsOutcomeOf writes (Err (error_view e))
