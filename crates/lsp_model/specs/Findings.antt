-- Whether the params or the result of a message fit the type of its method.
use Rattle.std.specs.Prelude.{ℕ, Bool, false, not, ◌&&◌, List, Option, Some, None, unwrap_or, codes}
use Rattle.serde_json.specs.Data.{Data, null, object, no_members}
use Rattle.serde_json.specs.Find.{get}
use Rattle.lsp_message.specs.Message.{Message, request, notification, response}
use Rattle.lsp_watch.specs.Log.{Log, Open, other, is_success, waiting}
use Rattle.lsp_watch.specs.declared.direction.Direction.{Direction}
use Rattle.lsp_model.specs.Fits.{fits}
use Rattle.lsp_model.specs.Methods.{method_named}
use Rattle.lsp_model.specs.declared.mode.Mode.{Mode}
use Rattle.lsp_model.specs.declared.mode.Mode.TheVariants.{Loose}
use Rattle.lsp_model.specs.declared.model.Model.{Model}

-- no content nests so deep
abbrev pub most_levels : ℕ
most_levels = 1000

abbrev pub fits_in : Model → Mode → ℕ → Data → Bool
fits_in model mode at d = fits model.types.items mode most_levels at d

-- a value that has another type is unfit in the loose mode alone
abbrev pub is_unfit : Model → Mode → ℕ → Data → Bool
is_unfit model Loose at d = not (fits_in model Loose at d)
is_unfit model mode at d = fits_in model Loose at d && not (fits_in model mode at d)

abbrev pub any_if : {A : Type 0} → (A → Bool) → Option A → Bool
any_if such None = false
any_if such (Some found) = such found

-- The judged params. Params that are missing count as an object without members. A list of params has no keys.
abbrev pub judged_params : Data → Option Data
judged_params null = Some (object no_members)
judged_params (object ms) = Some (object ms)
judged_params d = None

-- a request or a notification that goes in this direction
abbrev pub unfit_call : Model → Mode → Direction → List ℕ → Data → Bool
unfit_call model mode direction name params = any_if (λ method.
    any_if (is_unfit model mode method.params) (judged_params params)) (method_named direction name model)

-- a reply to this request, which went in this direction
abbrev pub unfit_reply : Model → Mode → Direction → Bool → Data → Open → Bool
unfit_reply model mode direction succeeds d o = succeeds && any_if (λ method.
    is_unfit model mode method.result (unwrap_or (get (codes "result") d) null)) (method_named direction o.method model)

-- The params or the result of a message are unfit. The tree is the whole message.
abbrev pub is_unfit_message : Model → Mode → Log → Direction → Message → Data → Bool
is_unfit_message model mode before direction (request i name params) d = unfit_call model mode direction name params
is_unfit_message model mode before direction (notification name params) d = unfit_call model mode direction name params
is_unfit_message model mode before direction (response i outcome) d =
    any_if (unfit_reply model mode (other direction) (is_success (response i outcome)) d)
    (waiting (other direction) i before)
