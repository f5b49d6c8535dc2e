-- What a method of a table is announced as, and with which outcome a request is answered from it.
use Rattle.std.specs.Prelude.{◌≡◌, ◌∷◌, List, ℕ, Option, Some, Result, Ok, Err, MatchResult}
use Rattle.serde_json.specs.Data.{Data}
use Rattle.lsp_message.specs.Message.{ErrorObject}
use Rattle.lsp_message.specs.View.{error_view}
use Rattle.lsp_message.specs.declared.msg.ResponseError.{ResponseError}
use Rattle.lsp_methods.specs.Reads.{IsReadOf}

-- members of an object, each with its key, in order
abbrev pub Announced : Type 0
Announced = List (List ℕ × Option Data)

-- The first member has this key and one of these values. The others are announced by the rest of the table.
abbrev pub AnnouncesFirst : List ℕ → (Data → Type 0) → (Announced → Type 0) → Announced → Type 0
AnnouncesFirst key offers rest members = (value : Data) × (others : Announced) × offers value × rest others
    × (members ≡ (key, Some value) ∷ others)

-- a value that one of these options stands for
abbrev pub IsOption : {Options : Type 0} → (Options → Type 0) → (Options → Data) → Data → Type 0
IsOption {Options} options stands json = (it : Options) × options it × (json ≡ stands it)

-- Params that fit are answered with what a found result stands for. Others are refused with the error -32602, and the
-- server stays as it is.
abbrev pub IsOutcome : {S Params Found : Type 0} → (Data → Params → Type 0) → (S → Params → Found → S → Type 0)
    → (Found → Data) → S → Data → Result Data ErrorObject → S → Type 0
IsOutcome {S} {Params} {Found} reads answers stands old json outcome new = (read : Result Params ResponseError)
    × IsReadOf reads json read
    × MatchResult read (λ params. (found : Found) × answers old params found new × (outcome ≡ Ok (stands found)))
    (λ error. (outcome ≡ Err (error_view error)) × (new ≡ old))
