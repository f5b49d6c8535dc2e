-- What is read of what a server offers, of which LSP 3.17 has several forms ("ServerCapabilities").
use Rattle.std.specs.Prelude.{◌≡◌, List, ℕ, Bool, true, false, Option, Some, None}
use Rattle.serde_json.specs.Data.{Data, null, boolean, number, string, array, object, no_members, put}
use Rattle.serde_json.specs.Find.{get}
use Rattle.lsp_types.specs.Reads.{IsObject, ReadsSome, but_null}

-- whether something is offered: a boolean says it, and options mean that it is
abbrev pub offer_of : Data → Option Bool
offer_of null = None
offer_of (boolean b) = Some b
offer_of (number n) = None
offer_of (string s) = None
offer_of (array ds) = None
offer_of (object ms) = Some true

-- a member that offers something, and may be missing or null
unfoldable pub Offered : List ℕ → Data → Option Bool → Type 0
Offered key json it = IsObject json × ReadsSome (λ json it. offer_of json ≡ Some it) (but_null (get key json)) it

-- options: `true` stands for those that say nothing, and `false` for none
abbrev pub options_of : Option Data → Option Data
options_of None = None
options_of (Some null) = Some null
options_of (Some (boolean true)) = Some (object no_members)
options_of (Some (boolean false)) = None
options_of (Some (number n)) = Some (number n)
options_of (Some (string s)) = Some (string s)
options_of (Some (array ds)) = Some (array ds)
options_of (Some (object ms)) = Some (object ms)

-- a member with options, which may be missing or null
unfoldable pub Options : {T : Type 0} → (Data → T → Type 0) → List ℕ → Data → Option T → Type 0
Options reads key json it = IsObject json × ReadsSome reads (options_of (but_null (get key json))) it

-- options: a number stands for those that have it in one member alone
abbrev pub whole_of : List ℕ → Option Data → Option Data
whole_of inside None = None
whole_of inside (Some null) = Some null
whole_of inside (Some (boolean b)) = Some (boolean b)
whole_of inside (Some (number n)) = Some (object (put inside (number n) no_members))
whole_of inside (Some (string s)) = Some (string s)
whole_of inside (Some (array ds)) = Some (array ds)
whole_of inside (Some (object ms)) = Some (object ms)

-- a member with such options, which may be missing or null
unfoldable pub NumberOr : {T : Type 0} → (Data → T → Type 0) → List ℕ → List ℕ → Data → Option T → Type 0
NumberOr reads inside key json it = IsObject json × ReadsSome reads (whole_of inside (but_null (get key json))) it
