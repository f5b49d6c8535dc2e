-- What the program does, apart from what it says on standard error.
use Rattle.std.specs.Prelude.{◌≡◌, ℕ, List, [], ◌∷◌, Bool, true, false, Option, Some, None, option_map, Result, Ok, Err}
use Rattle.std.specs.Prelude.{codes, string_bytes, String, if◌then◌else◌}
use Rattle.std.specs.Str.{bytes_eq}
use Rattle.std.specs.declared.alloc.Global.{Global}
use Rattle.lsp_message.specs.Frame.{no_limit, of_content}
use Rattle.lsp_message.specs.HeaderPart.{number}
use Rattle.lsp_message.specs.declared.frame.limits.Limits.{Limits}
use Rattle.lsp_threads.specs.Pump.{Pumps}
use Rattle.lsp_threads.specs.declared.pumping.PumpFault.{PumpFault}

-- the word `pump`, and perhaps the greatest length of a content part
abbrev pub asked_limit : List (String Global) → Option Limits
asked_limit [] = None
asked_limit (word ∷ []) = if bytes_eq (string_bytes word) (codes "pump") then Some no_limit
    else None
asked_limit (word ∷ limit ∷ []) = if bytes_eq (string_bytes word) (codes "pump")
    then option_map of_content (number (string_bytes limit)) else None
asked_limit (word ∷ limit ∷ next ∷ more) = None

-- no word, or the one word `serve`
abbrev pub asks_serve : List (String Global) → Bool
asks_serve [] = true
asks_serve (word ∷ []) = bytes_eq (string_bytes word) (codes "serve")
asks_serve (word ∷ next ∷ more) = false

-- the word `tcp` and an address
abbrev pub asked_address : List (String Global) → Option (List ℕ)
asked_address [] = None
asked_address (word ∷ []) = None
asked_address (word ∷ addr ∷ []) = if bytes_eq (string_bytes word) (codes "tcp")
    then Some (string_bytes addr) else None
asked_address (word ∷ addr ∷ next ∷ more) = None

-- 0 exactly if all messages were passed on
abbrev pub status_of : Result (Unit {0}) PumpFault → ℕ
status_of (Ok done) = 0
status_of (Err fault) = 1

-- the messages of the text, whose parts have at most so many bytes, were passed on as far as the status says
abbrev pub PumpsTo : Limits → List ℕ → Option (List ℕ) → Option (List ℕ) → ℕ → Type 0
PumpsTo limit text old new status = (answer : Result (Unit {0}) PumpFault)
    × Pumps limit text old new answer × (status ≡ status_of answer)
