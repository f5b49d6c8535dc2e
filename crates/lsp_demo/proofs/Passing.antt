-- What the status of a program that passes messages on says.
use Rattle.std.proofs.Common.{◌≡◌, ℕ, List, Option, Some, None, IfSome, Result, sym, subst, ◌∙◌}
use Rattle.lsp_threads.specs.Pump.{Pumps}
use Rattle.lsp_threads.specs.declared.pumping.PumpFault.{PumpFault}
use Rattle.lsp_demo.specs.Program.{PumpsTo, status_of}
use Rattle.lsp_message.specs.declared.frame.limits.Limits.{Limits}

-- the messages were passed on within the limit that was asked for
pub pumps_to : (asked : Option Limits) (limit given : Limits) (answer : Result (Unit {0}) PumpFault) (status : ℕ)
    → asked ≡ Some limit → asked ≡ Some given → status ≡ status_of answer
    → (text : List ℕ) (old new : Option (List ℕ)) → Pumps given text old new answer → PumpsTo limit text old new status
pumps_to asked limit given answer status is is_given says text old new pumps =
    let both : ◌≡◌ {A = Option Limits} (Some given) (Some limit) = sym is_given ∙ is in
    let same : given ≡ limit = cc in
    (answer, subst (λ l. Pumps l text old new answer) same pumps, says)

-- the same, if the bytes are known
pub known_pumps_to : (known : Option (List ℕ)) (asked : Option Limits) (limit given : Limits) (answer : Result
    (Unit {0}) PumpFault) (status : ℕ) → asked ≡ Some limit → asked ≡ Some given
    → status ≡ status_of answer → (old new : Option (List ℕ)) → IfSome known (λ text. Pumps given text old new answer)
    → IfSome known (λ text. PumpsTo limit text old new status)
known_pumps_to None asked limit given answer status is is_given says old new pumps = tt
known_pumps_to (Some text) asked limit given answer status is is_given says old new pumps = pumps_to asked limit given
    answer status is is_given says text old new pumps
