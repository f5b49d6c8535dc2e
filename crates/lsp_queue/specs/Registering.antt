-- What a refused registration hands back.
use Rattle.std.specs.Fmt.{decimal}
use Rattle.std.specs.Prelude.{◌≡◌, ◌++◌, ℕ, List, Option, Some, codes}
use Rattle.lsp_queue.specs.declared.error.RegisterFault.{RegisterFault}
use Rattle.lsp_queue.specs.declared.error.RegisterFault.TheVariants.{Memory, Unwritable, Spent}

-- whatever the fault, it holds the data
abbrev pub IsFaultOf : {D : Type 0} → D → RegisterFault D → Type 0
IsFaultOf given (Memory back) = back ≡ given
IsFaultOf given (Unwritable back) = back ≡ given
IsFaultOf given (Spent back) = back ≡ given

abbrev pub register_fault_number : {D : Type 0} → RegisterFault D → ℕ
register_fault_number (Memory back) = 1
register_fault_number (Unwritable back) = 2
register_fault_number (Spent back) = 3

-- what a fault prints
abbrev pub register_fault_text : {D : Type 0} → RegisterFault D → Option (List ℕ)
register_fault_text fault = Some (codes "register fault " ++ decimal (register_fault_number fault))
