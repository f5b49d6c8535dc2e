-- What a fault of starting threads prints.
use Rattle.std.specs.Prelude.{ℕ, List, Option, Some, codes}
use Rattle.lsp_relay.specs.declared.start_fault.StartFault.{StartFault}
use Rattle.lsp_relay.specs.declared.start_fault.StartFault.TheVariants.{Memory, Thread}

abbrev pub start_fault_text : StartFault → Option (List ℕ)
start_fault_text Memory = Some (codes "out of memory")
start_fault_text Thread = Some (codes "thread not started")
