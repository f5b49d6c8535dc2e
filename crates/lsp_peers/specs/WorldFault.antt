-- Faults of a link or a world: their numbers and texts, and which one a fault of reading is.
use Rattle.std.specs.Prelude.{ℕ, List, Option, Some, codes}
use Rattle.lsp_message.specs.declared.frame.ReadFault.{ReadFault}
use Rattle.lsp_message.specs.declared.frame.ReadFault.TheVariants.{Input, Memory}
use Rattle.lsp_peers.specs.declared.fault.WorldFault.{WorldFault}
use Rattle.lsp_peers.specs.declared.fault.WorldFault.TheVariants.{Memory as NoMemory, NotReadBack}

abbrev pub world_fault_number : WorldFault → ℕ
world_fault_number NoMemory = 1
world_fault_number NotReadBack = 2

-- what a fault prints
abbrev pub world_fault_text : WorldFault → Option (List ℕ)
world_fault_text NoMemory = Some (codes "out of memory")
world_fault_text NotReadBack = Some (codes "body not read back")

-- The fault of a link that meets this one as it reads. Bytes in memory don't fail, so a reader's failure counts as want
-- of memory.
abbrev pub fault_of : ReadFault → WorldFault
fault_of (Input kind) = NoMemory
fault_of Memory = NoMemory
fault_of fault = NotReadBack
