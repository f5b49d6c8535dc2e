-- What C is told of the front of a stream, and of a content part.
use Rattle.std.specs.Prelude.{ℕ, Result, Ok, Err}
use Rattle.lsp_message.specs.Faults.{read_fault_number}
use Rattle.lsp_message.specs.Message.{Message, request, notification, response}
use Rattle.lsp_message.specs.declared.frame.Front.{Front}
use Rattle.lsp_message.specs.declared.frame.Front.TheVariants.{Whole, Fault, More}
use Rattle.lsp_message.specs.declared.frame.ReadFault.{ReadFault}
use Rattle.lsp_front_c.specs.declared.LspFrontFound.{LspFrontFound}

abbrev pub told : Front → LspFrontFound
told (Whole count) = record { kind = 0; count = count }
told More = record { kind = 1; count = 0 }
told (Fault number) = record { kind = 2; count = number }

abbrev pub kind_told : Result Message ReadFault → ℕ
kind_told (Ok (request i method params)) = 0
kind_told (Ok (notification method params)) = 1
kind_told (Ok (response i outcome)) = 2
kind_told (Err fault) = read_fault_number fault
