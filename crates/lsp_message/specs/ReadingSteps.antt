-- Words of the private clauses on reading.
use Rattle.std.specs.Prelude.{◌≡◌, Result, Ok, Err}
use Rattle.lsp_message.specs.declared.frame.ReadFault.{ReadFault}
use Rattle.lsp_message.specs.declared.frame.ReadFault.TheVariants.{Memory}

-- what was made of a content part is what it means, unless memory ran out
abbrev pub Decodes : {X M : Type 0} → (X → M) → Result X ReadFault → Result M ReadFault → Type 0
Decodes view (Ok value) meaning = meaning ≡ Ok (view value)
Decodes view (Err Memory) meaning = Unit {0}
Decodes view (Err fault) meaning = meaning ≡ Err fault
