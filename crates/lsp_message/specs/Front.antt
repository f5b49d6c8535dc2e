-- How much of a text is its first message, as far as the header part tells (LSP 3.17, "Base Protocol").
use Rattle.std.specs.Prelude.{ℕ, ◌-◌, List, [], ◌∷◌, length, Option, Some, None, Result, Ok, Err, nat_lt, if◌then◌else◌}
use Rattle.std.specs.Io.BufRead.{ends_with_byte}
use Rattle.std.specs.List.{concat}
use Rattle.lsp_message.specs.Faults.{read_fault_number}
use Rattle.lsp_message.specs.HeaderPart.{header_line, fields, after_fields, content_length, at_last_line, lines}
use Rattle.lsp_message.specs.declared.frame.ReadFault.{ReadFault}
use Rattle.lsp_message.specs.declared.frame.Front.{Front}
use Rattle.lsp_message.specs.declared.frame.Front.TheVariants.{Whole, Fault, More}

-- the header part ended, with so many of all the bytes after it
abbrev pub at_header_end : ℕ → Result (Option ℕ) ReadFault → ℕ → Front
at_header_end all (Err fault) left = Fault (read_fault_number fault)
at_header_end all (Ok None) left = More
at_header_end all (Ok (Some n)) left = if nat_lt left n then More else Whole (all - (left - n))

-- the lines from the first on that is no field
abbrev pub front_end : ℕ → Option ℕ → List (List ℕ) → Front
front_end all length_given [] = More
front_end all length_given (line ∷ more) =
    if ends_with_byte 10 line
    then at_header_end all (at_last_line length_given (header_line line)) (length (concat more))
    else More

-- the first message of a text: its bytes, the fault of its header part, or that more bytes have to come
abbrev pub front_of : List ℕ → Front
front_of text =
    front_end (length text) (content_length (fields (lines text))) (after_fields (lines text))
