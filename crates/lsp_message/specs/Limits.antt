-- The most bytes that are read of the parts of a frame (LSP 3.17, "Base Protocol").
use Rattle.std.specs.Prelude.{ℕ, ◌+◌, ◌-◌, ◌^◌, List, length, drop, Option, Some, None, Err, nat_lt, if◌then◌else◌}
use Rattle.lsp_message.specs.HeaderPart.{header_of}
use Rattle.lsp_message.specs.Reading.{Reading}
use Rattle.lsp_message.specs.declared.frame.ReadFault.TheVariants.{HeaderTooLong}
use Rattle.lsp_message.specs.declared.frame.limits.Limits.{Limits}

-- a content part of at most so many bytes, and a header part of any length
abbrev pub of_content : ℕ → Limits
of_content limit = record { header = None; content = limit }

-- the greatest length that a header part can give
abbrev pub most_content : ℕ
most_content = 2 ^ 64 - 1

-- parts of any length
abbrev pub no_limit : Limits
no_limit = of_content most_content

-- The header part that a text begins with, of at most so many bytes, if there is a bound. Of one that takes more, just
-- the first byte above the bound is taken.
abbrev pub header_under : Option ℕ → List ℕ → Reading ℕ
header_under None text = header_of text
header_under (Some bound) text =
    if nat_lt bound (length text - length (header_of text).rest)
    then record { outcome = Err HeaderTooLong; rest = drop (bound + 1) text }
    else header_of text
