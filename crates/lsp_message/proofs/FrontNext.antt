-- What follows a line, of the front of a text.
use Rattle.std.proofs.Common.{◌≡◌, refl, sym, subst, ℕ, ◌+◌, List, length, take, drop, Option, Some, None, Result, Ok}
use Rattle.std.proofs.Common.{Err, cond}
use Rattle.std.proofs.lemmas.Bool.{le-ltb}
use Rattle.memchr.specs.Find.{IsFirstByte, is_byte}
use Rattle.lsp_message.specs.Faults.{read_fault_number}
use Rattle.lsp_message.specs.FramePlace.{next_of}
use Rattle.lsp_message.specs.Front.{at_header_end}
use Rattle.lsp_message.specs.HeaderPart.{header_line}
use Rattle.lsp_message.specs.Limits.{most_content, no_limit}
use Rattle.lsp_message.specs.declared.frame.Front.TheVariants.{Fault}
use Rattle.lsp_message.specs.declared.frame.ReadFault.{ReadFault}
use Rattle.lsp_message.specs.declared.frame.ReadFault.TheVariants.{TooLong}
use Rattle.lsp_message.specs.declared.frame.header.HeaderLine.{HeaderLine}
use Rattle.lsp_message.specs.declared.frame.header.HeaderLine.TheVariants.{Blank, Length, Other}
use Rattle.lsp_message.specs.declared.frame.input.Next.{Next}
use Rattle.lsp_message.specs.declared.frame.input.Next.TheVariants.{Header, Content}
use Rattle.lsp_message.proofs.FrontSteps.{front_after, at_field, at_last}
use Rattle.lsp_message.proofs.KnownLines.{IsKnownLength, IsKnownLine, line_known}

-- the front after fields with this length, from what follows the next line
abbrev pub FrontNext : ℕ → Option ℕ → List ℕ → List ℕ → Result Next ReadFault → Type 0
FrontNext all given text rest (Err fault) = front_after all given text ≡ Fault (read_fault_number fault)
FrontNext all given text rest (Ok (Header next)) = (front_after all given text ≡ front_after all next rest)
    × IsKnownLength next
FrontNext all given text rest (Ok (Content size)) = front_after all given text
    ≡ at_header_end all (Ok (Some size)) (length rest)

pub front_next : (all : ℕ) (given : Option ℕ) (text : List ℕ) (k : ℕ) → IsFirstByte (is_byte 10) text (Some k)
    → IsKnownLength given → (r : Result Next ReadFault)
    → r ≡ next_of no_limit given (header_line (take (k + 1) text))
    → FrontNext all given text (drop (k + 1) text) r
front_next all given text k first known r is = subst (FrontNext all given text (drop (k + 1) text)) (sym is)
    (at given known (header_line (take (k + 1) text)) refl (line_known (take (k + 1) text)))
  where
    at : (given : Option ℕ) → IsKnownLength given → (h : Result HeaderLine ReadFault)
        → header_line (take (k + 1) text) ≡ h → IsKnownLine h
        → FrontNext all given text (drop (k + 1) text) (next_of no_limit given h)
    at given known (Err fault) line tested = at_last all given text k (Err fault) first line refl
    at given known (Ok (Length n)) line tested = (at_field all given text k (Length n) first line refl, tested)
    at given known (Ok Other) line tested = (at_field all given text k Other first line refl, known)
    at None known (Ok Blank) line tested = at_last all None text k (Ok Blank) first line refl
    at (Some size) known (Ok Blank) line tested = subst (λ t. FrontNext all (Some size) text (drop (k + 1) text)
        (cond t (Err TooLong) (Ok (Content size)))) (sym (le-ltb most_content size known))
        (at_last all (Some size) text k (Ok Blank) first line refl)
