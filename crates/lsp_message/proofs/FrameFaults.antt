-- Which faults a frame can have: those of its header part, and that its content part is short or above its limit.
use Rattle.std.proofs.Common.{◌≡◌, subst, ℕ, ◌+◌, ◌-◌, Bool, true, false, cond, List, [], ◌∷◌, length, take, drop}
use Rattle.std.proofs.Common.{nat_lt, Option, Some, None, Result, Ok, Err}
use Rattle.lsp_message.specs.Frame.{body_of, content_of, content_within, header_under}
use Rattle.lsp_message.specs.HeaderPart.{after_fields, at_last_line, content_length, fields, header_end, header_line}
use Rattle.lsp_message.specs.HeaderPart.{header_of, lines}
use Rattle.lsp_message.specs.Reading.{Reading}
use Rattle.lsp_message.specs.declared.frame.ReadFault.{ReadFault}
use Rattle.lsp_message.specs.declared.frame.ReadFault.TheVariants.{BadLength, HeaderTooLong, LineEnd, LineNotText}
use Rattle.lsp_message.specs.declared.frame.ReadFault.TheVariants.{NoLength, NoSeparator, ShortBody, TooLong}
use Rattle.lsp_message.specs.declared.frame.header.HeaderLine.{HeaderLine}
use Rattle.lsp_message.specs.declared.frame.limits.Limits.{Limits}
use Rattle.lsp_message.proofs.KnownLines.{IsKnownLine, IsOfLine, line_known}

-- a fault of a frame
abbrev pub IsOfFrame : ReadFault → Type 0
IsOfFrame LineNotText = Unit {0}
IsOfFrame LineEnd = Unit {0}
IsOfFrame NoSeparator = Unit {0}
IsOfFrame BadLength = Unit {0}
IsOfFrame NoLength = Unit {0}
IsOfFrame HeaderTooLong = Unit {0}
IsOfFrame TooLong = Unit {0}
IsOfFrame ShortBody = Unit {0}
IsOfFrame fault = ⊥

abbrev HasOfFrame : {A : Type 0} → Result A ReadFault → Type 0
HasOfFrame (Ok x) = Unit {0}
HasOfFrame (Err fault) = IsOfFrame fault

of_line : (fault : ReadFault) → IsOfLine fault → IsOfFrame fault
of_line LineNotText known = tt
of_line LineEnd known = tt
of_line NoSeparator known = tt
of_line BadLength known = tt
of_line fault known = absurd known

header_has : (text : List ℕ) → HasOfFrame (header_of text).outcome
header_has text = at (content_length (fields (lines text))) (after_fields (lines text))
  where
    last : (n : Option ℕ) (r : Result HeaderLine ReadFault) → IsKnownLine r → HasOfFrame (at_last_line n r)
    last n (Err fault) known = of_line fault known
    last None (Ok line) known = tt
    last (Some n) (Ok line) known = tt

    at : (n : Option ℕ) (ls : List (List ℕ)) → HasOfFrame (header_end n ls).outcome
    at n [] = tt
    at n (line ∷ more) = last n (header_line line) (line_known line)

either : {A : Type 0} (t : Bool) (a b : Reading A) → HasOfFrame a.outcome → HasOfFrame b.outcome
    → HasOfFrame (cond t a b).outcome
either true a b one other = one
either false a b one other = other

under_has : (bound : Option ℕ) (text : List ℕ) → HasOfFrame (header_under bound text).outcome
under_has None text = header_has text
under_has (Some most) text = either (nat_lt most (length text - length (header_of text).rest))
    (record { outcome = Err HeaderTooLong; rest = drop (most + 1) text }) (header_of text) tt (header_has text)

content_has : (limits : Limits) (text : List ℕ) → HasOfFrame (content_within limits text).outcome
content_has limits text = at (header_under limits.header text).outcome (under_has limits.header text)
    (header_under limits.header text).rest
  where
    at : (count : Result (Option ℕ) ReadFault) → HasOfFrame count → (rest : List ℕ)
        → HasOfFrame (content_of {M = List ℕ} Ok limits.content count rest).outcome
    at (Err fault) known rest = known
    at (Ok None) known rest = tt
    at (Ok (Some n)) known rest = either (nat_lt limits.content n) (record { outcome = Err TooLong; rest = rest })
        (body_of Ok n rest) tt (either (nat_lt (length rest) n) (record { outcome = Err ShortBody; rest = [] })
        (record { outcome = Ok (Some (take n rest)); rest = drop n rest }) tt tt)

-- the fault of a frame that can't be read
pub content_fault : (limits : Limits) (text : List ℕ) (fault : ReadFault) → (content_within limits text).outcome
    ≡ Err fault → IsOfFrame fault
content_fault limits text fault is = subst HasOfFrame is (content_has limits text)
