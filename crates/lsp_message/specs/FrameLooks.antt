-- What one look at a reader adds to a frame, and the answer after it.
use Rattle.std.specs.List.{concat}
use Rattle.std.specs.Prelude.{◌≡◌, ◌+◌, ◌++◌, ℕ, List, length, Option, Some, None, Result, Ok, Err, Vec}
use Rattle.std.specs.Result.{result_err}
use Rattle.std.specs.declared.alloc.Global.{Global}
use Rattle.lsp_message.specs.Frame.{content_within}
use Rattle.lsp_message.specs.FrameInput.{IsEndOf}
use Rattle.lsp_message.specs.Reading.{Answers}
use Rattle.lsp_message.specs.Told.{Parts, MayFollow}
use Rattle.lsp_message.specs.declared.frame.ReadFault.{ReadFault}
use Rattle.lsp_message.specs.declared.frame.byte_trace.ByteTrace.{ByteTrace}
use Rattle.lsp_message.specs.declared.frame.input.Frame.{Frame}
use Rattle.lsp_message.specs.declared.frame.limits.Limits.{Limits}

-- how many bytes and failures a trace has
abbrev pub noted : ByteTrace → ℕ
noted trace = length (concat trace.parts) + length trace.failed

-- the answer of a call that reads a content part
abbrev pub Answer : Type 0
Answer = Result (Option (Vec ℕ Global)) ReadFault

abbrev pub items : Vec ℕ Global → List ℕ
items content = content.items

-- an interrupted reader gives no answer
abbrev pub failed_as : Result (Unit {0}) ReadFault → Option Answer
failed_as (Ok done) = None
failed_as (Err fault) = Some (Err fault)

-- nor do bytes of a frame that is not whole
abbrev pub answered_as : Result (Option Frame) ReadFault → Option Answer
answered_as (Ok None) = None
answered_as (Ok (Some frame)) = Some (Ok (Some frame.content))
answered_as (Err fault) = Some (Err fault)

-- the fault of the answer, if it has one
abbrev pub failure_in : Option Answer → Option ReadFault
failure_in None = None
failure_in (Some answer) = result_err answer

-- the answer where the input ends
abbrev pub IsAtEndOf : Limits → List ℕ → Answer → Type 0
IsAtEndOf limits text (Ok None) = IsEndOf limits text None
IsAtEndOf limits text (Ok (Some content)) = ⊥
IsAtEndOf limits text (Err fault) = IsEndOf limits text (Some fault)

-- These parts were added to the bytes that had been taken. The answer, if there is one, is that of all of them,
-- whatever follows them.
abbrev pub Looks : Limits → List ℕ → Option Answer → List ℕ → Parts → Type 0
Looks limits old None new parts = new ≡ old ++ concat parts
Looks limits old (Some answer) new parts = (rest : List ℕ) → MayFollow answer parts rest
    → Answers items answer (Some rest) (content_within limits (old ++ (concat parts ++ rest)))
