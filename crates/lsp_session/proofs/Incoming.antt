-- A message that came is what its content part means.
use Rattle.lsp_message.specs.Frame.{body_means, content_within, reading_within}
use Rattle.lsp_message.specs.Message.{Message}
use Rattle.lsp_message.specs.Reading.{found}
use Rattle.lsp_message.specs.ReadingSteps.{Decodes}
use Rattle.lsp_message.specs.Told.{Parts, IsOfParts, Told}
use Rattle.lsp_message.specs.declared.frame.ReadFault.{ReadFault}
use Rattle.lsp_message.specs.declared.frame.limits.Limits.{Limits}
use Rattle.lsp_message.proofs.ContentParts.{decoded, not_read, not_there}
use Rattle.std.proofs.Common.{ℕ, List, ◌++◌, Option, Some, None, Result, Ok, Err}
use Rattle.std.specs.List.{concat}

module _ {X Y : Type 0} (view : X → Message) (shown : Y → List ℕ) (limit : Limits) (t u : Parts)
    (a b : Option (List ℕ)) where
  -- a content part came
  pub told_came : (content : Y) (r : Result X ReadFault) → Decodes view r (body_means (shown content))
      → Told (IsOfParts shown (content_within limit) (Ok (Some content))) t u a b
      → Told (IsOfParts view (reading_within limit) (found r)) t u a b
  told_came content r decodes told = (
    told.0,
    told.1,
    λ rest may. decoded body_means limit view shown (Some (concat told.0 ++ rest)) (Some rest) content r
        (told.2 rest tt) decodes,
  )

  -- the input ended
  pub told_no_more : Told (IsOfParts shown (content_within limit) (Ok None)) t u a b
      → Told (IsOfParts view (reading_within limit) (Ok None)) t u a b
  told_no_more told = (
    told.0,
    told.1,
    λ rest may. not_there body_means limit view shown (Some (concat told.0 ++ rest)) (Some rest) (told.2 rest may),
  )

  -- no content part could be read
  pub told_not_read : (fault : ReadFault) → Told (IsOfParts shown (content_within limit) (Err fault)) t u a b
      → Told (IsOfParts view (reading_within limit) (Err fault)) t u a b
  told_not_read fault told = (
    told.0,
    told.1,
    λ rest may. not_read body_means limit view shown (Some (concat told.0 ++ rest)) (Some rest) fault
        (told.2 rest may),
  )
