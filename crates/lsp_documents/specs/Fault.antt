-- What a fault and a warning print, and what a notification prints that was applied, or not.
use Rattle.std.specs.Prelude.{ℕ, List, ◌++◌, Option, Some, None, option_map, codes}
use Rattle.lsp_documents.specs.declared.fault.DocumentFault.{DocumentFault}
use Rattle.lsp_documents.specs.declared.fault.DocumentFault.TheVariants.{Params, NotOpen, OutOfStep, OutOfOrder, Memory}
use Rattle.lsp_documents.specs.declared.fault.DocumentUpdate.{DocumentUpdate}
use Rattle.lsp_documents.specs.declared.fault.UpdateFault.{UpdateFault}
use Rattle.lsp_documents.specs.declared.fault.SyncWarning.{SyncWarning}
use Rattle.lsp_documents.specs.declared.fault.SyncWarning.TheVariants.{OpenAlready, VersionNotHigher, PastEnd}
use Rattle.lsp_documents.specs.declared.fault.SyncWarning.TheVariants.{SavedTextDiffers, WasNotOpen, BroughtBackBySave}

abbrev pub fault_text : DocumentFault → Option (List ℕ)
fault_text Params = Some (codes "params of another shape")
fault_text NotOpen = Some (codes "the document is not open")
fault_text OutOfStep = Some (codes "the document is out of step")
fault_text OutOfOrder = Some (codes "changes came out of order")
fault_text Memory = Some (codes "out of memory")

abbrev pub remark_text : SyncWarning → Option (List ℕ)
remark_text OpenAlready = Some (codes "the document was open already")
remark_text VersionNotHigher = Some (codes "the version is not higher")
remark_text WasNotOpen = Some (codes "the document was not open")
remark_text PastEnd = Some (codes "a position is past the end")
remark_text SavedTextDiffers = Some (codes "the saved text is another one")
remark_text BroughtBackBySave = Some (codes "a save brought the text back")

-- a URI and what is said of it
abbrev pub said_of : List ℕ → List ℕ → List ℕ
said_of uri text = uri ++ (codes ": " ++ text)

abbrev pub remarked : List ℕ → Option SyncWarning → Option (List ℕ)
remarked uri None = Some uri
remarked uri (Some warning) = option_map (said_of uri) (remark_text warning)

abbrev pub update_text : DocumentUpdate → Option (List ℕ)
update_text made = remarked made.uri.now made.warning

abbrev pub faulted : Option (List ℕ) → DocumentFault → Option (List ℕ)
faulted None fault = fault_text fault
faulted (Some uri) fault = option_map (said_of uri) (fault_text fault)

abbrev pub update_fault_text : UpdateFault → Option (List ℕ)
update_fault_text missed = faulted (option_map (λ uri. uri.now) missed.uri) missed.fault
