use Rattle.std.proofs.Common.{◌∙◌, ap, sym, subst}
use Rattle.lsp_relay.specs.Relay.{IsOpen}
use Rattle.lsp_relay.proofs.Parcels.{open_push}
use Rattle.lsp_threads.specs.Framing.{parcel_bytes}
use Rattle.lsp_threads.proofs.Frames.{parcel_bytes-push}
use Rattle.lsp_threads.proofs.Writes.{text_added}
use Rattle.lsp_threads.proofs.frame_batch.deliver_text.Goals as goal

pub returns-then-not-is_empty-clause-bytes : goal.returns-then-not-is_empty-clause-bytes
returns-then-not-is_empty-clause-bytes g c = ap parcel_bytes c.deliver.ensures.sent ∙ parcel_bytes-push
    c.args.tx.now.sent _

pub returns-then-not-is_empty-clause-still_open : goal.returns-then-not-is_empty-clause-still_open
returns-then-not-is_empty-clause-still_open g c = subst IsOpen (sym c.deliver.ensures.sent)
    (open_push c.args.tx.now.sent _ c.requires)

pub returns-then-not-is_empty-clause-marks : goal.returns-then-not-is_empty-clause-marks
returns-then-not-is_empty-clause-marks g c = text_added c.args.tx.now.sent _ _ c.deliver.ensures.sent
