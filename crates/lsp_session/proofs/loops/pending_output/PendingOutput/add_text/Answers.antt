use Rattle.std.proofs.Common.{◌≡◌, ◌++◌, ℕ, List, Result, Ok, Err, OnErr, refl, string_bytes}
use Rattle.serde_json.specs.View.{view}
use Rattle.lsp_message.specs.Message.{Message, response}
use Rattle.lsp_message.specs.Written.{IsFrameOf}
use Rattle.std.specs.declared.alloc.AllocError.{AllocError}
use Rattle.lsp_session.specs.PendingOutput.{waiting, AddsFrame}
use Rattle.lsp_session.proofs.loops.pending_output.PendingOutput.add_text.Goals as goal

-- a frame was added, or nothing
added : (m : Message) (old frame new : List ℕ) (result : Result (Unit {0}) AllocError) → IsFrameOf m frame
    → (result ≡ Ok tt → new ≡ old ++ frame) → OnErr result (new ≡ old) → AddsFrame m old result new
added m old frame new (Ok done) is ok err = (frame, is, ok refl)
added m old frame new (Err failed) is ok err = err

pub returns : goal.returns
returns c = added (response c.args.id.now (Ok (view c.args.text))) (waiting c.args.self.now)
    (string_bytes c.in_ok-into_frame.field-0) (waiting c.add.new.self) c.add.result c.in_ok-into_frame.ensures
    c.add.ensures.ok c.add.ensures.err
