-- A message that is read back from its frame.
use Rattle.std.proofs.Common.{◌≡◌, ◌≤◌, ◌<◌, ◌^◌, ℕ, List, length, Option, Result, Ok, Err, OnOk, refl, arith}
use Rattle.serde_json.specs.Read.{max_depth}
use Rattle.std.specs.Io.KnownBytes.{Appends}
use Rattle.lsp_message.specs.Frame.{body_means, most_content}
use Rattle.lsp_message.specs.Message.{Message}
use Rattle.lsp_message.specs.Ranges.{nesting}
use Rattle.lsp_message.specs.Readable.{WritesReadably}
use Rattle.lsp_message.specs.Text.{IsBodyOf}
use Rattle.lsp_message.specs.Tree.{without_null_details}
use Rattle.lsp_message.specs.Written.{frame_text}
use Rattle.lsp_message.specs.declared.frame.WriteFault.{WriteFault}
use Rattle.lsp_message.proofs.ReadBack.{reading-frame}

pub written_readably : (m : Message) (body : List ℕ) (a b : Option (List ℕ)) (r : Result (Unit {0}) WriteFault)
    → OnOk r (length body < 2 ^ 64) → IsBodyOf m body
    → (nesting m ≤ max_depth → body_means body ≡ Ok (without_null_details m)) → OnOk r (Appends a b (frame_text body))
    → OnOk r (WritesReadably m a b)
written_readably m body a b (Ok done) small is back whole = (
  frame_text body,
  (body, is, refl, back),
  whole,
  λ shallow rest. reading-frame most_content body rest (without_null_details m) small (omega arith) (back shallow),
)
written_readably m body a b (Err fault) small is back whole = tt
