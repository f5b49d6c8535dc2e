-- Writes to a writer, one after another.
use Rattle.std.proofs.Common.{◌≡◌, ℕ, List, OnOk, Option, Some, None, Result, Ok, Err}
use Rattle.std.proofs.Common.{refl}
use Rattle.std.specs.Io.KnownBytes.{Appends, Keeps}
use Rattle.lsp_message.specs.Message.{Message}
use Rattle.lsp_message.specs.Text.{IsBodyOf}
use Rattle.lsp_message.specs.Written.{frame_text, AppendsBeginning, MeansAgain, Writes}
use Rattle.lsp_message.specs.declared.frame.WriteFault.{WriteFault}
use Rattle.lsp_message.specs.declared.frame.WriteFault.TheVariants.{Output, Memory}

pub Keeps-same : (a b : Option (List ℕ)) → b ≡ a → Keeps a b
Keeps-same None b same = tt
Keeps-same (Some xs) None same = absurd (cc)
Keeps-same (Some xs) (Some ys) same = cc

-- the write of a frame is the write of a message that the body is of
pub message_written : (m : Message) (body : List ℕ) (a b : Option (List ℕ)) (r : Result (Unit {0}) WriteFault)
    → IsBodyOf m body → MeansAgain m body
    → OnOk r (Appends a b (frame_text body)) → AppendsBeginning a b (frame_text body) → (r ≡ Err Memory → b ≡ a)
    → Writes m a r b
message_written m body a b (Ok done) is means whole part same = (frame_text body, (body, is, refl, means), whole)
message_written m body a b (Err (Output kind)) is means whole part same = (
  frame_text body,
  (body, is, refl, means),
  part,
)
message_written m body a b (Err Memory) is means whole part same = Keeps-same a b (same refl)
