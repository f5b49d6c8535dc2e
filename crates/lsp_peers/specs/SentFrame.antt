-- A sent frame: a message with the bytes of its frame.
use Rattle.std.specs.List.{flat_map}
use Rattle.std.specs.Prelude.{◌≤◌, ℕ, ℤ, ◌+◌, List, [], ◌∷◌, ◌++◌, length, Option, None, Some, Err, nat_le}
use Rattle.std.specs.Prelude.{if◌then◌else◌, map as each}
use Rattle.serde_json.specs.Read.{max_depth}
use Rattle.lsp_message.specs.Frame.{no_limit}
use Rattle.lsp_message.specs.Messages.{Begins}
use Rattle.lsp_message.specs.Id.{Id}
use Rattle.lsp_message.specs.Message.{Message, response}
use Rattle.lsp_message.specs.Ranges.{nesting}
use Rattle.lsp_message.specs.Tree.{without_null_details}
use Rattle.lsp_message.specs.Written.{IsFrameOf}

-- A message with a frame of it (LSP 3.17, "Base Protocol"). If the message nests at most 127 levels, it is read from
-- the front of the frame, whatever follows that. That is known when the frame is written, and used when it is taken.
pub record SentFrame : Type 0 where
  pub message : Message
  pub frame : List ℕ
  pub framed : IsFrameOf message frame
  pub readable : nesting message ≤ max_depth → (rest : List ℕ)
      → Begins no_limit (frame ++ rest) (without_null_details message) rest

-- the reply to a request that failed, with this code and this text (JSON-RPC 2.0, section 5.1)
abbrev pub refused : Id → ℤ → List ℕ → Message
refused id code text = response id (Err (record { code = code; message = text; details = None }))

-- the messages of the frames, in order
abbrev pub messages : List SentFrame → List Message
messages sent_frames = each (λ sent_frame. sent_frame.message) sent_frames

-- the bytes of the frames, in order
abbrev pub frames : List SentFrame → List ℕ
frames sent_frames = flat_map (λ sent_frame. sent_frame.frame) sent_frames

-- the first of these frames, if all of its frame has arrived: so many bytes lie before it, and so many have arrived
abbrev pub first_passed : ℕ → ℕ → List SentFrame → Option SentFrame
first_passed before passed [] = None
first_passed before passed (sent_frame ∷ sent_frames) =
    if nat_le (before + length sent_frame.frame) passed then Some sent_frame else None
