-- The post of one direction: all frames that were written, in order, and how far they have come.
use Rattle.std.specs.Prelude.{◌≡◌, ◌≤◌, ℕ, ◌+◌, ◌-◌, List, [], ◌∷◌, ◌++◌, length, take, drop, Option, None, Some}
use Rattle.std.specs.Prelude.{if◌then◌else◌, min, IfSome, is_some}
use Rattle.lsp_message.specs.Message.{Message}
use Rattle.lsp_message.specs.declared.frame.Front.{Front}
use Rattle.lsp_message.specs.declared.frame.Front.TheVariants.{Whole, More, Fault}
use Rattle.serde_json.specs.Read.{max_depth}
use Rattle.lsp_message.specs.Ranges.{nesting}
use Rattle.lsp_message.specs.Tree.{without_null_details}
pub use Rattle.lsp_peers.specs.SentFrame.{SentFrame, frames, first_passed}

-- The frames that were taken, then those that wait, in the order in which they were written; and how many of their
-- bytes have arrived in all.
pub record Post : Type 0 where
  pub taken : List SentFrame
  pub waiting : List SentFrame
  pub passed : ℕ

abbrev pub empty_post : Post
empty_post = record { taken = []; waiting = []; passed = 0 }

-- one more frame is written
abbrev pub posted : Post → SentFrame → Post
posted post sent_frame =
    record { taken = post.taken; waiting = post.waiting ++ sent_frame ∷ []; passed = post.passed }

-- how many bytes haven't arrived yet
abbrev pub unpassed : Post → ℕ
unpassed post = length (frames post.taken) + length (frames post.waiting) - post.passed

-- up to this many bytes more arrive
abbrev pub passed_on : Post → ℕ → Post
passed_on post bytes =
    record {
      taken = post.taken;
      waiting = post.waiting;
      passed =
          post.passed + min bytes (unpassed post);
    }

-- the first frame that waits, if all of its frame has arrived
abbrev pub next : Post → Option SentFrame
next post = first_passed (length (frames post.taken)) post.passed post.waiting

-- the first frame that waits is taken
abbrev pub one_taken : Post → Post
one_taken post =
    record {
      taken = post.taken ++ take 1 post.waiting;
      waiting = drop 1 post.waiting;
      passed =
          post.passed;
    }

-- the bytes of one direction: those that arrived, then those on the way
pub record Line : Type 0 where
  pub arrived : List ℕ
  pub on_way : List ℕ

-- the line whose bytes lie in a list: from start those that arrived, from end those on the way
abbrev pub line_of : List ℕ → ℕ → ℕ → Line
line_of bytes start end =
    record { arrived = take (end - start) (drop start bytes); on_way = drop end bytes }

-- The line carries the frames that wait, and nothing else. What arrived there, and the frames that were taken,
-- are together as long as the post says.
pub record Carries (line : Line) (post : Post) : Type 0 where
  pub bytes : line.arrived ++ line.on_way ≡ frames post.waiting
  pub count : length (frames post.taken) + length line.arrived ≡ post.passed

-- the message of a frame, if there is one
abbrev pub message_of : Option SentFrame → Option Message
message_of None = None
message_of (Some sent_frame) = Some sent_frame.message

-- The message is read back as it was written: it nests at most 127 levels, and has no error whose data is null.
pub record ReadsBack (m : Message) : Type 0 where
  pub nests : nesting m ≤ max_depth
  pub same : without_null_details m ≡ m

-- if there is a next frame, this holds of its message
abbrev pub IfNext : (Message → Type 0) → Post → Type 0
IfNext P post = IfSome (next post) (λ sent_frame. P sent_frame.message)

-- the post after a take: one more is taken, if there is a next frame
abbrev pub after_take : Post → Post
after_take post = if is_some (next post) then one_taken post else post

-- What the front of the arrived bytes says of the next frame: it has not arrived whole, or it is the first bytes, this
-- many, and can be taken. Nothing is wrong with it.
abbrev pub Shows : Line → Post → Front → Type 0
Shows line post More = next post ≡ None
Shows line post (Fault number) = ⊥
Shows line post (Whole count) =
    (sent_frame : SentFrame) × (next post ≡ Some sent_frame) × (take count line.arrived ≡ sent_frame.frame)
    × Carries (record { arrived = drop count line.arrived; on_way = line.on_way }) (one_taken post)
