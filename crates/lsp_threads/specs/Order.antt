-- In which order a session in threads takes messages and gives frames: no frame before the message that it answers was
-- taken.
use Rattle.std.specs.List.{concat, FoldsTo}
use Rattle.std.specs.Prelude.{◌≡◌, ℕ, Bool, List, [], ◌++◌, Option, Some, Result}
use mathlib.Core.List.{IsPrefix}
use Rattle.lsp_message.specs.Message.{Message}
use Rattle.lsp_message.specs.Told.{Parts}
use Rattle.lsp_message.specs.Written.{AreFramesOf}
use Rattle.lsp_message.specs.declared.frame.ReadFault.{ReadFault}
use Rattle.lsp_message.specs.declared.frame.limits.Limits.{Limits}
use Rattle.lsp_session.specs.Session.{came_of, Exchange, sends_of, SessionPart}
use Rattle.lsp_session.specs.SessionLaws.{Both}
use Rattle.lsp_session.specs.declared.loops.handler.SessionEnd.{SessionEnd}
use Rattle.lsp_session.specs.declared.loops.stream_session.SessionFault.{SessionFault}
use Rattle.lsp_threads.specs.Passing.{TakenFrom}
use Rattle.lsp_threads.specs.Threads.{ReadsFrameOrWakes, ThreadsTellOver}
use Rattle.lsp_threads.specs.Writes.{AllWrites, Begun, IsAmong, Mark}

-- of a session that asks a policy at content parts which are no messages, and that others can wake or not
module _ (wakeable : Bool) {L : Type 0} (passes : L → ReadFault → L → Type 0) (limit : Limits)
    (known : Option (List ℕ)) (first : L) where
  -- What came at these exchanges is at the front of the bytes that had been taken: the frame of each message, and each
  -- content part that was skipped. If the reader's bytes are known, those that had been taken are the first of them.
  abbrev pub HasCome : Parts → List Exchange → Type 0
  HasCome taken exchanges = TakenFrom known taken × (at : List ℕ × L)
      × FoldsTo (ReadsFrameOrWakes wakeable passes limit) (concat taken, first) (came_of exchanges) at

  -- The bytes are the frames that were sent first, or a beginning of them. They were sent at the first exchanges, and
  -- what came at those had been taken.
  abbrev pub Answers : List Exchange → Parts → List ℕ → Type 0
  Answers exchanges taken bytes =
      (earlier : List Exchange) × (later : List Exchange) × (exchanges ≡ earlier ++ later) × HasCome taken earlier
      × (sent : List Message) × (unsent : List Message) × (sends_of earlier ≡ sent ++ unsent)
      × (frames : List ℕ) × AreFramesOf sent frames × IsPrefix bytes frames

  -- All that had been given when a write ended answers what had been taken when that write began.
  abbrev pub GivesInOrder : List Begun → Parts → SessionPart
  GivesInOrder writes given exchanges stop answer = AllWrites (Answers exchanges) writes given

  -- For private clauses: a session that tells what `ThreadsTellOver` says, and gives in this order.
  abbrev pub TellsInOrder : SessionPart → List ℕ → L → List Begun → Parts → Result SessionEnd SessionFault → Type 0
  TellsInOrder P text last writes given result =
      ThreadsTellOver wakeable passes limit (Both P (GivesInOrder writes given)) text first last (Some [])
      (Some (concat given)) result

  -- For private clauses: the same of texts that were sent to the thread that writes.
  abbrev pub MarksAnswer : List Mark → SessionPart
  MarksAnswer marks exchanges stop answer = (mark : Mark) → IsAmong mark marks
      → Answers exchanges mark.taken mark.bytes

-- no content part is skipped
abbrev pub SkipsNone : Unit {0} → ReadFault → Unit {0} → Type 0
SkipsNone old fault new = ⊥
