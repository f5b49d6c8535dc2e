-- Frames that are added to what a session has to send.
use Rattle.std.proofs.Common.{◌≡◌, refl, sym, ap, ◌∙◌, ℕ, List, [], ◌∷◌, ◌++◌, append_assoc, append-nil, Result, Ok}
use Rattle.std.proofs.Common.{Err}
use Rattle.std.proofs.Common.{Option, Some, None}
use Rattle.std.specs.List.{FoldsTo}
use Rattle.lsp_message.specs.Id.{Id}
use Rattle.lsp_message.specs.Message.{Message}
use Rattle.lsp_message.specs.Written.{AreFramesOf}
use Rattle.lsp_session.specs.Boxes.{Takes}
use Rattle.lsp_session.specs.Machine.{sends_with}
use Rattle.lsp_session.specs.Outputs.{SendsAll}
use Rattle.lsp_session.specs.PendingOutput.{waiting, PendingSends, AddsSome, AddsFrames}
use Rattle.lsp_session.specs.ProtocolError.{ProtocolFault}
use Rattle.lsp_session.specs.Replies.{null_reply}
use Rattle.lsp_session.specs.declared.lifecycle.SendFault.{SendFault}
use Rattle.lsp_session.specs.declared.lifecycle.SendFault.TheVariants.{Closed, Memory}
use Rattle.lsp_session.specs.declared.loops.pending_output.PendingOutput.{PendingOutput}

-- frames of these messages, and then frames of those
pub frames_then : (ms ns : List Message) (a b : List ℕ) → AreFramesOf ms a → AreFramesOf ns b → AreFramesOf (ms ++ ns)
    (a ++ b)
frames_then [] ns a b none more = rw none more
frames_then (m ∷ ms) ns a b (first, rest, is, are, same) more = (
  first,
  rest ++ b,
  is,
  frames_then ms ns rest b are more,
  ap (λ l. l ++ b) same ∙ append_assoc first rest b,
)

all_taken : (old : PendingOutput) (ms : List Message) (new : PendingOutput) → FoldsTo (Takes PendingSends) old ms new
    → AddsFrames {E = ProtocolFault} (waiting old) ms (Ok tt) (waiting new)
all_taken old [] new same = ([], refl, ap waiting (sym same) ∙ sym (append-nil (waiting old)))
all_taken old (m ∷ ms) new (mid, (frame, is, added), more) =
    let rest = all_taken mid ms new more in (
      frame ++ rest.0,
      (frame, rest.0, is, rest.1, refl),
      rest.2 ∙ ap (λ l. l ++ rest.0) added ∙ append_assoc (waiting old) frame rest.0,
    )

not_added : (mid : PendingOutput) (m : Message) (refusal : SendFault) (new : PendingOutput) → PendingSends mid m
    (Err refusal) new → waiting new ≡ waiting mid
not_added mid m (Memory back) new kept = kept
not_added mid m (Closed back) new never = absurd never

-- what is sent on the output is added to it
pub adds_all : (old : PendingOutput) (ms : List Message) (result : Result (Unit {0}) ProtocolFault)
    (new : PendingOutput) → SendsAll PendingSends old ms result new → AddsFrames (waiting old) ms result (waiting new)
adds_all old ms (Ok done) new taken = all_taken old ms new taken
adds_all old ms (Err fault) new r =
    let first = all_taken old r.part r.mid r.taken in record {
      part = r.part;
      unsent = r.unsent;
      more = r.more;
      cut = r.cut;
      frames = first.0;
      are_frames = first.1;
      added = not_added r.mid r.unsent r.refusal new r.refuses ∙ first.2;
    }

-- nothing is sent
pub adds_none : (old : List ℕ) → AddsFrames {E = ProtocolFault} old [] (Ok tt) old
adds_none old = ([], refl, sym (append-nil old))

module _ (old mid new : List ℕ) (ms ns : List Message) where
  -- all of the first messages were added, and then others
  pub adds_then : (result : Result (Unit {0}) ProtocolFault) → AddsFrames {E = ProtocolFault} old ms (Ok tt) mid
      → AddsFrames mid ns result new → AddsFrames old (ms ++ ns) result new
  adds_then (Ok done) (a, are, added) (b, more, after) = (
    a ++ b,
    frames_then ms ns a b are more,
    after ∙ ap (λ l. l ++ b) added ∙ append_assoc old a b,
  )
  adds_then (Err fault) (a, are, added) r = record {
    part = ms ++ r.part;
    unsent = r.unsent;
    more = r.more;
    cut = ap (λ l. ms ++ l) r.cut ∙ sym (append_assoc ms r.part (r.unsent ∷ r.more));
    frames = a ++ r.frames;
    are_frames = frames_then ms r.part a r.frames are r.are_frames;
    added = r.added ∙ ap (λ l. l ++ r.frames) added ∙ append_assoc old a r.frames;
  }

-- memory ran out before the reply to `shutdown`
pub adds_some_with : (old new : List ℕ) (ms : List Message) (reply : Option Id) → AddsSome old ms new
    → AddsSome old (sends_with ms reply) new
adds_some_with old new ms None r = r
adds_some_with old new ms (Some id) r = record {
  part = r.part;
  unsent = r.unsent;
  more = r.more ++ null_reply id ∷ [];
  cut = ap (λ l. l ++ null_reply id ∷ []) r.cut ∙ append_assoc r.part (r.unsent ∷ r.more) (null_reply id ∷ []);
  frames = r.frames;
  are_frames = r.are_frames;
  added = r.added;
}
