-- What a server with its queues did at a call.
use Rattle.std.proofs.Common.{◌≡◌, List, Bool, false, Some, None, refl, ap}
use Rattle.std.specs.Str.{bytes_eq}
use Rattle.lsp_calls.specs.Calls.{call_ref_view}
use Rattle.lsp_calls.specs.declared.call_ref.CallRef.{CallRef}
use Rattle.lsp_calls.specs.declared.call_ref.CallRef.TheVariants.{Notification, Request}
use Rattle.lsp_message.specs.Message.{Message}
use Rattle.lsp_queue.specs.Queue.{count_of}
use Rattle.lsp_acts.specs.Acts.{Act, Queues, TakesBack, cleared, does_all, unsent}
use Rattle.lsp_acts.specs.Calls.{ActsAtCall, held_at, is_cancellation}
use Rattle.lsp_acts.specs.ServerApplication.{Works, WorksSending}
use Rattle.lsp_acts.specs.declared.server.Server.{Ghosts as Stated}

-- it held the request, if the call is one, and did the acts that the server returned
works_at_call : {S P : Type 0} (may : Stated S P) (call : CallRef) (old after new : S) (queues done : Queues P)
    (acts : List (Act P)) → is_cancellation call ≡ false
    → ActsAtCall may.request_post may.notification_post old call acts after
    → TakesBack may.ids_exhausted_post after (unsent (count_of (held_at call queues).asked) acts) new
    → done ≡ does_all (held_at call queues) acts
    → Works may (old, queues) (Some (call_ref_view call)) (new, done)
works_at_call may (Request it) old after new queues done acts other at back does = (acts, after, at, back, does)
works_at_call may (Notification it) old after new queues done acts other at back does =
    ((new, done), (acts, after, at, back, does), rw other refl)

-- it sent all that these acts send
pub sends_at_call : {S P : Type 0} (may : Stated S P) (call : CallRef) (old after new : S) (queues last : Queues P)
    (sent : List Message) (acts : List (Act P)) → is_cancellation call ≡ false
    → ActsAtCall may.request_post may.notification_post old call acts after
    → TakesBack may.ids_exhausted_post after (unsent (count_of (held_at call queues).asked) acts) new
    → sent ≡ (does_all (held_at call queues) acts).sent → last ≡ cleared (does_all (held_at call queues) acts)
    → WorksSending may (old, queues) (Some (call_ref_view call)) sent (new, last)
sends_at_call may call old after new queues last sent acts other at back sends clears = (
  (new, does_all (held_at call queues) acts),
  works_at_call may call old after new queues (does_all (held_at call queues) acts) acts other at back refl,
  sends,
  ap (λ q. (new, q)) clears,
)
