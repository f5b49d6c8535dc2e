-- A session between bytes that pauses where more is pending than its bound allows.
use Rattle.std.proofs.Common.{◌≡◌, ◌≤◌, [], length, arith}
use Rattle.lsp_session.specs.ByteSessions.{standing, unread, PausesAtFrame}
use Rattle.lsp_session.specs.declared.loops.byte_session.ByteSession.{ByteSession}

-- the bound allows what is pending
pub no_pause : {S : Type 0} (b : ByteSession S) → length (standing b).pending ≤ b.most_pending → PausesAtFrame b
no_pause b room = λ more. absurd (omega (arith, room, more))

-- no byte is unread
pub pauses_at_frame : {S : Type 0} (new : ByteSession S) → unread new ≡ [] → PausesAtFrame new
pauses_at_frame new none = λ more. none
