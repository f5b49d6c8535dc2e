-- What is known of a session besides what is promised of it: how it stopped.
use Rattle.lsp_session.proofs.Ran.{session_facts}
use Rattle.lsp_session.specs.Session.{Behavior, Exchange, SessionAnswer, SessionOut, SessionPart, Stop, starting}
use Rattle.lsp_session.specs.SessionLaws.{Both}
use Rattle.lsp_session.specs.SessionOutcome.{StopsBy, StopsFor}
use Rattle.lsp_session.specs.declared.loops.session_outcome.StopReason.{StopReason}
use Rattle.std.proofs.Common.{refl, List}

abbrev pub Knows : SessionPart → SessionPart → StopReason → Type 0
Knows P Q reason = (xs : List Exchange) (stop : Stop) (answer : SessionAnswer)
    → P xs stop answer → Both Q (StopsBy reason) xs stop answer

-- of a session of a service
pub knows_service : {S : Type 0} (may : Behavior S) (s s' : S) (reason : StopReason)
    → Knows (Both (SessionOut may s s') (StopsFor reason)) (SessionOut may s s') reason
knows_service may s s' reason xs stop answer both = (
  both.0,
  (both.1, session_facts may starting s s' refl xs stop answer both.0),
)

-- of a session of an application
pub knows_itself : (Q : SessionPart) (reason : StopReason) → Knows (Both Q (StopsBy reason)) Q reason
knows_itself Q reason xs stop answer both = both
