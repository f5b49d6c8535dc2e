-- A session over boxes, an inbox and an outbox: the history of each, of the same exchanges. Which was used first is not
-- said.
use Rattle.std.specs.Prelude.{◌≡◌, List}
use Rattle.lsp_session.specs.Boxes.{Sends, Receives}
use Rattle.lsp_session.specs.Prompt.{History, any_wait}
use Rattle.lsp_session.specs.Session.{SessionAnswer, SessionPart, Exchange, Stop, starting}

-- nothing is sent to an inbox, and nothing is received from an outbox
abbrev pub sends_nothing : {I : Type 0} → Sends I
sends_nothing old m outcome new = new ≡ old

abbrev pub gives_nothing : {O : Type 0} → Receives O
gives_nothing old event new = new ≡ old

module _ {I O : Type 0} (receives : Receives I) (sends : Sends O) where
  -- The boxes went from old to new in a session of which P is said.
  pub record Runs (P : SessionPart) (old : I × O) (answer : SessionAnswer) (new : I × O) : Type 0 where
    pub exchanges : List Exchange
    pub stop : Stop
    pub came : History receives any_wait sends_nothing starting exchanges stop answer old.0 new.0
    pub went : History gives_nothing any_wait sends starting exchanges stop answer old.1 new.1
    pub part : P exchanges stop answer
