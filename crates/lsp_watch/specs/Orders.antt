-- Two files of frames, one of each side, do not say in which order the messages passed. Which breaches are there in
-- each order.
use Rattle.std.specs.List.{list_any}
use Rattle.std.specs.Prelude.{◌≡◌, Bool, true, false, ◌||◌, List, [], ◌∷◌, filter, if◌then◌else◌}
use Rattle.lsp_message.specs.Id.{Id}
use Rattle.lsp_watch.specs.Log.{Log, Passed, Finding, Open, same_direction, other, is_for, open_of}
use Rattle.lsp_watch.specs.Verdicts.{findings_of}
use Rattle.lsp_watch.specs.declared.direction.Direction.{Direction}
use Rattle.lsp_watch.specs.declared.direction.Direction.TheVariants.{ToServer, ToClient}
use Rattle.lsp_watch.specs.declared.rule.Rule.{Rule}
use Rattle.lsp_watch.specs.declared.rule.Rule.TheVariants.{BeforeInitialized, AfterShutdown, AfterExit, AlreadyOpen}
use Rattle.lsp_watch.specs.declared.rule.Rule.TheVariants.{NotOpen, VersionNotHigher, NobodyAsked, IdStillOpen}
use Rattle.lsp_watch.specs.declared.rule.Rule.TheVariants.{BeforeResult, SentAgain}

-- what went in this direction, in its order
abbrev pub sent : Direction → Log → List Passed
sent direction [] = []
sent direction (p ∷ before) = if same_direction direction p.direction then p ∷ sent direction before
    else sent direction before

-- Two orders of the same messages: each side sent the same in both, in the same order.
pub record AreOrders (log other : Log) : Type 0 where
  pub client : sent ToServer log ≡ sent ToServer other
  pub server : sent ToClient log ≡ sent ToClient other

-- the rules that look only at what the same side sent before
abbrev pub is_in_each_order : Rule → Bool
is_in_each_order BeforeInitialized = true
is_in_each_order AfterShutdown = true
is_in_each_order AfterExit = true
is_in_each_order AlreadyOpen = true
is_in_each_order NotOpen = true
is_in_each_order VersionNotHigher = true
is_in_each_order rule = false

abbrev pub is_sure : Finding → Bool
is_sure found = is_in_each_order found.0

abbrev pub any_finding : Finding → Bool
any_finding found = true

-- the rules that look at both sides: of a message that passed after all messages of the other side they are certain
abbrev pub needs_all : Rule → Bool
needs_all NobodyAsked = true
needs_all IdStillOpen = true
needs_all BeforeResult = true
needs_all SentAgain = true
needs_all rule = false

abbrev pub is_late : Finding → Bool
is_late found = needs_all found.0

-- a reply that no request waits for
abbrev pub says_unasked : Rule → Bool
says_unasked NobodyAsked = true
says_unasked rule = false

abbrev pub is_unasked : Finding → Bool
is_unasked found = says_unasked found.0

-- some message breaks a rule of which this test says so
abbrev pub breaks : (Finding → Bool) → Log → Bool
breaks such [] = false
breaks such (p ∷ before) = list_any such (findings_of before p.direction p.message) || breaks such before

-- In this log, nothing of the other side passed after a message. Each reply before the message had its request.
pub record IsBehindAll (after : Log) (p : Passed) (before : Log) : Type 0 where
  pub last : sent (other p.direction) after ≡ []
  pub matched : breaks is_unasked before ≡ false

-- the requests of this direction and id that have no reply, in the order in which they passed
abbrev pub open_under : Direction → Id → Log → List Open
open_under direction id log = filter (is_for direction id) (open_of log)
