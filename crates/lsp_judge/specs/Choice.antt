-- Which breaches make the status 1.
use Rattle.std.specs.Prelude.{Bool, true, false, ◌&&◌, ◌||◌, not, Option, Some, None}
use Rattle.lsp_watch.specs.Log.{from_client, other}
use Rattle.lsp_watch.specs.Orders.{is_in_each_order, needs_all}
use Rattle.lsp_watch.specs.RuleData.{level_of, side_of}
use Rattle.lsp_watch.specs.declared.breach.Breach.{Breach}
use Rattle.lsp_watch.specs.declared.breach.Unanswered.{Unanswered}
use Rattle.lsp_watch.specs.declared.breach.Verdict.TheVariants.{CannotTell}
use Rattle.lsp_watch.specs.declared.breach.Verdict.{Verdict}
use Rattle.lsp_watch.specs.declared.rule.Level.TheVariants.{Must, Should, Implied}
use Rattle.lsp_watch.specs.declared.rule.Level.{Level}
use Rattle.lsp_watch.specs.declared.rule.Rule.TheVariants.{NotUtf8, NotJson, Unreadable, Batch, NoObject, BadVersion}
use Rattle.lsp_watch.specs.declared.rule.Rule.TheVariants.{NoMessage, BadMethod, BadId, WideId, BadParams, BothOutcomes}
use Rattle.lsp_watch.specs.declared.rule.Rule.TheVariants.{NoOutcome, BadError, NeedsId, TakesNoId, NoReply}
use Rattle.lsp_watch.specs.declared.rule.Rule.{Rule}
use Rattle.lsp_watch.specs.declared.rule.Side.TheVariants.{Sender, Receiver, Client}
use Rattle.lsp_watch.specs.declared.rule.Side.{Side}
use Rattle.lsp_watch.specs.declared.direction.Direction.TheVariants.{ToServer}
use Rattle.lsp_watch.specs.declared.direction.Direction.{Direction}
use Rattle.lsp_judge.specs.declared.choice.Choice.{Choice}
use Rattle.lsp_judge.specs.declared.choice.FailOn.TheVariants.{Servers, Clients, Both}
use Rattle.lsp_judge.specs.declared.choice.FailOn.{FailOn}
use Rattle.lsp_judge.specs.declared.passed.Order.TheVariants.{Known, BehindAll, Unknown}
use Rattle.lsp_judge.specs.declared.passed.Order.{Order}

-- the direction in which that side sends which breaks a rule by a message of this direction
abbrev pub culprit : Side → Direction → Direction
culprit Sender direction = direction
culprit Receiver direction = other direction
culprit Client direction = ToServer

abbrev pub is_of : FailOn → Direction → Bool
is_of Servers direction = not (from_client direction)
is_of Clients direction = from_client direction
is_of Both direction = true

abbrev pub is_at_least : Level → Level → Bool
is_at_least Must wanted = true
is_at_least Should Must = false
is_at_least Should wanted = true
is_at_least Implied Implied = true
is_at_least Implied wanted = false

-- breaches of a rule by messages of a direction are of the chosen side and level
abbrev pub counts : Choice → Rule → Direction → Bool
counts choice rule direction =
    is_of choice.fail_on (culprit (side_of rule) direction) && is_at_least (level_of rule) choice.level

-- the rules of the shape of one message: the order does not matter
abbrev pub is_of_shape : Rule → Bool
is_of_shape NotUtf8 = true
is_of_shape NotJson = true
is_of_shape Unreadable = true
is_of_shape Batch = true
is_of_shape NoObject = true
is_of_shape BadVersion = true
is_of_shape NoMessage = true
is_of_shape BadMethod = true
is_of_shape BadId = true
is_of_shape WideId = true
is_of_shape BadParams = true
is_of_shape BothOutcomes = true
is_of_shape NoOutcome = true
is_of_shape BadError = true
is_of_shape NeedsId = true
is_of_shape TakesNoId = true
is_of_shape rule = false

-- A breach of this rule by a message is one in each order that there may have been.
abbrev pub decides : Order → Rule → Bool
decides Known rule = true
decides Unknown rule = is_in_each_order rule || is_of_shape rule
decides BehindAll rule = (is_in_each_order rule || needs_all rule) || is_of_shape rule

abbrev pub is_known : Order → Bool
is_known Known = true
is_known order = false

-- what is known of the order, where some reply may have found no request
abbrev pub narrowed : Order → Bool → Order
narrowed BehindAll false = Unknown
narrowed order is_matched = order

abbrev pub is_sure : Verdict → Bool
is_sure CannotTell = false
is_sure verdict = true

-- a breach that makes the status 1
abbrev pub fails : Choice → Order → Direction → Breach → Bool
fails choice order direction b = (is_sure b.verdict && decides order b.rule) && counts choice b.rule direction

-- a breach of a rule of types or texts that does so, by how sure that is
abbrev pub fails_shown : Choice → Order → Option Verdict → Direction → Rule → Bool
fails_shown choice order None direction rule = false
fails_shown choice order (Some verdict) direction rule = (is_sure verdict && decides order rule)
    && counts choice rule direction

-- a request without a reply that does so
abbrev pub leaves : Choice → Unanswered → Bool
leaves choice u = is_sure u.verdict && counts choice NoReply u.direction
