-- How strongly the standards demand each rule, who breaks it, and which group it belongs to.
use Rattle.std.specs.Prelude.{List, [], ◌∷◌}
use Rattle.lsp_watch.specs.declared.rule.Group.{Group}
use Rattle.lsp_watch.specs.declared.rule.Group.TheVariants.{Session, Capabilities, Types, Texts}
use Rattle.lsp_watch.specs.declared.rule.Level.{Level}
use Rattle.lsp_watch.specs.declared.rule.Level.TheVariants.{Must, Should, Implied}
use Rattle.lsp_watch.specs.declared.rule.Rule.{Rule}
use Rattle.lsp_watch.specs.declared.rule.Rule.TheVariants.{NotUtf8, NotJson, Unreadable, Batch, NoObject, BadVersion}
use Rattle.lsp_watch.specs.declared.rule.Rule.TheVariants.{NoMessage, BadMethod, BadId, WideId, BadParams, BothOutcomes}
use Rattle.lsp_watch.specs.declared.rule.Rule.TheVariants.{NoOutcome, BadError, NeedsId, TakesNoId, NobodyAsked}
use Rattle.lsp_watch.specs.declared.rule.Rule.TheVariants.{IdStillOpen, NoReply, BeforeResult, BeforeInitialized}
use Rattle.lsp_watch.specs.declared.rule.Rule.TheVariants.{SentAgain, AfterShutdown, AfterExit, AlreadyOpen, NotOpen}
use Rattle.lsp_watch.specs.declared.rule.Rule.TheVariants.{VersionNotHigher, NoSuchToken, TokenEnded, NotAnnounced}
use Rattle.lsp_watch.specs.declared.rule.Rule.TheVariants.{AnnouncedUnknown, ClientCannot, NeverOpened, WrongType}
use Rattle.lsp_watch.specs.declared.rule.Rule.TheVariants.{LooseType}
use Rattle.lsp_watch.specs.declared.rule.Rule.TheVariants.{EditsOverlap, TokensNotInFives, SelectionOutside}
use Rattle.lsp_watch.specs.declared.rule.Rule.TheVariants.{RangeReversed, LineOutside}
use Rattle.lsp_watch.specs.declared.rule.Side.{Side}
use Rattle.lsp_watch.specs.declared.rule.Side.TheVariants.{Sender, Receiver, Client}

abbrev pub level_of : Rule → Level
level_of TokenEnded = Should
level_of Batch = Implied
level_of IdStillOpen = Implied
level_of AfterExit = Implied
level_of NeedsId = Implied
level_of TakesNoId = Implied
level_of NotAnnounced = Implied
level_of AnnouncedUnknown = Implied
level_of ClientCannot = Implied
level_of NeverOpened = Implied
level_of LooseType = Implied
level_of RangeReversed = Implied
level_of rule = Must

abbrev pub side_of : Rule → Side
side_of NoReply = Receiver
side_of BeforeInitialized = Client
side_of SentAgain = Client
side_of AfterShutdown = Client
side_of AfterExit = Client
side_of AlreadyOpen = Client
side_of NotOpen = Client
side_of VersionNotHigher = Client
side_of rule = Sender

abbrev pub group_of : Rule → Group
group_of NotAnnounced = Capabilities
group_of AnnouncedUnknown = Capabilities
group_of ClientCannot = Capabilities
group_of NeverOpened = Capabilities
group_of WrongType = Types
group_of LooseType = Types
group_of EditsOverlap = Texts
group_of TokensNotInFives = Texts
group_of SelectionOutside = Texts
group_of RangeReversed = Texts
group_of LineOutside = Texts
group_of rule = Session

abbrev pub all_rules : List Rule
all_rules = NotUtf8 ∷ NotJson ∷ Unreadable ∷ Batch ∷ NoObject ∷ BadVersion ∷ NoMessage ∷ BadMethod ∷ BadId ∷ WideId
    ∷ BadParams ∷ BothOutcomes ∷ NoOutcome ∷ BadError ∷ NeedsId ∷ TakesNoId ∷ NobodyAsked ∷ IdStillOpen ∷ NoReply
    ∷ BeforeResult ∷ BeforeInitialized ∷ SentAgain ∷ AfterShutdown ∷ AfterExit ∷ AlreadyOpen ∷ NotOpen
    ∷ VersionNotHigher ∷ NoSuchToken ∷ TokenEnded ∷ NotAnnounced ∷ AnnouncedUnknown ∷ ClientCannot ∷ NeverOpened
    ∷ WrongType ∷ LooseType ∷ EditsOverlap ∷ TokensNotInFives ∷ SelectionOutside ∷ RangeReversed ∷ LineOutside ∷ []
