-- What passes between two peers, and the rules of ids (JSON-RPC 2.0, sections 4 and 5).
use Rattle.std.specs.Prelude.{◌≡◌, List, [], ◌∷◌, None}
use Rattle.lsp_peers.specs.History.{Entry, written_in}
use Rattle.lsp_peers.specs.Sides.{side_of}
use Rattle.lsp_peers.specs.declared.step.Side.{Side}
use Rattle.lsp_peers.specs.declared.step.Side.TheVariants.{A, B}
use Rattle.lsp_watch.specs.CleanLog.{AtEach}
use Rattle.lsp_watch.specs.Log.{Log}
use Rattle.lsp_watch.specs.Rules.{id_finding}
use Rattle.lsp_watch.specs.declared.direction.Direction.{Direction}
use Rattle.lsp_watch.specs.declared.direction.Direction.TheVariants.{ToServer, ToClient}
use Rattle.lsp_watched.specs.Passing.{Pass}

-- the direction in which a side sends, if this one is the client
abbrev pub direction_from : Side → Side → Direction
direction_from A A = ToServer
direction_from B B = ToServer
direction_from client side = ToClient

-- the messages that the two peers write pass in the order of the entries
abbrev pub PassAll : Side → List Entry → Log → Log → Type 0
PassAll client [] old new = new ≡ old
PassAll client (entry ∷ entries) old new = (mid : Log)
    × Pass (direction_from client (side_of entry.step)) (written_in entry.step entry.outcome) old mid
    × PassAll client entries mid new

-- the log of a history, if this side is the client
abbrev pub IsLogOf : Side → List Entry → Log → Type 0
IsLogOf client history log = PassAll client history [] log

-- no message breaks a rule of ids
abbrev pub KeepsIds : Log → Type 0
KeepsIds log = AtEach (λ before p. id_finding before p.direction p.message ≡ None) log
