-- Logs in which each reply has its request and progress its token, whoever the two sides are (JSON-RPC 2.0, sections 4
-- and 5; LSP 3.17, "Work Done Progress", "Partial Result Progress" and "Creating Work Done Progress").
use Rattle.std.specs.Prelude.{◌≡◌, ◌⊎◌, ℕ, Bool, true, false, not, List, [], ◌∷◌, ◌++◌, filter, Option, Some, None}
use Rattle.lsp_message.specs.Id.{Id, same_id}
use Rattle.lsp_message.specs.Message.{Message, request, notification, response}
use Rattle.lsp_watch.specs.CleanLog.{AtEach}
use Rattle.lsp_watch.specs.Log.{Log, Open, other, is_for, is_success, request_of, progress_token}
use Rattle.lsp_watch.specs.Progress.{gives, ended_by, progress_finding}
use Rattle.lsp_watch.specs.Rules.{id_finding}
use Rattle.lsp_watch.specs.declared.direction.Direction.{Direction}
use Rattle.lsp_watch.specs.declared.direction.Direction.TheVariants.{ToServer, ToClient}

-- no open request of this direction has this id
abbrev pub IsFree : Direction → Id → List Open → Type 0
IsFree direction id asked = (o : Open) (xs ys : List Open) → asked ≡ xs ++ o ∷ ys → is_for direction id o ≡ false

-- some open request gives this token
abbrev pub IsGiven : Direction → Id → List Open → Type 0
IsGiven direction name asked = (o : Open) × (xs : List Open) × (ys : List Open)
    × (asked ≡ xs ++ o ∷ ys) × (gives direction name o ≡ true)

-- the client accepted this token of the server, and it has not ended
abbrev pub IsAccepted : Direction → Id → List Id → Type 0
IsAccepted ToServer name live = ⊥
IsAccepted ToClient name live = (xs : List Id) × (ys : List Id) × (live ≡ xs ++ name ∷ ys)

abbrev pub MayTell : Direction → Option Id → List Open → List Id → Type 0
MayTell direction None asked live = Unit {0}
MayTell direction (Some name) asked live = IsGiven direction name asked ⊎ IsAccepted direction name live

-- the live tokens without one that ends
abbrev pub without : Option Id → List Id → List Id
without None live = live
without (Some ended) live = filter (λ name. not (same_id ended name)) live

-- the live tokens with one that a result lets be created
abbrev pub with : Bool → Option Id → List Id → List Id
with true (Some name) live = name ∷ live
with true None live = live
with false created live = live

-- A message may pass when these requests are open and these created tokens are live, and then those are.
-- A request has an id that is free. Progress has a token that an open request gives, or that the client accepted, and
-- the server's may end it. A reply answers some open request of the other direction, by its id; a result accepts the
-- token that the request creates.
abbrev pub MayPass : Direction → ℕ → Message → List Open → List Open → List Id → List Id → Type 0
MayPass direction place (request i method params) old new was live = IsFree direction i old
    × (new ≡ old ++ request_of direction place i method params ∷ []) × (live ≡ was)
MayPass direction place (notification method params) old new was live =
    MayTell direction (progress_token (notification method params)) old was
    × (new ≡ old) × (live ≡ without (ended_by direction (notification method params)) was)
MayPass direction place (response i outcome) old new was live = (o : Open) × (xs : List Open) × (ys : List Open)
    × (old ≡ xs ++ o ∷ ys) × (is_for (other direction) i o ≡ true) × (new ≡ xs ++ ys)
    × (live ≡ with (is_success (response i outcome)) o.created was)

-- each message of the log may pass, and after the last one these requests are open and these created tokens are live
abbrev pub IsLawful : Log → List Open → List Id → Type 0
IsLawful [] asked live = (asked ≡ []) × (live ≡ [])
IsLawful (p ∷ before) asked live = (old : List Open) × (was : List Id) × IsLawful before old was
    × MayPass p.direction p.place p.message old asked was live

-- no message breaks a rule of ids or of progress
abbrev pub BreaksNone : Log → Type 0
BreaksNone log = AtEach (λ before p. (id_finding before p.direction p.message ≡ None)
    × (progress_finding before p.direction p.message ≡ None)) log
