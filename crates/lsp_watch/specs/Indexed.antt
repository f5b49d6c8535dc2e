-- What is kept of the requests that have no reply: each has a number, and is found by it or by what it uses.
use Rattle.std.specs.BTreeMap.{get, values, is_at}
use Rattle.std.specs.BTreeSet.{insert_key}
use Rattle.std.specs.Ordering.{nat_cmp}
use Rattle.std.specs.Prelude.{◌≡◌, ◌≤◌, ◌⊎◌, ℕ, ◌+◌, Bool, ◌&&◌, List, [], ◌∷◌, Option, Some, None}
use Rattle.std.specs.Prelude.{option_map, unwrap_or, if◌then◌else◌}
use Rattle.std.specs.Set.{remove_key}
use Rattle.lsp_message.specs.Id.{Id, id_cmp}
use Rattle.lsp_watch.specs.Log.{Open, is_for, is_id, same_direction, opens_session}
use Rattle.lsp_watch.specs.Rules.{opens_under}
use Rattle.lsp_watch.specs.declared.direction.Direction.{Direction}
use Rattle.lsp_watch.specs.declared.direction.Direction.TheVariants.{ToServer, ToClient}
use Rattle.lsp_watch.specs.declared.requests.Numbers.{Numbers}
use Rattle.lsp_watch.specs.declared.requests.OpenRequests.{OpenRequests}
use Rattle.lsp_watch.specs.declared.uses.ByDirection.{ByDirection}
use Rattle.lsp_watch.specs.declared.uses.Uses.{Uses}

-- ---- numbers

abbrev pub first_of : {A : Type 0} → List A → Option A
first_of [] = None
first_of (x ∷ xs) = Some x

abbrev pub with_number : ℕ → List ℕ → List ℕ
with_number n ks = insert_key nat_cmp ks n

abbrev pub without_number : ℕ → List ℕ → List ℕ
without_number n ks = remove_key (is_at (nat_cmp n)) ks

-- the numbers after one more, if it belongs to them
abbrev pub added : Bool → ℕ → List ℕ → List ℕ
added belongs n ks = if belongs then with_number n ks else ks

-- the numbers without one, if it belonged to them
abbrev pub removed : Bool → ℕ → List ℕ → List ℕ
removed belongs n ks = if belongs then without_number n ks else ks

-- the number may have been added, if it belongs to them
abbrev pub MayAdd : Bool → ℕ → List ℕ → List ℕ → Type 0
MayAdd belongs n old new = (new ≡ old) ⊎ (new ≡ added belongs n old)

-- a number that is not among them, and would come last
abbrev pub IsFresh : ℕ → List ℕ → Type 0
IsFresh n ks = (without_number n ks ≡ ks) × (without_number n (with_number n ks) ≡ ks)

-- ---- what is kept of an id

-- the numbers of the requests that use an id
abbrev pub numbers_at : Uses → Id → List ℕ
numbers_at u id = unwrap_or (option_map (λ s. s.keys) (get id_cmp u.numbers id)) []

-- the numbers of those that go in this direction
abbrev pub numbers_by : ByDirection → Direction → Id → List ℕ
numbers_by u ToServer id = numbers_at u.to_server id
numbers_by u ToClient id = numbers_at u.to_client id

-- ---- what a request may be found by

-- its id, its `workDoneToken`, its `partialResultToken` and the token that it creates, each with its direction; the
-- `workDoneToken` of an `initialize`; and that it is an `initialize`
pub data Use : Type 0 where
  by_id : Direction → Id → Use
  by_work : Direction → Id → Use
  by_part : Direction → Id → Use
  by_created : Direction → Id → Use
  opens_by : Id → Use
  opens : Use

-- the request is found by it
abbrev pub is_found : Use → Open → Bool
is_found (by_id direction id) o = is_for direction id o
is_found (by_work direction id) o = same_direction direction o.direction && is_id id o.work
is_found (by_part direction id) o = same_direction direction o.direction && is_id id o.part
is_found (by_created direction id) o = same_direction direction o.direction && is_id id o.created
is_found (opens_by id) o = opens_under id o
is_found opens o = opens_session o

-- the numbers that are kept of it
abbrev pub numbers : Numbers → Use → List ℕ
numbers n (by_id direction id) = numbers_by n.ids direction id
numbers n (by_work direction id) = numbers_by n.work direction id
numbers n (by_part direction id) = numbers_by n.part direction id
numbers n (by_created direction id) = numbers_by n.created direction id
numbers n (opens_by id) = numbers_at n.opening_tokens id
numbers n opens = n.openings.keys

-- ---- the requests

-- the requests that are kept, in the order in which they passed
abbrev pub asked_in : OpenRequests → List Open
asked_in o = values o.requests

-- the numbers of the requests that are such
abbrev pub numbers_of : (Open → Bool) → List (ℕ × Open) → List ℕ
numbers_of such [] = []
numbers_of such (e ∷ es) = if such e.1 then e.0 ∷ numbers_of such es else numbers_of such es

-- the numbers rise, from the first bound on and below the second
abbrev pub RisesTo : ℕ → ℕ → List (ℕ × Open) → Type 0
RisesTo least end [] = least ≤ end
RisesTo least end (e ∷ es) = (least ≤ e.0) × RisesTo (e.0 + 1) end es

-- the numbers lie below the next one, and each request is found by all that it is to be found by
pub record IsIndexed (o : OpenRequests) : Type 0 where
  pub rises : RisesTo 0 o.next o.requests.entries
  pub lists : (by : Use) → numbers o.numbers by ≡ numbers_of (is_found by) o.requests.entries
