-- Lists of calls on a queue of pending requests.
use Rattle.std.specs.FinMap as map
use Rattle.std.specs.Ordering.{eq_by_cmp}
use Rattle.std.specs.Prelude.{List, [], ◌∷◌, fold, Option, Some, None, if◌then◌else◌}
use Rattle.lsp_message.specs.Id.{Id, id_cmp}
use Rattle.lsp_queue.specs.Queue.{Pending}

pub data Call (D : Type 0) : Type 0 where
  -- a registration that was accepted
  registers : Id → D → Call D
  -- a completion, or a cancellation
  completes : Id → Call D

module _ {D : Type 0} where
  -- what is pending after a call
  abbrev pub after : Pending D → Call D → Pending D
  after m (registers i given) = map.insert m i given
  after m (completes i) = map.remove m i

  -- what is pending after these calls on an empty queue
  abbrev pub after_all : List (Call D) → Pending D
  after_all calls = fold after map.empty calls

  -- what a call leaves under an id that it names
  abbrev pub leaves : Id → Call D → Option (Option D)
  leaves id (registers i given) = if eq_by_cmp id_cmp id i then Some (Some given) else None
  leaves id (completes i) = if eq_by_cmp id_cmp id i then Some None else None

  -- the second of two answers, or else the first
  abbrev pub later : Option (Option D) → Option (Option D) → Option (Option D)
  later first None = first
  later first (Some second) = Some second

  -- what the last of the calls that name the id leaves under it
  abbrev pub last_leaves : Id → List (Call D) → Option (Option D)
  last_leaves id [] = None
  last_leaves id (call ∷ calls) = later (leaves id call) (last_leaves id calls)

  abbrev pub or_nothing : Option (Option D) → Option D
  or_nothing None = None
  or_nothing (Some o) = o

  -- the data last registered under the id, unless it was completed since
  abbrev pub last_registered : Id → List (Call D) → Option D
  last_registered id calls = or_nothing (last_leaves id calls)
