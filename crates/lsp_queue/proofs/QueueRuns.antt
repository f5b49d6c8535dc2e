-- What is pending after a list of calls.
use Rattle.std.proofs.Common.{◌≡◌, Bool, true, false, cond, List, [], ◌∷◌, fold, Option, Some, None, refl, sym, ap, ◌∙◌}
use Rattle.std.specs.FinMap as map
use Rattle.std.specs.FinMap.{get-insert, get-remove, get-empty}
use Rattle.std.specs.Ordering.{eq_by_cmp}
use Rattle.lsp_message.specs.Id.{Id, id_cmp}
use Rattle.lsp_message.specs.IdLaws.{id_total}
use Rattle.lsp_queue.specs.Queue.{Pending}
use Rattle.lsp_queue.specs.QueueRun.{Call, registers, completes, after, after_all, leaves, later, last_leaves}
use Rattle.lsp_queue.specs.QueueRun.{or_nothing, last_registered}

module _ {D : Type 0} where
  -- what is there, if nothing was left since
  abbrev or_before : Option D → Option (Option D) → Option D
  or_before before None = before
  or_before before (Some o) = o

  chosen : (b : Bool) (o : Option D) (before : Option D) → or_before before (cond b (Some o) None) ≡ cond b o before
  chosen true o before = refl
  chosen false o before = refl

  get-after : (m : Pending D) (call : Call D) (id : Id) → map.get (after m call) id ≡ or_before (map.get m id)
      (leaves id call)
  get-after m (registers i given) id = get-insert id_total m i given id ∙ sym (chosen (eq_by_cmp id_cmp id i)
      (Some given) (map.get m id))
  get-after m (completes i) id = get-remove id_total m i id ∙ sym (chosen (eq_by_cmp id_cmp id i) None (map.get m id))

  before_later : (before : Option D) (first second : Option (Option D)) → or_before (or_before before first) second
      ≡ or_before before (later first second)
  before_later before first None = refl
  before_later before first (Some o) = refl

  get-fold : (calls : List (Call D)) (m : Pending D) (id : Id) → map.get (fold after m calls) id
      ≡ or_before (map.get m id) (last_leaves id calls)
  get-fold [] m id = refl
  get-fold (call ∷ calls) m id =
      get-fold calls (after m call) id ∙ ap (λ before. or_before before (last_leaves id calls)) (get-after m call id)
      ∙ before_later (map.get m id) (leaves id call) (last_leaves id calls)

  nothing_before : (o : Option (Option D)) → or_before None o ≡ or_nothing o
  nothing_before None = refl
  nothing_before (Some o) = refl

  pub get-after_all : (calls : List (Call D)) (id : Id) → map.get (after_all calls) id ≡ last_registered id calls
  get-after_all calls id =
      get-fold calls map.empty id ∙ ap (λ before. or_before before (last_leaves id calls)) (get-empty id_cmp id)
      ∙ nothing_before (last_leaves id calls)
