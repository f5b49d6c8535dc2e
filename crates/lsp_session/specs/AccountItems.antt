-- A list that is kept as a snapshot of its last item and those before it.
use Rattle.std.specs.Prelude.{List, [], ◌∷◌, ◌++◌, Option, Some, None}
use Rattle.std.specs.declared.snapshot.Snapshot.{Snapshot}

abbrev pub items : {A : Type 0} → Option (Snapshot (List A)) → List A
items None = []
items (Some last) = last.value

abbrev pub with_last : {A : Type 0} → Option (Snapshot (List A)) → A → List A
with_last before item = items before ++ item ∷ []
