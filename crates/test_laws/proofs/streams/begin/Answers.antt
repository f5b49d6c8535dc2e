use Rattle.std.proofs.Common.{Option, Some, None}
use Rattle.std.specs.Prelude.{IsSome, option_map}
use Rattle.test_laws.proofs.streams.begin.Goals as goal

unmapped : {A B : Type 0} (f : A → B) (o : Option A) → IsSome (option_map f o) → IsSome o
unmapped f None none = none
unmapped f (Some a) some = some

pub returns : goal.returns
returns c = unmapped _ _ (c.list_is_answered.ensures.start _ _ _ _ c.start_within.ensures.starts c.requires)
