-- What holds of the value of a result.
use Rattle.std.specs.Prelude.{Result, Ok, Err, IfOk}

pub if_ok : {A E : Type 0} {P Q : A → Type 0} (r : Result A E) → ((a : A) → P a → Q a) → IfOk r P → IfOk r Q
if_ok (Ok a) to holds = to a holds
if_ok (Err e) to holds = tt
