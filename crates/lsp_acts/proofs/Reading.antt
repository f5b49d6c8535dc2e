-- A value that an outcome was made of.
use Rattle.std.proofs.Common.{Result, Ok, Err, IfOk}

pub made_of : {X A E : Type 0} (P : X → Type 0) (Q : X → A → Type 0) (r : Result A E) (x : X) → P x
    → IfOk r (λ a. Q x a)
    → IfOk r (λ a. (x : X) × P x × Q x a)
made_of P Q (Ok a) x is holds = (x, is, holds)
made_of P Q (Err e) x is holds = holds
