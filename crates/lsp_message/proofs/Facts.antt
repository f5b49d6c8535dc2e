-- Two clauses at the exit of a function that is proved by hand.
use seplogic.Ra.Ura.{Ura}
use base.Logic.{SProp, ent, emp, sep, via, emp∗, comm∗, mono_l, mono_r}
use contract.Monad.{fact, fact_i}

fact_after : {M : Type 1} (𝓤 : Ura M) (P : SProp 𝓤) {φ : Type 0} → φ → ent 𝓤 P (sep 𝓤 P (fact 𝓤 φ))
fact_after 𝓤 P {φ} x = via 𝓤 (sep 𝓤 (emp 𝓤) P) (emp∗ 𝓤 P) (via 𝓤 (sep 𝓤 (fact 𝓤 φ) P) (mono_l 𝓤 P (fact_i 𝓤 φ
    (emp 𝓤) x)) (comm∗ 𝓤 (fact 𝓤 φ) P))

-- after the first clause, also the second one
pub and_fact : {M : Type 1} (𝓤 : Ura M) (P : SProp 𝓤) {φ ψ : Type 0} → ψ
    → ent 𝓤 (sep 𝓤 P (fact 𝓤 φ)) (sep 𝓤 P (sep 𝓤 (fact 𝓤 φ) (fact 𝓤 ψ)))
and_fact 𝓤 P {φ} y = mono_r 𝓤 P (fact_after 𝓤 (fact 𝓤 φ) y)
