use Rattle.std.proofs.Common.{arith, ap, length-append, ◌∙◌, ℕ, List, length, ◌∷◌, ◌++◌}
use Rattle.std.specs.Fmt.{decimal}
use Rattle.std.specs.Prelude.{codes}
use Rattle.test_laws.proofs.messages.fronts.Goals as goal

pub returns-clause-whole : goal.returns-clause-whole
returns-clause-whole c =
    let body = c.in_ok-text.ensures.0 in
    let is = c.as_bytes-bytes.ensures.value ∙ c.in_ok-text.ensures.2 in
    let all = ap (λ (l : List ℕ). length l) is in
    let head = length-append (codes "Content-Length: ") (decimal (length body) ++ 13 ∷ 10 ∷ 13 ∷ 10 ∷ body) in
    let tail = length-append (decimal (length body)) (13 ∷ 10 ∷ 13 ∷ 10 ∷ body) in
    rw (
      c.front.ensures.value,
      c.as_bytes.ensures.value,
      c.in_ok-push_str.ensures.bytes,
      c.as_bytes-bytes.ensures.value,
      c.in_ok-text.ensures.2,
    ) (c.front_of_frame.ensures.whole body c.args.rest.now (omega (arith, c.as_bytes-bytes.type_inv, all, head, tail)))
