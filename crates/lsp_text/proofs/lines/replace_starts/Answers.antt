use Rattle.std.proofs.Common.{◌≡◌, ℕ, List, ◌+◌, ◌-◌, ◌++◌, [], length, get_or, take, drop, arith, ap, sym, refl, ◌∙◌}
use Rattle.std.proofs.Common.{subst, append_assoc}
use Rattle.std.proofs.lemmas.List.{length-take-le}
use Rattle.lsp_text.specs.Lines.{starts_in}
use Rattle.lsp_text.proofs.StartLemmas.{InOrder, line_starts-order, line_starts-cut, line_starts-replaced, put-behind}
use Rattle.lsp_text.proofs.StartLemmas.{behind_fit}
use Rattle.lsp_text.proofs.lines.replace_starts.Goals as goal

pub starts_to-kept-requires : goal.starts_to-kept-requires
starts_to-kept-requires c = subst InOrder (sym (c.as_slice.ensures.value ∙ c.requires.index)) (line_starts-order
    c.args.ends c.args.text.now)

pub starts_to-tail-requires : goal.starts_to-tail-requires
starts_to-tail-requires c = subst InOrder (sym (c.as_slice-2.ensures.value ∙ c.requires.index)) (line_starts-order
    c.args.ends c.args.text.now)

pub move_behind-requires-clause-fits : goal.move_behind-requires-clause-fits
move_behind-requires-clause-fits c =
    let ss = c.args.starts.now.items in
    let same : c.as_slice-2.result.now ≡ ss = c.as_slice-2.ensures.value in
    let t = line_starts-cut c.args.ends c.args.to c.starts_to-tail.result c.args.text.now c.as_slice-2.result.now (same
    ∙ c.requires.index) c.requires.within
    c.starts_to-tail.ensures.below c.starts_to-tail.ensures.above c.starts_to-tail.ensures.within in
    let n : length c.as_slice.result.now ≡ length ss = ap length c.as_slice.ensures.value in
    let w = c.starts_to-kept.ensures.within in
    let kl : length (take c.starts_to-kept.result ss) ≡ c.starts_to-kept.result = length-take-le c.starts_to-kept.result
    ss (omega (arith, w, n)) in
    let b = put-behind (take c.starts_to-kept.result ss) c.push_starts-2.new.starts.items (drop c.starts_to-tail.result
    ss) c.put_starts.new.starts.items (c.starts_to-kept.result + c.len.result) c.in_ok-put_starts.ensures.ok
    (omega arith) in
    behind_fit c.args.ends (c.starts_to-kept.result + c.len.result) c.args.from c.args.to (length c.args.new.now)
    c.args.text.now (drop c.starts_to-tail.result ss) c.put_starts.new.starts.items
    b.1 (ap (drop c.starts_to-tail.result) (sym same) ∙ t.1) c.requires.in_order c.requires.within c.requires.fits

pub returns-clause-ok : goal.returns-clause-ok
returns-clause-ok c =
    let p = c.saturating_sub-before.result in
    let ss = c.args.starts.now.items in
    let xs = c.args.text.now in
    let ys = c.args.new.now in
    let i = c.args.from in
    let j = c.args.to in
    let same : c.as_slice.result.now ≡ ss = c.as_slice.ensures.value in
    let same2 : c.as_slice-2.result.now ≡ ss = c.as_slice-2.ensures.value in
    let a = line_starts-cut c.args.ends p c.starts_to-kept.result xs c.as_slice.result.now (same ∙ c.requires.index)
    (omega arith)
    c.starts_to-kept.ensures.below c.starts_to-kept.ensures.above c.starts_to-kept.ensures.within in
    let t = line_starts-cut c.args.ends j c.starts_to-tail.result xs c.as_slice-2.result.now (same2 ∙ c.requires.index)
    c.requires.within
    c.starts_to-tail.ensures.below c.starts_to-tail.ensures.above c.starts_to-tail.ensures.within in
    let ks : List ℕ = take c.starts_to-kept.result ss in
    let ts : List ℕ = drop c.starts_to-tail.result ss in
    let r = line_starts-replaced c.args.ends i j p xs ys ks ts c.requires.in_order c.requires.within
    (omega arith) (ap (take c.starts_to-kept.result) (sym same) ∙ a.0) (ap (drop c.starts_to-tail.result) (sym same2)
    ∙ t.1) in
    let q : List ℕ = starts_in c.args.ends p (take (i - p) (drop p xs)) (get_or ys 0 (get_or xs j 0)) in
    let y : List ℕ = starts_in c.args.ends i ys (get_or xs j 0) in
    let e0 : c.new-between.result.items ≡ [] = c.new-between.ensures.items in
    let e2 : c.push_starts.new.starts.items ≡ c.new-between.result.items ++ q = cc (
      c.in_ok-push_starts.ensures,
      c.byte_or.ensures,
      c.byte_or-next.ensures,
    ) in
    let e3 : c.push_starts-2.new.starts.items ≡ c.push_starts.new.starts.items ++ y = cc (
      c.in_ok-push_starts-2.ensures,
      c.byte_or-next.ensures,
    ) in
    let e4 : c.push_starts-2.new.starts.items ≡ q ++ y = (rw (e3, e2, e0) refl) in
    let n : length c.as_slice.result.now ≡ length ss = ap length same in
    let w = c.starts_to-kept.ensures.within in
    let kl : length ks ≡ c.starts_to-kept.result = length-take-le c.starts_to-kept.result ss (omega (arith, w, n)) in
    let b = put-behind ks c.push_starts-2.new.starts.items ts c.put_starts.new.starts.items (c.starts_to-kept.result +
    c.len.result) c.in_ok-put_starts.ensures.ok (omega arith) in
    let f : ks ++ c.push_starts-2.new.starts.items ≡ (ks ++ q) ++ y = rw e4 (sym (append_assoc ks q y)) in
    c.move_behind.ensures ∙ (rw (b.0, b.1, f) r)
