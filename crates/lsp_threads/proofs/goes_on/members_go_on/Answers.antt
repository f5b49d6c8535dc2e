use Rattle.std.proofs.Common.{◌≡◌, ◌-◌, length, Some, Ok, true, ap, arith}
use Rattle.json.specs.Json.{read_key}
use Rattle.json.proofs.Grammar.{read_key-shorter}
use Rattle.lsp_threads.proofs.GoesOn.{more_members, no_more_members}
use Rattle.lsp_threads.proofs.goes_on.members_go_on.Goals as goal

pub members-init : goal.members-init
members-init c = (length c.args.reader.now, omega arith, λ clean. clean, omega arith)

pub members-preserved : goal.members-preserved
members-preserved c =
    let l = c.members in
    let n = l.invariant.0 in
    let name = c.in-Some.name.now in
    let mid = c.next_key.new.self in
    let key : read_key l.reader ≡ Some (Some name, mid) = grind arith in
    let shorter = read_key-shorter l.reader (Some name) mid key in
    let yes : c.in_ok-passes_value.field-0 ≡ true = grind arith in
    let passed = c.in_ok-passes_value.ensures (ap Ok yes) in (
      n - 1,
      omega (arith, l.invariant.1, shorter, passed.3),
      λ clean. l.invariant.2 (more_members n name l.reader mid c.passes_value.new.reader (omega (
        arith,
        l.invariant.1,
        shorter,
      )) key passed clean),
      omega (arith, l.invariant.3, shorter, passed.3),
    )

pub returns : goal.returns
returns c = λ yes.
    let l = c.members in
    l.invariant.2 (no_more_members l.invariant.0 l.reader c.next_key.new.self l.invariant.1 (grind arith))
