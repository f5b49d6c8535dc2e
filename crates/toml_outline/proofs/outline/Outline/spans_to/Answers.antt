use Rattle.std.proofs.Common.{◌≡◌, ◌∙◌, sym, ap, ℕ, ◌+◌, ◌-◌, ◌<◌, ◌++◌, List, length, reverse, slice_get, take}
use Rattle.std.proofs.Common.{Option, None, Some, option_and_then, option_map, arith}
use Rattle.std.proofs.lemmas.List.{length-map, take_all}
use Rattle.std.specs.Borrow.{Bor}
use Rattle.toml_outline.specs.declared.outline.Entry.{Entry}
use Rattle.toml_outline.specs.Keys.{Key, key_of}
use Rattle.toml_outline.specs.Names.{parts_above, parts_to}
use Rattle.toml_outline.specs.Scanned.{keys_of}
use Rattle.toml_outline.proofs.NameLaws.{above_more, above_none, above_over, parts_more}
use Rattle.toml_outline.proofs.outline.Outline.spans_to.Goals as goal
use Rattle.toml_outline.proofs.outline.Outline.spans_to.Goals.{else-loop-test, then-loop-test+in_default-entry}

pub loop-preserved : goal.loop-preserved
loop-preserved c =
    let entries = c.args.self.now.entries in
    let keys : List Key = keys_of c.args.self.now in
    let key : Key = key_of c.in-Some-entry.parent.now in
    let left : ℕ = length keys - c.loop.counter in
    let some : 0 < left = omega (arith, entries.ok.0, length-map entries.items key_of) in
    let less : left - 1 ≡ length keys - (c.loop.counter + 1) = omega arith in
    let found : option_and_then (slice_get keys) c.loop.next ≡ Some key =
    sym c.entry-in-loop.ensures
    ∙ ap (λ (o : Option (Bor Entry)). option_map (λ (e : Bor Entry). key_of e.now) o) c.in-Some-entry.is in
    let whole : take c.len.result c.as_slice-in-loop.result.now ≡ key.parts =
    rw c.as_slice-in-loop.ensures.value (take_all c.len.result key.parts
    (omega (arith, c.in-Some-entry.parent.now.parts.ok.0))) in
    let total = parts_to keys c.args.count (slice_get keys c.args.index) in
    let before : total ≡ (parts_above keys (left - 1) key.parent ++ key.parts) ++ reverse c.loop.spans.items =
    rw (above_more keys left c.loop.next key some found) at c.loop.invariant in
    rw (c.in_ok-add_backward-2.ensures, whole, ← less)
    (parts_more total (parts_above keys (left - 1) key.parent) key.parts c.loop.spans.items before)

pub returns : goal.returns
returns c =
    let entries = c.args.self.now.entries in
    let keys : List Key = keys_of c.args.self.now in
    let left : ℕ = length keys - c.loop.counter in
    let all : parts_to keys c.args.count (slice_get keys c.args.index) ≡ reverse c.loop.spans.items =
    elim c.loop-test.branch [
      | else-loop-test w ↦
          let none : left ≡ 0 = omega (arith, entries.ok.0, length-map entries.items key_of) in
          rw (none, above_none keys c.loop.next) at c.loop.invariant
      | then-loop-test+in_default-entry w ↦
          let over : option_and_then (slice_get keys) c.loop.next ≡ None =
          sym w.entry-in-loop.ensures
          ∙ ap (λ (o : Option (Bor Entry)). option_map (λ (e : Bor Entry). key_of e.now) o) w.in_default-entry.is in
          rw (above_over keys left c.loop.next over) at c.loop.invariant
    ] in
    c.reverse.ensures.items ∙ sym all
