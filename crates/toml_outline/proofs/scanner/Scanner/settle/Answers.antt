use Rattle.std.proofs.Common.{sym, ◌≤◌, length, rules, arith}
use Rattle.std.proofs.lemmas.List.{length-map}
use Rattle.toml_outline.specs.Keys.{key_of}
use Rattle.toml_outline.specs.Scanned.{keys_of}
use Rattle.toml_outline.proofs.Keeping.{keys_with_kind, with_kind_past}
use Rattle.toml_outline.proofs.scanner.Scanner.settle.Goals as goal
use Rattle.toml_outline.proofs.scanner.Scanner.settle.Goals.{in_default-via-in-None-1}
use Rattle.toml_outline.proofs.scanner.Scanner.settle.Goals.{in_default-via-in-Some+else-at-len}

pub returns-then-at-len-clause-keys : goal.returns-then-at-len-clause-keys
returns-then-at-len-clause-keys c =
    let entries = c.args.self.now.outline.entries in
    rw c.in-Some.is (keys_with_kind entries.items c.in-Some.at c.settle_entry.new.entry c.index_mut.result.now
    c.args.kind
    (omega (arith, entries.ok.0)) c.index_mut.ensures.value c.settle_entry.ensures)

pub returns-in_default-clause-keys : goal.returns-in_default-clause-keys
returns-in_default-clause-keys c =
    let entries = c.args.self.now.outline.entries in
    elim c.in_default.branch [
      | in_default-via-in-None-1 w ↦ search rules
      | in_default-via-in-Some+else-at-len w ↦
          let past : length (keys_of c.args.self.now.outline) ≤ w.in-Some.at =
          omega (arith, entries.ok.0, length-map entries.items key_of) in
          rw w.in-Some.is (sym (with_kind_past (keys_of c.args.self.now.outline) w.in-Some.at c.args.kind past))
    ]
