use Rattle.std.proofs.Common.{refl, ap}
use Rattle.std.proofs.Math.Seq.{map-set_same}
use Rattle.toml_outline.specs.Keys.{key_of}
use Rattle.toml_outline.proofs.scanner.Scanner.extend.Goals as goal

pub returns : goal.returns
returns c = record {
  kept = record {
    kept = record { text = refl; header = refl; problems = refl };
    keys = map-set_same key_of c.args.self.now.outline.entries.items c.args.at _ c.index_mut-entry.result.now
        (ap key_of c.index_mut-entry.ensures.value);
  };
  rest = refl;
}
