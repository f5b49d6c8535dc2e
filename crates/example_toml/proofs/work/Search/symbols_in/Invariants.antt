use Rattle.std.proofs.Common.{map, string_bytes, take}
use Rattle.std.specs.Arc.{arc_value}
use Rattle.toml_outline.specs.Keys.{key_of}
use Rattle.toml_outline.specs.Names.{name_of}
use Rattle.toml_outline.specs.Scanned.{keys_of}
use Rattle.example_toml.specs.Searches.{AreSymbolsOf}
use Rattle.example_toml.proofs.work.Search.symbols_in.Given as goal

-- the symbols so far are those of the keys so far
abbrev pub invariant-loop-index : goal.invariant-loop-index
invariant-loop-index g l = AreSymbolsOf l.self.encoding (string_bytes l.self.query) (string_bytes l.source.uri)
    (arc_value l.source.text) (name_of l.outline.text.now (keys_of l.outline)) 0
    (map key_of (take l.index l.entries)) l.found.items
