use Rattle.std.proofs.Common.{take, string_bytes}
use Rattle.lsp_documents.specs.Known.{copied}
use Rattle.example_toml.specs.Searches.{AreFound}
use Rattle.example_toml.proofs.work.Search.find.Given as goal

-- the keys that are found so far are those of the texts so far
abbrev pub invariant-loop-number : goal.invariant-loop-number
invariant-loop-number g l = AreFound l.self.encoding (string_bytes l.self.query) (copied (take l.number l.sources))
    l.found.items
