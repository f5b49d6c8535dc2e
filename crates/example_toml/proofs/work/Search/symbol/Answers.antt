use Rattle.std.proofs.Common.{refl}
use Rattle.example_toml.proofs.work.Search.symbol.Goals as goal

pub returns : goal.returns
returns c = rw c.new.ensures (record {
  name = refl;
  location = record { uri = c.in_ok-uri.uri; range = c.range_of-range.result };
  stands = refl;
  under = c.in_ok-uri.ensures.cases;
  start = c.range_of-range.ensures.start;
  end = c.range_of-range.ensures.end;
})
