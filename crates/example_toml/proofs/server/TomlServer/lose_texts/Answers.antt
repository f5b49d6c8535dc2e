use Rattle.std.proofs.Common.{refl}
use Rattle.example_toml.proofs.Acts.{loses_none, lost_by}
use Rattle.example_toml.proofs.server.TomlServer.lose_texts.Goals as goal

pub returns-then-not-take : goal.returns-then-not-take
returns-then-not-take c = loses_none c.args.self.now _ c.new.ensures.items

pub returns : goal.returns
returns c =
    let lost = c.invalidate_all.ensures in
    lost_by c.invalidate_all.result c.args.self.now (record c.args.self.now { texts = c.invalidate_all.new.self })
    lost.lost lost.follow refl lost.acts
