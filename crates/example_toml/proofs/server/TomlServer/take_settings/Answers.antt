use Rattle.std.proofs.Common.{refl}
use Rattle.example_toml.proofs.Acts.{nothing, stays}
use Rattle.example_toml.proofs.server.TomlServer.take_settings.Goals as goal

pub returns-in-None-clause-acts : goal.returns-in-None-clause-acts
returns-in-None-clause-acts c = nothing c.args.self.now.texts.documents _ c.new.ensures.items

pub returns-in-None-clause-follow : goal.returns-in-None-clause-follow
returns-in-None-clause-follow c = stays c.args.self.now c.args.self.now refl refl
