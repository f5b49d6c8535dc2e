use Rattle.std.proofs.Common.{refl}
use Rattle.example_toml.proofs.Acts.{follow_by, nothing, requested_by, stays}
use Rattle.example_toml.proofs.server.TomlServer.reconfigure.Goals as goal

pub returns-then-self-clause-acts : goal.returns-then-self-clause-acts
returns-then-self-clause-acts c =
    requested_by c.one.result c.args.self.now.texts.documents _ c.one.ensures c.in_ok-settings_request.ensures

pub returns-then-self-clause-follow : goal.returns-then-self-clause-follow
returns-then-self-clause-follow c =
    follow_by c.one.result c.args.self.now c.args.self.now (stays c.args.self.now c.args.self.now refl refl)

pub returns-in-None-clause-acts : goal.returns-in-None-clause-acts
returns-in-None-clause-acts c = nothing c.args.self.now.texts.documents _ c.new.ensures.items

pub returns-in-None-clause-follow : goal.returns-in-None-clause-follow
returns-in-None-clause-follow c = stays c.args.self.now c.args.self.now refl refl
