use Rattle.example_toml.proofs.Acts.{cleared_by}
use Rattle.example_toml.proofs.server.TomlServer.set.Goals as goal

pub returns-clause-acts : goal.returns-clause-acts
returns-clause-acts c =
    cleared_by c.analyse_all.result c.analyse_all.new.self.documents c.analyse_all.ensures.clear
