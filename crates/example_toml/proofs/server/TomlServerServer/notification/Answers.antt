use Rattle.example_toml.proofs.Acts.{then_does}
use Rattle.example_toml.proofs.server.TomlServerServer.notification.Goals as goal

pub returns : goal.returns
returns c =
    let noted = c.in_ok-more.ensures in
    then_does _ _ _ _ _ _ c.in_ok-acts.ensures c.in_ok-append.ensures.items (noted.applies, noted.follow, noted.acts)
