use Rattle.example_toml.proofs.Acts.{then_does}
use Rattle.example_toml.proofs.server.TomlServerServer.request.Goals as goal

pub returns : goal.returns
returns c =
    let replied = c.in_ok-replies.ensures in
    then_does _ _ _ _ _ _ c.in_ok-acts.ensures c.in_ok-append.ensures.items (
      replied.same,
      record { unknown = replied.unknown; text = replied.text; search = replied.search; other = replied.other },
    )
