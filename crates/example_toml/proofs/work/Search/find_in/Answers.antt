use Rattle.std.proofs.Common.{◌≡◌, subst, ℕ, List, rules}
use Rattle.std.specs.Arc.{arc_value}
use Rattle.toml_outline.specs.Reading.{IsOutlineOf}
use Rattle.example_toml.proofs.Symbols.{finds_keys}
use Rattle.example_toml.proofs.work.Search.find_in.Goals as goal

pub returns : goal.returns
returns g c =
    let text = arc_value c.args.source.now.text in
    let outline = c.in_ok-outline.outline in
    let held : c.as_str.result.now ≡ text.bytes = search rules in
    let is : IsOutlineOf text.bytes outline =
    subst (λ (t : List ℕ). IsOutlineOf t outline) held c.in_ok-outline.ensures in
    finds_keys c.args.self.now.encoding _ _ text outline is c.symbols_in.result c.symbols_in.ensures
