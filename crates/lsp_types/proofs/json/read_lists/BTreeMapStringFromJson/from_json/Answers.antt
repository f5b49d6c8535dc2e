use Rattle.serde_json.specs.Find.{as_object}
use Rattle.lsp_types.specs.Reads.{EachMember, InSome}
use Rattle.lsp_types.proofs.ReadLemmas.{of_same}
use Rattle.lsp_types.proofs.json.read_lists.BTreeMapStringFromJson.from_json.Goals as goal

pub returns-in-Some : goal.returns-in-Some
returns-in-Some g c = of_same
    (λ json values. InSome (λ members. EachMember g.T.FromJson.reads members values.entries) (as_object json))
    c.map_of.result c.in-Some.ensures c.map_of.ensures

pub returns-in-Ok : goal.returns-in-Ok
returns-in-Ok g c = of_same
    (λ json values. InSome (λ members. EachMember g.T.FromJson.reads members values.entries) (as_object json))
    c.map_of-map.result c.in-Ok.ensures c.map_of-map.ensures
