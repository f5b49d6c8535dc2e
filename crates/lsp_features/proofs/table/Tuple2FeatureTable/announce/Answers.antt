use Rattle.std.proofs.Common.{rules}
use Rattle.serde_json.specs.View.{members_view, view}
use Rattle.lsp_features.proofs.Announcing.{first_announced}
use Rattle.lsp_features.proofs.table.Tuple2FeatureTable.announce.Goals as goal

pub returns : goal.returns
returns g c = first_announced g.M.Feature.member (g.M.Feature.offers c.args.server.now)
    (g.Rest.FeatureTable.announces c.args.server.now) (view c.in_ok-offer.offer)
    (members_view c.args.members.now.entries) (members_view c.put.new.map.entries) _ c.announce.result (search rules)
    (search rules) (search rules)
