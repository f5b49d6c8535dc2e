use Rattle.lsp_types.proofs.ReadLemmas.{added}
use Rattle.std.proofs.Common.{refl}
use Rattle.lsp_types.proofs.json.members.Members.named.Goals as goal

pub returns : goal.returns
returns g c = record { same = refl; adds = added _ _ _ _ c.and.ensures c.named-more.ensures }
