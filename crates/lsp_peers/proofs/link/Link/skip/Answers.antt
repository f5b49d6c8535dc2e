use Rattle.lsp_peers.proofs.LinkLemmas.{taken_carries}
use Rattle.std.proofs.Common.{refl}
use Rattle.lsp_peers.proofs.link.Link.skip.Goals as goal

pub returns-in-Whole : goal.returns-in-Whole
returns-in-Whole c = λ post carries.
    taken_carries _ _ post c.in-Whole.count (c.in-Whole.ensures.shows post carries) c.remove.ensures.arrived
    c.remove.ensures.on_way

pub returns-in-More : goal.returns-in-More
returns-in-More c = λ post carries. let none = c.in-More.ensures.shows post carries in
    rw none (refl, carries)
