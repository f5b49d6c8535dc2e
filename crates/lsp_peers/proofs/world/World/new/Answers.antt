use Rattle.std.proofs.Common.{[]}
use Rattle.lsp_peers.proofs.WorldLemmas.{world_of}
use Rattle.lsp_peers.specs.declared.step.Side.TheVariants.{A}
use Rattle.lsp_peers.proofs.world.World.new.Goals as goal

pub returns : goal.returns
returns c = world_of A _ (λ side. []) [] (record { lawful = tt; near_side = c.new.ensures; far_side = c.new-2.ensures })
