-- The side that a step names, and the other one.
use Rattle.lsp_peers.specs.declared.step.Side.{Side}
use Rattle.lsp_peers.specs.declared.step.Side.TheVariants.{A, B}
use Rattle.lsp_peers.specs.declared.step.Step.{Step}
use Rattle.lsp_peers.specs.declared.step.Step.TheVariants.{Register, Tell, Pass, Take, Answer, Refuse, Cancel, GiveUp}

-- the side that takes the step, or that the bytes arrive at
abbrev pub side_of : Step → Side
side_of (Register side method params payload) = side
side_of (Tell side method params) = side
side_of (Pass side bytes) = side
side_of (Take side label) = side
side_of (Answer side id value) = side
side_of (Refuse side id code message) = side
side_of (Cancel side id) = side
side_of (GiveUp side id) = side

abbrev pub other : Side → Side
other A = B
other B = A
