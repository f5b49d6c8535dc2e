use Rattle.std.proofs.Common.{◌≡◌, drop, map}
use Rattle.json.specs.Tape.{node_token}
use Rattle.lsp_json.specs.Fits.{left_after_all}
use Rattle.lsp_json.proofs.fits.fits.Given as goal

abbrev pub invariant-loop-node : goal.invariant-loop-node
invariant-loop-node l =
    left_after_all (map node_token l.nodes) 127 ≡ left_after_all (map node_token (drop l.node-index l.nodes)) l.left
