use Rattle.std.proofs.Common.{◌+◌, ◌-◌, ◌≤◌, length, drop, take, ap, ◌∙◌, arith, length-drop}
use Rattle.std.proofs.lemmas.List.{length-take}
use Rattle.lsp_peers.specs.Post.{Line}
use Rattle.lsp_peers.proofs.LinkLemmas.{line_taken}
use Rattle.lsp_peers.proofs.link.Link.remove.Goals as goal

pub returns-else-self-left-clause-arrived : goal.returns-else-self-left-clause-arrived
returns-else-self-left-clause-arrived c =
    let l = c.self.inside in
    let size : c.args.count ≤ length (take (l.end - l.start) (drop l.start l.bytes.items)) = omega (
      arith,
      c.requires,
      ap (λ (x : Line). length x.arrived) c.self.view_is,
    ) in
    let within : l.start + c.args.count ≤ l.end = omega (
      arith,
      size,
      length-take (l.end - l.start)
          (drop l.start l.bytes.items),
      length-drop l.start l.bytes.items,
      c.self.invariant,
    ) in
    ap (λ (x : Line). x.arrived) (line_taken l.bytes.items l.start l.end c.args.count within)
    ∙ ap (λ (x : Line). drop c.args.count x.arrived) c.self.view_is
