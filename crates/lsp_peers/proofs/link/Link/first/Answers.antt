use Rattle.std.proofs.Common.{◌∙◌, ◌-◌, ◌^◌, ◌<◌, ◌≤◌, ℕ, List, length, take, drop, ap, sym, subst, arith}
use Rattle.lsp_message.specs.Front.{front_of}
use Rattle.lsp_message.specs.declared.frame.Front.{Front}
use Rattle.lsp_peers.specs.Post.{Line, Carries, Shows, line_of}
use Rattle.lsp_peers.proofs.LinkLemmas.{first_shows}
use Rattle.lsp_peers.proofs.link.Link.first.Goals as goal

pub returns-clause-shows : goal.returns-clause-shows
returns-clause-shows c = λ post carries.
    let l = c.self.inside in
    let before = subst (λ (line : Line). Carries line post) (sym c.self.view_is) carries in
    let within : l.end ≤ length l.bytes.items = omega (arith, l.bytes.ok.0, c.self.invariant) in
    let room : length l.bytes.items < 2 ^ 64 = omega (
      arith,
      c.deref.type_inv.0,
      ap (λ (b : List ℕ). length b)
          c.deref.ensures.value,
    ) in
    let seen = ap (λ (b : List ℕ). front_of (take (l.end - l.start) (drop l.start b))) c.deref.ensures.value in
    subst (λ (line : Line). Shows line post c.front.result) c.self.view_is (subst (λ (f : Front). Shows
    (line_of l.bytes.items l.start l.end) post f)
    (sym (c.front.ensures.value ∙ seen)) (first_shows l.bytes.items l.start l.end c.self.invariant.0 within post before
    room))
