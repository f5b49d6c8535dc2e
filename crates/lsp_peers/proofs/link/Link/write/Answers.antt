use Rattle.std.proofs.Common.{◌≤◌, length, sym, subst, arith}
use Rattle.lsp_message.specs.View.{message_view}
use Rattle.lsp_peers.specs.Post.{Line, Carries}
use Rattle.lsp_peers.proofs.LinkLemmas.{sent_frame_written, write_keeps}
use Rattle.lsp_peers.proofs.link.Link.write.Goals as goal

pub returns-in-Ok-clause-ok : goal.returns-in-Ok-clause-ok
returns-in-Ok-clause-ok c = λ post carries.
    let l = c.self.inside in
    let before = subst (λ (line : Line). Carries line post) (sym c.self.view_is) carries in
    let within : l.end ≤ length l.bytes.items = omega (arith, l.bytes.ok.0, c.self.invariant) in
    let sent_frame = sent_frame_written (message_view c.args.message.now) l.bytes.items _
    c.in-Ok.ensures.reads_back in (
      sent_frame.0,
      sent_frame.1,
      write_keeps l.bytes.items l.start l.end c.self.invariant.0 within post before _
          sent_frame.0 sent_frame.2,
    )
