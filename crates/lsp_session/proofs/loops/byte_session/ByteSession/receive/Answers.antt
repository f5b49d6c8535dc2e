use Rattle.std.proofs.Common.{◌∙◌, ◌-◌, length, take, drop, rules}
use Rattle.lsp_session.proofs.ByteHistory.{goes_more, goes_same, within_more}
use Rattle.lsp_session.specs.ByteSessions.{standing, unread}
use Rattle.lsp_session.specs.TransportTurn.{IsOver}
use Rattle.lsp_session.proofs.loops.byte_session.ByteSession.receive.Goals as goal

pub loop-taken-preserved : goal.loop-taken-preserved
loop-taken-preserved g c =
    let start = c.args.self.now in
    let old = c.loop-taken.self in
    let new = c.receive_part-taken.new.self in
    let bytes = c.args.bytes.now in
    let n = c.loop-taken.taken in
    let r = c.receive_part-taken.result in
    let may = g.S.Service.behavior in
    let before = c.loop-taken.invariant in
    let part = c.receive_part-taken.ensures in
    let waits : IsOver (standing old).stage → ⊥ = search rules in
    record {
      within = within_more n r bytes before.within part.within;
      goes = goes_more start.input.limits start.most_pending may (standing start) (standing old) (standing new)
          (unread start) (unread old) (unread new) start.end old.end new.end bytes n r waits before.goes
          (goes_same start.input.limits old.input.limits start.most_pending old.most_pending may (standing old)
          (standing new) (unread old) old.end (take r (take (length bytes - n) (drop n bytes))) (unread new) new.end
          before.kept.0 before.kept.1 part.goes);
      frame = λ _. part.frame;
      paused = λ _. part.paused;
      served = λ _. part.served;
      known = λ first. part.known (before.known first);
      kept = (part.kept.0 ∙ before.kept.0, part.kept.1 ∙ before.kept.1);
    }
