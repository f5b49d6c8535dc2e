use Rattle.std.proofs.Common.{ap, ◌∙◌}
use Rattle.lsp_session.proofs.Driver.{none_pending, not_done}
use Rattle.lsp_session.proofs.SessionDrive.{begins, breaks_at, ends_at, fails_at, stands_on}
use Rattle.lsp_session.specs.ByteSession.{Standing}
use Rattle.lsp_session.specs.ByteSessions.{standing}
use Rattle.lsp_session.specs.TransportTurn.{IsOver}
use Rattle.lsp_session.proofs.loops.stream_session.drive.Goals as goal

pub loop-init : goal.loop-init
loop-init g c = record {
  sent = ap (λ (b : Standing _). b.pending) c.new-session.ensures.starts;
  limits = c.new-session.ensures.limits;
  most = c.new-session.ensures.most;
  served = c.new-session.ensures.served;
  known = c.new-session.ensures.known;
  stood = begins c.args.limits g.S.Service.behavior c.args.service (g.W.Write.contents c.args.writer.now)
      (g.R.Read.remaining c.args.reader.now) c.new-session.result c.new-session.ensures.starts
      c.new-session.ensures.unread;
}

pub loop-preserved : goal.loop-preserved
loop-preserved g c =
    let before = c.loop.invariant in
    let old = c.loop.session in
    let mid = c.read_some.new.session in
    let new = c.write_pending.new.session in
    let waits : IsOver old.core.stage → ⊥ = λ over. not_done c.is_done.result c.if-is_done.false
    (c.is_done.ensures.undone over before.sent) in
    record {
      sent = none_pending new mid c.in_default-write_pending.ensures.sent;
      limits = c.write_pending.ensures.bounds.0 ∙ c.read_some.ensures.bounds.0 ∙ before.limits;
      most = c.write_pending.ensures.bounds.1 ∙ c.read_some.ensures.bounds.1 ∙ before.most;
      served = c.write_pending.ensures.served (c.read_some.ensures.served before.served);
      known = c.write_pending.ensures.known (c.read_some.ensures.known before.known);
      stood = stands_on c.args.limits g.S.Service.behavior c.args.service (g.W.Write.contents c.args.writer.now) old mid
          before.limits before.most c.read_some.ensures.bounds before.sent waits before.known
          (g.R.Read.remaining c.args.reader.now) (g.R.Read.remaining c.loop.reader)
          (g.R.Read.remaining c.read_some.new.reader) (g.W.Write.contents c.loop.writer) before.stood
          c.in_default.ensures.read new (g.W.Write.contents c.write_pending.new.writer)
          c.in_default-write_pending.ensures.ok c.in_default-write_pending.ensures.sent c.write_pending.ensures.unread
          c.write_pending.ensures.end;
    }

pub returns-in-Err : goal.returns-in-Err
returns-in-Err g c =
    let before = c.loop.invariant in
    let old = c.loop.session in
    let waits : IsOver old.core.stage → ⊥ = λ over. not_done c.is_done.result c.if-is_done.false
    (c.is_done.ensures.undone over before.sent) in
    let gives = fails_at c.args.limits g.S.Service.behavior c.args.service (g.W.Write.contents c.args.writer.now) old
    (g.R.Read.remaining c.args.reader.now) (g.R.Read.remaining c.loop.reader)
    (g.R.Read.remaining c.read_some.new.reader) (g.W.Write.contents c.loop.writer) c.in-Err.fault before.limits waits
    before.served before.stood c.in-Err.ensures.kept.1 c.in-Err.ensures.fault in
    rw (
      c.leave.ensures.answer,
      c.leave.ensures.service ∙ ap (λ b. (standing b).service) c.in-Err.ensures.kept.0,
    ) gives

pub returns-in-Err-write_pending : goal.returns-in-Err-write_pending
returns-in-Err-write_pending g c =
    let before = c.loop.invariant in
    let old = c.loop.session in
    let mid = c.read_some.new.session in
    let waits : IsOver old.core.stage → ⊥ = λ over. not_done c.is_done.result c.if-is_done.false
    (c.is_done.ensures.undone over before.sent) in
    let gives = breaks_at c.args.limits g.S.Service.behavior c.args.service (g.W.Write.contents c.args.writer.now) old
    mid before.limits before.most c.read_some.ensures.bounds before.sent waits before.known
    (g.R.Read.remaining c.args.reader.now) (g.R.Read.remaining c.loop.reader)
    (g.R.Read.remaining c.read_some.new.reader) (g.W.Write.contents c.loop.writer) before.stood
    c.in_default.ensures.read (g.W.Write.contents c.write_pending.new.writer) c.in-Err-write_pending.fault
    c.in-Err-write_pending.ensures.fault c.write_pending.ensures.begun c.in-Err-write_pending.ensures.some in
    rw (
      c.leave-in-Err-write_pending.ensures.answer,
      c.leave-in-Err-write_pending.ensures.service
          ∙ ap (λ b. (standing b).service) c.in-Err-write_pending.ensures.kept,
    ) gives

pub returns : goal.returns
returns g c =
    let after = c.loop.invariant in
    let gives = ends_at c.args.limits g.S.Service.behavior c.args.service (g.W.Write.contents c.args.writer.now)
    c.loop.session (g.R.Read.remaining c.args.reader.now) (g.R.Read.remaining c.loop.reader)
    (g.W.Write.contents c.loop.writer) after.limits after.served after.known after.stood in
    rw (c.into_parts.ensures.answer, c.into_parts.ensures.service) gives
