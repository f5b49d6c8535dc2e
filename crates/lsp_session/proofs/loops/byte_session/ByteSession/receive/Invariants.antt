use Rattle.std.proofs.Common.{◌≤◌, ◌+◌, ◌-◌, length, take}
use Rattle.lsp_session.proofs.ByteHistory.{open_count}
use Rattle.lsp_session.specs.ByteSession.{Goes}
use Rattle.lsp_session.specs.ByteSessions.{standing, unread, EndsAtFrame, HasServed, KeepsBounds, KnowsEnd}
use Rattle.lsp_session.specs.ByteSessions.{PausesAtFrame}
use Rattle.lsp_session.proofs.loops.byte_session.ByteSession.receive.Given as goal

abbrev pub invariant-loop-taken : goal.invariant-loop-taken
invariant-loop-taken g l = record {
  within : l.taken ≤ length l.bytes;
  goes : Goes l.fn.self.input.limits l.fn.self.most_pending g.S.Service.behavior (standing l.fn.self) (unread l.fn.self)
      l.fn.self.end (take l.taken l.bytes) (standing l.self) (unread l.self) l.self.end;
  frame : EndsAtFrame l.fn.self → EndsAtFrame l.self;
  paused : PausesAtFrame l.fn.self → PausesAtFrame l.self;
  served : HasServed l.fn.self → HasServed l.self;
  known : KnowsEnd l.fn.self → KnowsEnd l.self;
  kept : KeepsBounds l.fn.self l.self;
}

abbrev pub decreases-loop-taken : goal.decreases-loop-taken
decreases-loop-taken g l = length l.bytes - l.taken + open_count l.self.core.stage
