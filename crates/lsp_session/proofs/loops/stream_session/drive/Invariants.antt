use Rattle.std.proofs.Common.{◌≡◌, []}
use Rattle.lsp_session.proofs.SessionDrive.{Stood}
use Rattle.lsp_session.specs.ByteSessions.{standing, HasServed, KnowsEnd}
use Rattle.lsp_session.proofs.loops.stream_session.drive.Given as goal

abbrev pub invariant-loop : goal.invariant-loop
invariant-loop g l = record {
  sent : (standing l.session).pending ≡ [];
  limits : l.session.input.limits ≡ l.fn.limits;
  most : l.session.most_pending ≡ 0;
  served : HasServed l.session;
  known : KnowsEnd l.session;
  stood : Stood l.fn.limits g.S.Service.behavior l.fn.service (g.W.Write.contents l.fn.writer)
      (g.R.Read.remaining l.fn.reader) l.session (g.R.Read.remaining l.reader) (g.W.Write.contents l.writer);
}
