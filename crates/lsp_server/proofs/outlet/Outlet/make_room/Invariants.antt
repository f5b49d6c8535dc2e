use Rattle.std.proofs.Common.{◌≡◌}
use Rattle.lsp_server.proofs.outlet.Outlet.make_room.Given as goal

-- nothing was sent
abbrev pub invariant-loop : goal.invariant-loop
invariant-loop g l = l.self.sent.messages ≡ l.fn.self.sent.messages
