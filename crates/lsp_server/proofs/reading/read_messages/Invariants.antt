use Rattle.std.specs.Prelude.{map}
use Rattle.lsp_message.specs.View.{message_view}
use Rattle.lsp_server.specs.Weighing.{sends_one}
use Rattle.lsp_session.proofs.Handing.{Handed}
use Rattle.lsp_server.proofs.reading.read_messages.Given as goal

-- the messages so far were handed on
abbrev pub invariant-loop : goal.invariant-loop
invariant-loop g l =
    Handed l.limits sends_one (g.B.Read.remaining l.fn.reader) (g.B.Read.remaining l.reader)
    (map message_view l.fn.outlet.sent.messages) (map message_view l.outlet.sent.messages)
