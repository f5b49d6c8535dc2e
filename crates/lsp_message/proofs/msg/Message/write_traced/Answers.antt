use Rattle.std.proofs.Common.{ap}
use Rattle.lsp_message.specs.View.{message_view}
use Rattle.lsp_message.proofs.Readings.{written_readably}
use Rattle.lsp_message.proofs.Writings.{message_written}
use Rattle.lsp_message.proofs.msg.Message.write_traced.Goals as goal

pub returns-clause-frame : goal.returns-clause-frame
returns-clause-frame g c =
    message_written _ _ _ _ c.write_body.result c.in_ok-body.ensures.text c.in_ok-body.ensures.reads_back
    c.write_body.ensures.ok c.write_body.ensures.begun (λ refused. ap g.W.Write.contents
    (c.write_body.ensures.memory refused))

pub returns-clause-reads_back : goal.returns-clause-reads_back
returns-clause-reads_back g c =
    written_readably (message_view c.args.self.now) _ _ _ c.write_body.result c.write_body.ensures.length
    c.in_ok-body.ensures.text c.in_ok-body.ensures.reads_back c.write_body.ensures.ok
