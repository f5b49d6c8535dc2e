use Rattle.lsp_threads.specs.Passing.{noted}
use Rattle.lsp_server.proofs.Gathering.{from_nothing}
use Rattle.lsp_server.proofs.writing.write_all.Goals as goal

pub returns-clause-written : goal.returns-clause-written
returns-clause-written g c =
    from_nothing c.write_messages-answer.new.outgoing.taken c.finish-taken.result c.new-given.result
    c.write_messages-answer.result (noted c.write_messages-answer.new.given)
    c.new-given.ensures.parts c.finish-taken.ensures c.write_messages-answer.ensures.written
