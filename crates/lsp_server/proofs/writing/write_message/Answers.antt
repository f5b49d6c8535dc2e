use Rattle.lsp_threads.proofs.Taken.{gives_nothing}
use Rattle.lsp_threads.specs.Passing.{noted}
use Rattle.lsp_server.proofs.Gathering.{from_behind}
use Rattle.lsp_server.specs.Taken.{taken_of}
use Rattle.lsp_server.proofs.writing.write_message.Goals as goal

pub returns-in-Ok-clause-written : goal.returns-in-Ok-clause-written
returns-in-Ok-clause-written g c =
    from_behind _ _ (taken_of c.args.outgoing.now.taken) (taken_of c.write_behind.new.outgoing.taken)
    (noted c.args.given.now) (noted c.write_behind.new.given) _ c.in-Ok.ensures
    c.write_behind.ensures.written

pub returns-in-Err-clause-given : goal.returns-in-Err-clause-given
returns-in-Err-clause-given g c = gives_nothing c.args.given.now.parts (g.W.Write.contents c.args.writer.now)
