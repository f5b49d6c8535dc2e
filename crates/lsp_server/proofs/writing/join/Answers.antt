use Rattle.lsp_threads.proofs.Taken.{gives_nothing}
use Rattle.lsp_server.proofs.writing.join.Goals as goal

pub returns-then-is_ok-clause-given : goal.returns-then-is_ok-clause-given
returns-then-is_ok-clause-given g c = gives_nothing c.args.given.now.parts (g.W.Write.contents c.args.writer.now)
