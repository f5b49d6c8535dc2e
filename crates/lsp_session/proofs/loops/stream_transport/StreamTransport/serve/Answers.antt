use Rattle.std.proofs.Common.{refl}
use Rattle.lsp_session.specs.StreamTransports.{StreamTransportListens}
use Rattle.lsp_session.proofs.Failing.{session_reports_reader, session_reports_writer}
use Rattle.lsp_session.proofs.Knowing.{knows_itself}
use Rattle.lsp_session.proofs.TransportInOrder.{lent_gives}
use Rattle.lsp_session.proofs.TellsBytes.{serves, all_passed}
use Rattle.lsp_session.proofs.loops.stream_transport.StreamTransport.serve.Goals as goal

pub returns-clause-serves : goal.returns-clause-serves
returns-clause-serves g c =
    rw (c.answer.ensures) (serves g.R.Read.remaining g.L.BadContentPolicy.passes g.W.Write.contents
    (StreamTransportListens g.L.BadContentPolicy.ends) _ _ _ (knows_itself _ _) _ _ c.requires _
    c.serve_application-outcome.ensures)

pub returns-clause-passed : goal.returns-clause-passed
returns-clause-passed g c =
    all_passed g.R.Read.remaining g.L.BadContentPolicy.passes g.W.Write.contents
    (StreamTransportListens g.L.BadContentPolicy.ends) _ _ _ (knows_itself _ _) _ _ c.requires _
    c.serve_application-outcome.ensures

pub returns-clause-known : goal.returns-clause-known
returns-clause-known g c =
    rw (c.answer.ensures) (lent_gives g.R.Read.remaining g.L.BadContentPolicy.passes g.W.Write.contents
    (StreamTransportListens g.L.BadContentPolicy.ends) _ _ _ (knows_itself _ _) _ _ c.requires _
    c.serve_application-outcome.ensures _
    refl _ _ _ _ _ _ refl refl refl (λ names. refl) (λ names. refl) (λ names. refl))

pub returns-clause-reader : goal.returns-clause-reader
returns-clause-reader g c =
    rw (c.answer.ensures) (session_reports_reader g.R.Read.remaining g.L.BadContentPolicy.passes g.W.Write.contents
    (StreamTransportListens g.L.BadContentPolicy.ends) _ _ _ (knows_itself _ _) _ _ c.requires _
    c.serve_application-outcome.ensures)

pub returns-clause-writer : goal.returns-clause-writer
returns-clause-writer g c =
    rw (c.answer.ensures) (session_reports_writer g.R.Read.remaining g.L.BadContentPolicy.passes g.W.Write.contents
    (StreamTransportListens g.L.BadContentPolicy.ends) _ _ _ (knows_itself _ _) _ _ c.requires _
    c.serve_application-outcome.ensures)
