use Rattle.lsp_session.proofs.ClientReading.{client_reads}
use Rattle.lsp_session.specs.PassingBytes.{HearsLast, ReadsFrame}
use Rattle.lsp_session.specs.Session.{SessionOut}
use Rattle.lsp_session.specs.SessionBytes.{Ends, ReadsMessage}
use Rattle.lsp_session.proofs.laws.clients.client_reads_what_was_sent.Goals as goal

pub returns : goal.returns
returns g c = record {
  bytes = λ limit old new text left before written answer small gives.
      client_reads before written small (ReadsMessage limit) (SessionOut g.S.Service.behavior old new) text
      (Ends limit left answer) answer gives;
  policy = λ limit old new text left first last before written answer small gives.
      client_reads before written small (ReadsFrame g.L.BadContentPolicy.passes limit) (SessionOut
      g.S.Service.behavior old new) (text, first)
      (λ by stop at. Ends limit left answer by stop at.0 × HearsLast
      g.L.BadContentPolicy.passes limit stop at last) answer gives;
}
