use Rattle.lsp_session.proofs.ReadsOn.{reads_on}
use Rattle.lsp_session.specs.SessionOutcome.{StopsFor}
use Rattle.lsp_session.specs.Session.{SessionOut}
use Rattle.lsp_session.specs.SessionLaws.{Both}
use Rattle.lsp_session.proofs.laws.streams.transport_reads_on.Goals as goal

pub returns : goal.returns
returns g c = λ old new before after reason answer never unused talks.
    reads_on g.R.Read.remaining g.L.BadContentPolicy.passes g.L.BadContentPolicy.ends g.W.Write.contents never
    (Both (SessionOut g.S.Service.behavior old new) (StopsFor reason)) answer before after unused talks
