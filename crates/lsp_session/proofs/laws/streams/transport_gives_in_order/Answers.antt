use Rattle.lsp_session.specs.SessionOutcome.{StopsFor}
use Rattle.lsp_session.specs.Session.{SessionOut}
use Rattle.lsp_session.specs.SessionLaws.{Both}
use Rattle.lsp_session.specs.StreamTransports.{StreamTransportListens}
use Rattle.lsp_session.proofs.Knowing.{knows_service}
use Rattle.lsp_session.proofs.TransportInOrder.{gives_in_order, keeps_ends}
use Rattle.lsp_session.proofs.laws.streams.transport_gives_in_order.Goals as goal

pub returns : goal.returns
returns g c = λ old new before after reason answer unused talks.
    let listens = StreamTransportListens g.L.BadContentPolicy.ends in
    let may = g.S.Service.behavior in
    let P = Both (SessionOut may old new) (StopsFor reason) in
    let knows = knows_service may old new reason in (
      gives_in_order g.R.Read.remaining g.L.BadContentPolicy.passes g.W.Write.contents listens P (SessionOut may old
          new) reason knows before after unused answer talks,
      keeps_ends g.R.Read.remaining g.L.BadContentPolicy.passes g.W.Write.contents listens P (SessionOut may old new)
          reason knows before after unused answer talks,
    )
