use Rattle.std.proofs.Common.{ap}
use Rattle.lsp_acts.specs.Acts.{Queues}
use Rattle.lsp_acts.specs.View.{seen}
use Rattle.lsp_acts.proofs.server_application.ServerApplicationPendingDataService.woken.Goals as goal

pub returns : goal.returns
returns g c = (
  seen c.on_wake.new.self,
  c.in_ok-on_wake.ensures,
  c.take_sent.ensures.sent,
  ap (λ (d : Queues _). (c.on_wake.new.self.server, d)) c.take_sent.ensures.rest,
)
