use Rattle.std.proofs.Common.{ap}
use Rattle.lsp_acts.specs.Acts.{Queues}
use Rattle.lsp_acts.specs.View.{seen}
use Rattle.lsp_acts.proofs.server_application.ServerApplicationPendingDataService.initialized.Goals as goal

pub returns : goal.returns
returns g c = record {
  output = (
    seen c.on_initialized.new.self,
    c.in_ok-on_initialized.ensures,
    c.take_sent.ensures.sent,
    ap (λ (d : Queues _). (c.on_initialized.new.self.server, d)) c.take_sent.ensures.rest,
  );
  err = tt;
}
