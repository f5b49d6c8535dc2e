use Rattle.std.proofs.Common.{subst, codes, Some}
use Rattle.serde_json.specs.Data.{Data}
use Rattle.lsp_message.specs.Message.{notification}
use Rattle.lsp_testing.specs.Client.{Passes}
use Rattle.lsp_testing.proofs.client.TestClient.initialize.Goals as goal

pub returns : goal.returns
returns g c = (
  c.expect_result.new.self,
  c.in_ok-result.ensures,
  subst (λ (params : Data). Passes g.S.Service.behavior c.expect_result.new.self
      (Some (notification (codes "initialized") params)) c.notify.new.self) c.no_members.ensures c.in_ok-notify.ensures,
)
