use Rattle.std.proofs.Common.{subst}
use Rattle.std.specs.Prelude.{Result}
use Rattle.serde_json.specs.declared.value.Value.{Value}
use Rattle.lsp_message.specs.declared.msg.ResponseError.{ResponseError}
use Rattle.lsp_testing.specs.Client.{Asks}
use Rattle.lsp_testing.proofs.client.TestClient.expect_result.Goals as goal

pub returns-in-Ok : goal.returns-in-Ok
returns-in-Ok g c = subst (λ (o : Result Value ResponseError). Asks g.S.Service.behavior c.args.self.now
    c.args.method.now c.args.params o c.request.new.self) c.in-Ok.is c.in_ok-result.ensures
