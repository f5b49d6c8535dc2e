use Rattle.std.proofs.Common.{subst}
use Rattle.std.specs.Prelude.{Option, Result}
use Rattle.serde_json.specs.declared.value.Value.{Value}
use Rattle.lsp_message.specs.Id.{Id, number}
use Rattle.lsp_message.specs.declared.msg.ResponseError.{ResponseError}
use Rattle.lsp_testing.specs.Client.{TakesReply}
use Rattle.lsp_testing.proofs.client.TestClient.request.Goals as goal

pub returns-in-Some : goal.returns-in-Some
returns-in-Some g c =
    let old = c.ask.new.self.traffic.own.items in
    let new = c.take_reply.new.self.traffic.own.items in
    let taken = subst (λ (i : Id). TakesReply i old c.take_reply.result new) c.in_ok-id.ensures.id
    c.take_reply.ensures.takes in (
      c.ask.new.self,
      c.in_ok-id.ensures.sends,
      subst (λ (o : Option (Result Value ResponseError)). TakesReply (number c.args.self.now.next_id) old o new)
          c.in-Some.is taken,
      c.take_reply.ensures.rest,
    )
