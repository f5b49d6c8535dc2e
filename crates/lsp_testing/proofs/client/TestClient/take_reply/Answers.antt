use Rattle.std.proofs.Common.{subst, List, Some}
use Rattle.lsp_message.specs.declared.msg.Message as msg
use Rattle.lsp_testing.proofs.Replies.{takes_reply}
use Rattle.lsp_testing.specs.Client.{FindsReply}
use Rattle.lsp_testing.proofs.client.TestClient.take_reply.Goals as goal

pub returns-in-Response-clause-takes : goal.returns-in-Response-clause-takes
returns-in-Response-clause-takes g c =
    let found = subst (λ (ms : List msg.Message). FindsReply c.args.id.now ms (Some c.in_ok-place.place))
    c.as_slice.ensures.value c.in_ok-place.ensures in
    takes_reply c.args.id.now c.args.self.now.traffic.own.items c.in_ok-place.place c.remove.result found.0 found.1
    c.remove.ensures.value c.in-Response.reply c.remove.new.self.items c.in-Response.is c.remove.ensures.by_index.2
