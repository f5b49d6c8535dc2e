use Rattle.std.proofs.Common.{◌≡◌, ap, subst, ◌∙◌, rules, Option, Some}
use Rattle.std.specs.Prelude.{string_bytes}
use Rattle.serde_json.specs.View.{view}
use Rattle.lsp_message.specs.Id.{number}
use Rattle.lsp_message.specs.Message.{Message, request}
use Rattle.lsp_testing.specs.Client.{Exchanges}
use Rattle.lsp_testing.proofs.client.TestClient.ask.Goals as goal

pub returns-clause-sends : goal.returns-clause-sends
returns-clause-sends g c =
    let old = c.args.self.now in
    let new = c.send.new.self in
    let id : c.in_ok-clone.field-0 ≡ number old.next_id = search rules in
    let name = c.in_ok-from_str.ensures.ok in
    subst (λ (m : Option Message). Exchanges g.S.Service.behavior old.session old.traffic m new.session new.end
    new.traffic) (ap (λ i. Some (request i (string_bytes c.in_ok-from_str.field-0) (view c.args.params))) id
    ∙ ap (λ n. Some (request (number old.next_id) n (view c.args.params))) name) c.in_ok-send.ensures.passes
