use Rattle.std.proofs.Common.{[], ◌∷◌}
use Rattle.lsp_dispatch.specs.Dispatch.{Dispatches}
use Rattle.lsp_dispatch.specs.DispatchCalls.{delivers}
use Rattle.lsp_dispatch.specs.DispatchLaw.{RepliesOnce}
use Rattle.lsp_message.specs.View.{message_view}
use Rattle.test_laws.proofs.Answered.{two_answers}
use Rattle.test_laws.proofs.dispatch.answers_to_two.Goals as goal

pub returns-clause-right : goal.returns-clause-right
returns-clause-right c =
    let calls = delivers (message_view c.args.first) ∷ delivers (message_view c.args.second) ∷ [] in
    two_answers (λ answers. Dispatches [] calls answers) (message_view c.args.first) (message_view c.args.second) _ _ _
    _ _
    c.default-dispatcher.ensures
    c.in_ok-answer.ensures.ok c.in_ok-later.ensures.ok (c.replies_once.ensures.dispatches calls)

pub returns-clause-once : goal.returns-clause-once
returns-clause-once c =
    let calls = delivers (message_view c.args.first) ∷ delivers (message_view c.args.second) ∷ [] in
    two_answers RepliesOnce (message_view c.args.first) (message_view c.args.second) _ _ _ _ _
    c.default-dispatcher.ensures c.in_ok-answer.ensures.ok
    c.in_ok-later.ensures.ok (c.replies_once.ensures.once calls)
