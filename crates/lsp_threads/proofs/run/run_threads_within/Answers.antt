use Rattle.std.proofs.Common.{sym, ap, ◌∙◌, false}
use Rattle.serde_json.specs.View.{view}
use Rattle.lsp_session.proofs.Lending.{over_as, session_as}
use Rattle.lsp_threads.proofs.GivenInOrder.{in_order_alone}
use Rattle.lsp_threads.proofs.InThreads.{in_threads_as}
use Rattle.lsp_threads.proofs.Sessions.{none_passed, unstarted_handler}
use Rattle.lsp_threads.proofs.run.run_threads_within.Goals as goal
use Rattle.lsp_message.specs.Limits.{of_content}

pub returns-clause-unstarted : goal.returns-clause-unstarted
returns-clause-unstarted g c = rw (c.in-Err.is) at (unstarted_handler c.new-service.result
    c.run_in_threads-ran.new.application c.args.handler.now _
    (λ names. c.handler-1.given.1 (sym c.new-service.ensures.same_handler ∙ sym names)) c.new-service.ensures.unchanged
    _ _ c.run_in_threads-ran.ensures.unstarted)

pub returns-in-Ok-clause-session : goal.returns-in-Ok-clause-session
returns-in-Ok-clause-session g c =
    let limit = of_content c.args.limit in
    let known = g.R.Read.remaining c.args.reader in (
      c.in-Ok.done.taken,
      c.in-Ok.done.given,
      c.in-Ok.done.order,
      in_threads_as _ _ _ _
          (λ P Q to text old new tells. over_as P Q to _ text _ _ (none_passed false _ limit _ _
          (λ first fault last told. told) P text old new _ tells))
          (in_order_alone _ limit known _ (λ first fault last told. told)) _ _
          (session_as g.H.Handler.answer_post g.H.Handler.note_post (view c.args.capabilities) c.new-service.result
          c.run_in_threads-ran.new.application _ (λ names. c.handler-1.given.1
          (sym c.new-service.ensures.same_handler ∙ sym names)) c.args.handler.now c.new-service.ensures.unchanged
          (ap view c.new-service.ensures.capabilities))
          (rw (c.in-Ok.is) at c.run_in_threads-ran.ensures.session),
    )
