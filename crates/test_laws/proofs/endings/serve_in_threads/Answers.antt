use Rattle.lsp_message.specs.Frame.{no_limit}
use Rattle.serde_json.specs.View.{view}
use Rattle.std.proofs.Common.{Ok, Err}
use Rattle.std.specs.Prelude.{IfOk, Result}
use Rattle.test_laws.proofs.endings.serve_in_threads.Goals as goal

if_ok : {A E : Type 0} (F G : A → Type 0) (result : Result A E) → ((a : A) → F a → G a) → IfOk result F → IfOk result G
if_ok F G (Ok a) so is = so a is
if_ok F G (Err e) so is = tt

pub returns : goal.returns
returns g c = if_ok _ _ c.run_in_threads.result (λ done serves. c.session_in_threads_ends_well.ensures no_limit
    (view c.args.application.now.capabilities) c.args.application.now.handler c.run_in_threads.new.application.handler
    _ _ _ _ _ done.taken done.given done.order done.answer (λ _ _ _ none. none) serves)
    (rw c.new-options.ensures.limits at c.run_in_threads.ensures.session)
