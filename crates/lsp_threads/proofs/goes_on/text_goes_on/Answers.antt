use Rattle.std.proofs.Common.{subst}
use Rattle.lsp_threads.specs.GoesOn.{ObjectNoExit}
use Rattle.lsp_threads.proofs.GoesOn.{text_no_exit}
use Rattle.lsp_threads.proofs.goes_on.text_goes_on.Goals as goal

pub returns-then-object_goes_on : goal.returns-then-object_goes_on
returns-then-object_goes_on c = λ yes.
    text_no_exit c.args.text.now (subst ObjectNoExit c.in-Ok.ensures.ok (c.object_goes_on.ensures
    c.if-object_goes_on.true))
