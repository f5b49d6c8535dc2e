use Rattle.std.proofs.Common.{Ok}
use Rattle.serde_json.specs.Data.{null}
use Rattle.serde_json.specs.View.{view}
use Rattle.test_logs.proofs.Passed.{answered}
use Rattle.test_logs.proofs.logs.answer.Goals as goal

pub returns : goal.returns
returns c = c.a_lawful_log_breaks_none.ensures _ _ _
    (answered _ _ (view c.args.request.now.params) (Ok null) _ c.in_ok-id.ensures)
