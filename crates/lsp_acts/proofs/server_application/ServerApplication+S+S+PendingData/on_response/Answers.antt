use Rattle.std.proofs.Common.{refl, sym}
use Rattle.lsp_message.specs.View.{outcome_view}
use Rattle.lsp_acts.proofs.Acting.{drops_reply}
use Rattle.lsp_acts.proofs.server_application.«ServerApplication+S+S+PendingData».on_response.Goals as goal

pub returns-in-None : goal.returns-in-None
returns-in-None g c = drops_reply g.S.Server _ _ _ _ (outcome_view c.args.response.response_result) _
    (sym c.in-None.ensures.value) c.in-None.ensures.removed refl
