use Rattle.std.proofs.Common.{◌∙◌, ap, map, None, [], ◌∷◌}
use Rattle.std.proofs.lemmas.List.Elements.{All-cons, All-nil}
use Rattle.lsp_acts.specs.View.{act_view}
use Rattle.lsp_types.specs.contracts.diagnostics.DiagnosticToJson.TheImpl as diagnostic
use Rattle.lsp_diagnostics.specs.Followed.{Clears, shows}
use Rattle.lsp_diagnostics.proofs.analysed.stop.Goals as goal

pub returns-clause-clear : goal.returns-clause-clear
returns-clause-clear g c = (
  c.in_ok-publish.field-0 ∷ [],
  c.in_ok-push.ensures.items,
  λ documents none. All-cons (Clears documents) (act_view g.P.PartialEq.eq c.in_ok-publish.field-0) [] (
    c.args.uri.now,
    none,
    c.in_ok-publish.ensures
        ∙ ap (λ marks. shows c.args.uri.now None (map diagnostic.ghosts.stands marks)) c.new.ensures.items,
  ) (All-nil (Clears documents)),
)
