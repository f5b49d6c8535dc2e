use Rattle.lsp_diagnostics.proofs.Heard.{follow_all, only_cleared}
use Rattle.lsp_diagnostics.proofs.analysed.AnalysedDocuments.analyse_all.Goals as goal

pub returns-clause-follow : goal.returns-clause-follow
returns-clause-follow g c =
    follow_all g.J.Analysis.source c.args.self.now.documents c.args.self.now.documents
    c.look_at_all.new.self.documents c.args.self.now.commands.items c.look_at_all.new.self.commands.items
    (λ q gone. gone) c.in_ok-look_at_all.ensures.same c.in_ok-look_at_all.ensures.commands

pub returns-clause-clear : goal.returns-clause-clear
returns-clause-clear g c =
    only_cleared g.P.PartialEq.eq c.args.self.now.documents c.look_at_all.new.self.documents c.new-acts.result.items
    c.look_at_all.new.acts.items c.new-acts.ensures.items c.in_ok-look_at_all.ensures.same
    c.in_ok-look_at_all.ensures.clear
