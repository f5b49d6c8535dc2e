use Rattle.lsp_documents.specs.Held.{documents_of}
use Rattle.lsp_diagnostics.proofs.Heard.{follow_all, lost_and_cleared, none_known, touches_all}
use Rattle.lsp_diagnostics.proofs.analysed.AnalysedDocuments.invalidate_all.Goals as goal

pub stop_all-requires : goal.stop_all-requires
stop_all-requires g c =
    none_known (documents_of c.args.self.now.documents) (documents_of c.invalidate_all.new.self)
    (record { sync = c.invalidate_all.ensures.sync; held = c.invalidate_all.ensures.held })

pub returns-clause-follow : goal.returns-clause-follow
returns-clause-follow g c =
    follow_all g.J.Analysis.source c.args.self.now.documents c.invalidate_all.new.self
    c.stop_all.new.self.documents c.args.self.now.commands.items c.stop_all.new.self.commands.items
    (touches_all (documents_of c.args.self.now.documents) (documents_of c.invalidate_all.new.self)
    (record { sync = c.invalidate_all.ensures.sync; held = c.invalidate_all.ensures.held }))
    c.stop_all.ensures.same c.in_ok-stop_all.ensures.commands

pub returns-clause-acts : goal.returns-clause-acts
returns-clause-acts g c =
    lost_and_cleared g.P.PartialEq.eq c.invalidate_all.new.self c.stop_all.new.self.documents c.new-acts.result.items
    _ c.stop_all.new.acts.items c.in_ok-log_message.field-0 c.new-acts.ensures.items c.in_ok-push.ensures.items
    c.in_ok-stop_all.ensures.same c.in_ok-log_message.ensures c.in_ok-stop_all.ensures.clear
