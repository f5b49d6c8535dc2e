use Rattle.std.proofs.Common.{◌∙◌, ap, subst, sym, string_bytes, option_map}
use Rattle.std.specs.Prelude.{Err, Ok, Option, None, Some, List, ℕ}
use Rattle.serde_json.specs.View.{view}
use Rattle.lsp_documents.specs.Held.{documents_of}
use Rattle.lsp_documents.specs.Methods.{method_named}
use Rattle.lsp_documents.specs.declared.documents.TextDocuments.{TextDocuments}
use Rattle.lsp_diagnostics.proofs.Heard.{Touches, applied, applied_other, follow_same, follows_all}
use Rattle.lsp_diagnostics.proofs.Heard.{follows_after, follows_one, hears_made, hears_none}
use Rattle.lsp_diagnostics.proofs.Heard.{hears_missed, logged_alone, logged_and_cleared, on_ok, uri_of}
use Rattle.lsp_diagnostics.proofs.analysed.AnalysedDocuments.note.Goals as goal

pub returns-in-Some-Ok-clause-follow : goal.returns-in-Some-Ok-clause-follow
returns-in-Some-Ok-clause-follow g c =
    follows_after g.J.Analysis.source c.look_at.result c.args.self.now.documents c.log_heard.new.self.documents
    c.look_at.new.self.documents c.args.self.now.commands.items c.log_heard.new.self.commands.items
    c.look_at.new.self.commands.items
    (ap (λ commands. commands.items) c.in_ok-log_heard.ensures.commands)
    (follows_one g.J.Analysis.source c.look_at.result c.args.self.now.documents c.log_heard.new.self.documents
    c.look_at.new.self.documents c.log_heard.new.self.commands.items c.look_at.new.self.commands.items
    c.in-Some-Ok.update.uri.now
    (subst (λ (held : TextDocuments). Touches (documents_of c.args.self.now.documents) (documents_of held)
    (Some c.in-Some-Ok.update.uri.now)) (sym c.in_ok-log_heard.ensures.documents)
    (hears_made (method_named (string_bytes c.args.notification.now.method)) c.args.self.now.documents
    (view c.args.notification.now.params) c.apply-heard.result c.in-Some-Ok.update c.apply-heard.new.self
    c.apply-heard.ensures
    (c.in-Some-Ok.is ∙ ap Some (rw c.in-Some-Ok.is at c.in-Some-Ok.field-0-is))))
    c.look_at.ensures.same c.look_at.ensures.command)

pub returns-in-Some-Ok-clause-applies : goal.returns-in-Some-Ok-clause-applies
returns-in-Some-Ok-clause-applies g c =
    on_ok c.look_at.result (applied (method_named (string_bytes c.args.notification.now.method))
    c.args.self.now.documents (view c.args.notification.now.params) c.apply-heard.result (Ok c.in-Some-Ok.update)
    c.apply-heard.new.self c.look_at.new.self.documents c.apply-heard.ensures
    (c.in-Some-Ok.is ∙ ap Some (rw c.in-Some-Ok.is at c.in-Some-Ok.field-0-is)) tt
    (c.look_at.ensures.same ∙ c.in_ok-log_heard.ensures.documents))

pub returns-in-Some-Ok-clause-reports : goal.returns-in-Some-Ok-clause-reports
returns-in-Some-Ok-clause-reports g c =
    logged_and_cleared g.P.PartialEq.eq c.look_at.result c.args.self.now.documents
    (string_bytes c.args.notification.now.method) (view c.args.notification.now.params) c.apply-heard.result
    c.apply-heard.new.self c.log_heard.new.self.documents c.look_at.new.self.documents c.args.acts.now.items
    c.log_heard.new.acts.items c.look_at.new.acts.items c.apply-heard.ensures
    c.in_ok-log_heard.ensures.documents
    c.look_at.ensures.same c.requires c.in_ok-log_heard.ensures.logs c.look_at.ensures.clear

pub returns-in-Some-clause-follow : goal.returns-in-Some-clause-follow
returns-in-Some-clause-follow g c =
    follows_after g.J.Analysis.source c.look_at-in-Some.result c.args.self.now.documents c.log_heard.new.self.documents
    c.look_at-in-Some.new.self.documents c.args.self.now.commands.items c.log_heard.new.self.commands.items
    c.look_at-in-Some.new.self.commands.items
    (ap (λ commands. commands.items) c.in_ok-log_heard.ensures.commands)
    (follows_one g.J.Analysis.source c.look_at-in-Some.result c.args.self.now.documents c.log_heard.new.self.documents
    c.look_at-in-Some.new.self.documents c.log_heard.new.self.commands.items c.look_at-in-Some.new.self.commands.items
    c.in-Some.uri.now
    (subst (λ (held : TextDocuments). Touches (documents_of c.args.self.now.documents) (documents_of held)
    (Some c.in-Some.uri.now)) (sym c.in_ok-log_heard.ensures.documents)
    (subst (λ (uri : Option (List ℕ)). Touches (documents_of c.args.self.now.documents)
    (documents_of c.apply-heard.new.self) uri)
    (uri_of _ _ _ c.in_ok-uri-in-Some-Err.ensures.same (ap (option_map (λ s. s.now)) c.in-Some.is))
    (hears_missed (method_named (string_bytes c.args.notification.now.method)) c.args.self.now.documents
    (view c.args.notification.now.params) c.apply-heard.result c.in-Some-Err.missed c.apply-heard.new.self
    c.apply-heard.ensures
    (c.in-Some-Err.is ∙ ap Some (rw c.in-Some-Err.is at c.in-Some-Err.field-0-is)))))
    c.look_at-in-Some.ensures.same c.look_at-in-Some.ensures.command)

pub returns-in-Some-clause-applies : goal.returns-in-Some-clause-applies
returns-in-Some-clause-applies g c =
    on_ok c.look_at-in-Some.result (applied (method_named (string_bytes c.args.notification.now.method))
    c.args.self.now.documents (view c.args.notification.now.params) c.apply-heard.result (Err c.in-Some-Err.missed)
    c.apply-heard.new.self c.look_at-in-Some.new.self.documents c.apply-heard.ensures
    (c.in-Some-Err.is ∙ ap Some (rw c.in-Some-Err.is at c.in-Some-Err.field-0-is))
    c.in_ok-uri-in-Some-Err.ensures.ok
    (c.look_at-in-Some.ensures.same ∙ c.in_ok-log_heard.ensures.documents))

pub returns-in-Some-clause-reports : goal.returns-in-Some-clause-reports
returns-in-Some-clause-reports g c =
    logged_and_cleared g.P.PartialEq.eq c.look_at-in-Some.result c.args.self.now.documents
    (string_bytes c.args.notification.now.method) (view c.args.notification.now.params) c.apply-heard.result
    c.apply-heard.new.self c.log_heard.new.self.documents c.look_at-in-Some.new.self.documents c.args.acts.now.items
    c.log_heard.new.acts.items c.look_at-in-Some.new.acts.items c.apply-heard.ensures
    c.in_ok-log_heard.ensures.documents
    c.look_at-in-Some.ensures.same c.requires c.in_ok-log_heard.ensures.logs c.look_at-in-Some.ensures.clear

pub returns-in-None-uri-clause-follow : goal.returns-in-None-uri-clause-follow
returns-in-None-uri-clause-follow g c =
    follows_after g.J.Analysis.source c.look_at_all.result c.args.self.now.documents c.log_heard.new.self.documents
    c.look_at_all.new.self.documents c.args.self.now.commands.items c.log_heard.new.self.commands.items
    c.look_at_all.new.self.commands.items
    (ap (λ commands. commands.items) c.in_ok-log_heard.ensures.commands)
    (follows_all g.J.Analysis.source c.look_at_all.result c.args.self.now.documents c.log_heard.new.self.documents
    c.look_at_all.new.self.documents c.log_heard.new.self.commands.items c.look_at_all.new.self.commands.items
    (subst (λ (held : TextDocuments). Touches (documents_of c.args.self.now.documents) (documents_of held)
    None) (sym c.in_ok-log_heard.ensures.documents)
    (subst (λ (uri : Option (List ℕ)). Touches (documents_of c.args.self.now.documents)
    (documents_of c.apply-heard.new.self) uri)
    (uri_of _ _ _ c.in_ok-uri-in-Some-Err.ensures.same (ap (option_map (λ s. s.now)) c.in-None-uri.is))
    (hears_missed (method_named (string_bytes c.args.notification.now.method)) c.args.self.now.documents
    (view c.args.notification.now.params) c.apply-heard.result c.in-Some-Err.missed c.apply-heard.new.self
    c.apply-heard.ensures
    (c.in-Some-Err.is ∙ ap Some (rw c.in-Some-Err.is at c.in-Some-Err.field-0-is)))))
    c.look_at_all.ensures.same c.look_at_all.ensures.commands)

pub returns-in-None-uri-clause-applies : goal.returns-in-None-uri-clause-applies
returns-in-None-uri-clause-applies g c =
    on_ok c.look_at_all.result (applied (method_named (string_bytes c.args.notification.now.method))
    c.args.self.now.documents (view c.args.notification.now.params) c.apply-heard.result (Err c.in-Some-Err.missed)
    c.apply-heard.new.self c.look_at_all.new.self.documents c.apply-heard.ensures
    (c.in-Some-Err.is ∙ ap Some (rw c.in-Some-Err.is at c.in-Some-Err.field-0-is))
    c.in_ok-uri-in-Some-Err.ensures.ok
    (c.look_at_all.ensures.same ∙ c.in_ok-log_heard.ensures.documents))

pub returns-in-None-uri-clause-reports : goal.returns-in-None-uri-clause-reports
returns-in-None-uri-clause-reports g c =
    logged_and_cleared g.P.PartialEq.eq c.look_at_all.result c.args.self.now.documents
    (string_bytes c.args.notification.now.method) (view c.args.notification.now.params) c.apply-heard.result
    c.apply-heard.new.self c.log_heard.new.self.documents c.look_at_all.new.self.documents c.args.acts.now.items
    c.log_heard.new.acts.items c.look_at_all.new.acts.items c.apply-heard.ensures
    c.in_ok-log_heard.ensures.documents
    c.look_at_all.ensures.same c.requires c.in_ok-log_heard.ensures.logs c.look_at_all.ensures.clear

pub returns-in-None-clause-reports : goal.returns-in-None-clause-reports
returns-in-None-clause-reports g c =
    logged_alone g.P.PartialEq.eq c.args.self.now.documents (string_bytes c.args.notification.now.method)
    (view c.args.notification.now.params) c.apply-heard.result c.apply-heard.new.self c.log_heard.new.self.documents
    c.args.acts.now.items c.log_heard.new.acts.items c.apply-heard.ensures
    c.in_ok-log_heard.ensures.documents c.requires
    c.in_ok-log_heard.ensures.logs

pub returns-in-None-clause-follow : goal.returns-in-None-clause-follow
returns-in-None-clause-follow g c =
    follow_same g.J.Analysis.source c.args.self.now.commands.items c.log_heard.new.self.commands.items
    c.args.self.now.documents c.log_heard.new.self.documents
    (c.in_ok-log_heard.ensures.documents
    ∙ hears_none (method_named (string_bytes c.args.notification.now.method)) c.args.self.now.documents
    (view c.args.notification.now.params) c.apply-heard.result c.apply-heard.new.self c.apply-heard.ensures (cc))
    (ap (λ commands. commands.items) c.in_ok-log_heard.ensures.commands)

pub returns-in-None-clause-applies : goal.returns-in-None-clause-applies
returns-in-None-clause-applies g c =
    applied_other (method_named (string_bytes c.args.notification.now.method)) c.args.self.now.documents
    (view c.args.notification.now.params) c.apply-heard.result c.apply-heard.new.self c.log_heard.new.self.documents
    c.apply-heard.ensures (cc) c.in_ok-log_heard.ensures.documents
