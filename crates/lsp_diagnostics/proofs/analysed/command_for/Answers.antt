use Rattle.std.proofs.Common.{rules, ◌≡◌, None}
use Rattle.std.proofs.lemmas.Result.{on_ok_weaker}
use Rattle.lsp_documents.specs.Held.{documents_of}
use Rattle.lsp_diagnostics.proofs.Heard.{if_ok_weaker}
use Rattle.lsp_diagnostics.specs.Followed.{known}
use Rattle.lsp_diagnostics.proofs.analysed.command_for.Goals as goal

pub returns-in_default-clause-command : goal.returns-in_default-clause-command
returns-in_default-clause-command g c =
    let none : known (documents_of c.args.documents.now) c.args.uri.now ≡ None = search rules in
    if_ok_weaker _ _ c.stop.result (λ command is. is (documents_of c.args.documents.now) none) c.stop.ensures.command

pub returns-in_default-clause-clear : goal.returns-in_default-clause-clear
returns-in_default-clause-clear g c =
    let none : known (documents_of c.args.documents.now) c.args.uri.now ≡ None = search rules in
    on_ok_weaker c.stop.result (λ did. (did.0, did.1, did.2 (documents_of c.args.documents.now) none))
    c.stop.ensures.clear
