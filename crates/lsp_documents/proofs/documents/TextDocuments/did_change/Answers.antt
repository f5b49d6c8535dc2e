use Rattle.std.proofs.Common.{rules, sym, ◌∙◌}
use Rattle.lsp_documents.specs.Held.{documents_of}
use Rattle.lsp_documents.specs.Params.{uri_from, document_in, version_in, changes_given}
use Rattle.lsp_json.specs.JsonRef.{json_data}
use Rattle.std.specs.Prelude.{option_and_then, IfSome, ◌≡◌, true}
use Rattle.lsp_documents.specs.Notices.{has_changes}
use Rattle.lsp_documents.proofs.NoticeLemmas.{change_refused, change_starved}
use Rattle.lsp_documents.proofs.documents.TextDocuments.did_change.Goals as goal

pub returns-in-Some-refusal-clause-err : goal.returns-in-Some-refusal-clause-err
returns-in-Some-refusal-clause-err c =
    let d = json_data c.args.params.now in
    change_refused (documents_of c.args.self.now) (documents_of c.refuse.new.self) (uri_from d) (option_and_then
    version_in (document_in d)) c.version_of-version.result (changes_given d) c.in-Some.uri.now
    c.in-Some-whole_in.whole c.in-Some-refusal.fault _
    c.version_of-version.ensures (sym c.in-Some.ensures) (sym c.in-Some-whole_in.ensures)
    (sym c.in-Some-refusal.ensures) c.unmade.ensures.why
    (record { sync = c.refuse.ensures.sync; own = c.refuse.ensures.own; others = c.refuse.ensures.others })

pub returns-clause-err : goal.returns-clause-err
returns-clause-err c =
    let d = json_data c.args.params.now in
    let some : IfSome (changes_given (json_data c.args.params.now)) (λ cs. has_changes cs ≡ true) = search rules in
    change_starved (documents_of c.args.self.now) (documents_of c.missed-in-Err.new.self) (uri_from d) (option_and_then
    version_in (document_in d)) c.version_of-version.result (changes_given d) c.in-Some.uri.now
    c.in-Some-whole_in.whole _
    c.version_of-version.ensures (sym c.in-Some.ensures) (sym c.in-Some-whole_in.ensures) (sym c.refusal.ensures
    ∙ c.in_default-refusal.is) c.missed-in-Err.ensures.why some
    (record {
      sync = c.missed-in-Err.ensures.sync;
      own = c.missed-in-Err.ensures.own;
      others = c.missed-in-Err.ensures.others;
    })
