use Rattle.std.proofs.Common.{◌≡◌, Some, ap, sym, ◌∙◌, inl}
use Rattle.lsp_documents.specs.Held.{documents_of}
use Rattle.lsp_documents.specs.Notices.{change_fault, has_whole}
use Rattle.lsp_documents.proofs.NoticeLemmas.{left_is}
use Rattle.lsp_documents.proofs.documents.TextDocuments.change.Goals as goal

pub returns-in-Some-clause-err : goal.returns-in-Some-clause-err
returns-in-Some-clause-err c =
    let before = documents_of c.args.self.now in
    let f : change_fault before.sync (before.held c.args.uri.now) c.args.version (has_whole c.args.changes.now)
    ≡ Some c.in-Some.fault =
    ap (change_fault before.sync (before.held c.args.uri.now) c.args.version) (sym c.has_whole.ensures)
    ∙ sym c.in-Some.ensures in
    inl (
      f,
      record {
        sync = c.refuse.ensures.sync;
        own = c.refuse.ensures.own ∙ left_is before.sync (before.held c.args.uri.now) c.args.version
            c.args.changes.now c.in-Some.fault f;
        others = c.refuse.ensures.others;
      },
    )
