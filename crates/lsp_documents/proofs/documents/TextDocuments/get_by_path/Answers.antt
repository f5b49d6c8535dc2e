use Rattle.std.proofs.Common.{rules, ◌≡◌, [], ◌∷◌}
use Rattle.lsp_documents.specs.Held.{known_of}
use Rattle.lsp_documents.proofs.Paths.{passed_more, all_passed}
use Rattle.lsp_documents.proofs.documents.TextDocuments.get_by_path.Goals as goal

pub loop-uri-preserved : goal.loop-uri-preserved
loop-uri-preserved c =
    let e : c.loop-uri.uri-iterator ≡ (c.in-Some.uri.now, c.in-Some.document.now) ∷ c.next.new.self = search rules in
    passed_more c.args.path.now (known_of c.args.self.now) c.loop-uri.uri-iterator c.next.new.self (
      c.in-Some.uri.now,
      c.in-Some.document.now,
    ) c.loop-uri.invariant e c.if-names_path.ensures

pub returns : goal.returns
returns c =
    let e : c.loop-uri.uri-iterator ≡ [] = search rules in
    all_passed c.args.path.now (known_of c.args.self.now) c.loop-uri.uri-iterator c.loop-uri.invariant e
