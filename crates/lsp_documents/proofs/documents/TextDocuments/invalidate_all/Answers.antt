use Rattle.std.proofs.Common.{rules}
use Rattle.std.specs.BTreeMap.{is_at}
use Rattle.std.specs.Cmp.Lexicographic.{slice_cmp}
use Rattle.std.specs.Ordering.{nat_cmp}
use Rattle.std.specs.String.{string_bytes}
use Rattle.std.proofs.lemmas.Map.Made.{map_same_pairs, lookup-map_values}
use Rattle.lsp_documents.specs.Notices.{lost}
use Rattle.lsp_documents.proofs.documents.TextDocuments.invalidate_all.Goals as goal

pub returns-clause-held : goal.returns-clause-held
returns-clause-held c =
    let e = map_same_pairs _ lost _ (λ k v b w f' t. search rules) _ _ c.retain.ensures.filtered in
    λ q. rw e (lookup-map_values lost (is_at (λ k. slice_cmp nat_cmp q (string_bytes k)))
    c.args.self.now.documents.entries)
