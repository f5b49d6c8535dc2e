-- A whole text whose tokens fit is one that serde_json reads.
use Rattle.std.proofs.Common.{◌≡◌, ℕ, List, [], ◌++◌, Option, Some, None, IsSome, option_and_then, refl, sym, ap, ◌∙◌}
use Rattle.std.proofs.Common.{true≢false, append-nil}
use Rattle.json.specs.Lex.{tokens}
use Rattle.json.specs.Json as json
use Rattle.json.specs.Json.{document, if_last}
use Rattle.json.specs.Tree.{json_tokens}
use Rattle.json.proofs.Found.{document-BeginsWith}
use Rattle.json.proofs.Printed.Trees.{value-json_tokens}
use Rattle.json.proofs.Unique.Spelling.{tokens-document}
use Rattle.serde_json.specs.Read.{of_json, read}
use Rattle.lsp_json.specs.Fits.{left_after_all}
use Rattle.lsp_json.specs.Text.{text_data, Stands}
use Rattle.lsp_json.proofs.Fitting.{fit}
use Rattle.lsp_json.proofs.Text.{stands}

some_of : {A : Type 0} (o : Option A) → IsSome o → (a : A) × (o ≡ Some a)
some_of None h = absurd (true≢false (sym h))
some_of (Some a) h = (a, refl)

pub whole_text : (text : List ℕ) → IsSome (document text) → IsSome (left_after_all (tokens text) 127)
    → Stands (tokens text) × (read text ≡ Some (text_data (tokens text)))
whole_text text is_document fits =
    let doc = some_of (document text) is_document in
    let j = doc.0 in
    let spelled : tokens text ≡ json_tokens j ++ [] = tokens-document text j doc.1 ∙ sym (append-nil (json_tokens j)) in
    let left = some_of (left_after_all (tokens text) 127) fits in
    let f = fit j [] 127 left.0 (ap (λ ts. left_after_all ts 127) (sym spelled) ∙ left.1) in
    let s = stands (tokens text) j f.data_ (document-BeginsWith text j doc.1) f.nests f.is in
    let value : json.value 127 (tokens text) ≡ Some (j, []) =
    ap (json.value 127) spelled ∙ value-json_tokens j 127 [] f.nests in
    let read_as : read text ≡ of_json j =
    ap (λ o. option_and_then of_json (option_and_then (λ p. if_last p.0 p.1) o)) value in
    (s.2, read_as ∙ f.is ∙ ap Some (sym s.1))
