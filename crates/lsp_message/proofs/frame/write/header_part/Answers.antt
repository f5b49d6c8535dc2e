use Rattle.std.proofs.Common.{◌≡◌, ◌∙◌, [], ◌∷◌, ◌++◌, List, ℕ, Ok, ap, codes, decimal, rules}
use Rattle.std.proofs.lemmas.Fmt.{contents_after_writes}
use Rattle.arrayvec.specs.ArrayString.{ArrayString}
use Rattle.lsp_message.proofs.frame.write.header_part.Goals as goal

abbrev text_of : ArrayString → List ℕ
text_of s = s.bytes

abbrev line : ℕ → List ℕ
line n = codes "Content-Length: " ++ (decimal n ++ 13 ∷ 10 ∷ 13 ∷ 10 ∷ [])

pub returns : goal.returns
returns c =
    let ok : c.write.result ≡ Ok tt = search rules in
    let wrote = contents_after_writes _ text_of (λ w bs v is. is) c.new-header.result _ c.write.new.self
    (rw ok at c.write.ensures.writes) in
    wrote ∙ ap (λ l. l ++ line c.args.length) c.new-header.ensures
