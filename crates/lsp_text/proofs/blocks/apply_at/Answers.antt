use Rattle.std.proofs.Common.{◌≡◌, ℕ, List, ◌++◌, ◌∷◌, Some, ap, ◌∙◌}
use Rattle.std.proofs.Math.Seq.{set-append_seam}
use Rattle.std.proofs.Math.ListN.{set}
use Rattle.std.proofs.lemmas.Result.{on_ok_weaker}
use Rattle.lsp_text.specs.Lines.{LinedText}
use Rattle.lsp_text.specs.Edits.{edited}
use Rattle.lsp_text.proofs.BlockLemmas.{seam_read}
use Rattle.lsp_text.proofs.blocks.apply_at.Goals as goal

pub returns-clause-ok : goal.returns-clause-ok
returns-clause-ok c = λ xs ys b e n.
    let new : LinedText = c.apply.new.self in
    let i : ℕ = c.args.index in
    let v : c.index_mut-block.result.now ≡ b = c.index_mut-block.ensures.value
    ∙ seam_read xs b ys c.args.blocks.now.items i c.index_mut-block.result.now e n in
    let s : set c.args.blocks.now.items i new ≡ xs ++ (new ∷ ys) = ap (λ (us : List LinedText). set us i new) e
    ∙ ap (λ k. set (xs ++ (b ∷ ys)) k new) n ∙ set-append_seam xs b ys new in
    on_ok_weaker c.apply.result (λ h. s ∙ ap (λ (t : LinedText). xs ++ (t ∷ ys)) (h
    ∙ ap (λ (t : LinedText). edited c.args.encoding t (Some c.args.range) c.args.text.now) v)) c.apply.ensures.ok
