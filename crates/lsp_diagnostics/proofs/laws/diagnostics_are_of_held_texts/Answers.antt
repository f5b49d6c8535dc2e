use Rattle.lsp_diagnostics.proofs.Turns.{all_shown}
use Rattle.lsp_diagnostics.proofs.laws.diagnostics_are_of_held_texts.Goals as goal

pub returns : goal.returns
returns g c = λ documents commands first stop exchanges states none empty jobs.
    all_shown documents commands _ _ _ _ _ states first stop exchanges none empty jobs
