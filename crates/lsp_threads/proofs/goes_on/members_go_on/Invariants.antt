use Rattle.std.specs.Prelude.{◌≤◌, ℕ, length}
use Rattle.lsp_threads.specs.GoesOn.{BeginsNoExit}
use Rattle.lsp_threads.proofs.goes_on.members_go_on.Given as goal

-- if the members that are left have no `exit`, neither have all of them
abbrev pub invariant-members : goal.invariant-members
invariant-members l = (n : ℕ) × (length l.reader ≤ n)
    × (BeginsNoExit n l.reader → BeginsNoExit (length l.initial.reader) l.initial.reader)
    × (length l.reader ≤ length l.initial.reader)

abbrev pub decreases-members : goal.decreases-members
decreases-members l = length l.reader
