use Rattle.std.proofs.Common.{rules, refl, ap, inl, inr, arith, List, [], ◌∷◌, ◌++◌}
use Rattle.std.proofs.lemmas.Fn.{FoldsTo-push}
use Rattle.std.proofs.lemmas.List.{length-append}
use Rattle.lsp_jobs.specs.Inline.{Round}
use Rattle.lsp_jobs.specs.Stated.{stated_jobs}
use Rattle.lsp_jobs.specs.declared.job_server.JobCommand.{JobCommand}
use Rattle.lsp_jobs.proofs.inline_jobs.InlineJobs.settle.Goals as goal

pub loop-round-init : goal.loop-round-init
loop-round-init g c = ([], refl, refl)

pub loop-round-preserved : goal.loop-round-preserved
loop-round-preserved g c =
    let jobs = stated_jobs g.S.JobServer g.S.KeyedJobs.KeyedJobs g.J.Job in
    let before = c.loop-round.invariant in
    let named = c.in_ok-run_round.ensures in (
      before.0 ++ named.0 ∷ [],
      FoldsTo-push (Round jobs) _ before.0 _ named.0 _ before.1 named.1,
      omega (arith, length-append before.0 (named.0 ∷ []), before.2),
    )

-- no command was named
pub returns-then-not-branch : goal.returns-then-not-branch
returns-then-not-branch g c =
    let jobs = stated_jobs g.S.JobServer g.S.KeyedJobs.KeyedJobs g.J.Job in
    let before = c.loop-round.invariant in
    let named = c.in_ok-run_round.ensures in
    record {
      rounds = before.0 ++ named.0 ∷ [];
      carried = FoldsTo-push (Round jobs) _ before.0 _ named.0 _ before.1 named.1;
      until = inl (
        before.0,
        ap (λ (l : List (JobCommand g.row.J.Denot)). before.0 ++ l ∷ []) (named.2 (search rules)),
      );
    }

-- the server was asked a hundred times
pub returns : goal.returns
returns g c =
    let before = c.loop-round.invariant in
    record {
      rounds = before.0;
      carried = before.1;
      until = inr (omega (arith, before.2, c.loop-round.far-_round, c.loop-round.auto));
    }
