use denote.Param.Send.{sendable}
use Rattle.std.proofs.Common.{true}
use Rattle.lsp_diagnostics.proofs.Crossing.{findings_send}
use Rattle.lsp_threads.proofs.InThreads.{outcome_as}
use Rattle.example_toml.proofs.Crossing.{work_send}
use Rattle.example_toml.proofs.sessions.serve.Goals as goal

pub returns : goal.returns
returns g c = record {
  session = outcome_as g.W.Write.contents true _ c.args.client.limits _ _ _ _ (λ exchanges stop answer session.
      let lawful = c.session_with_jobs_keeps_laws.ensures.exchanges _ _ exchanges stop answer session in
      record {
        session = lawful;
        shows = c.problems_are_of_held_texts.ensures _ _ exchanges stop answer c.requires.commands
            c.requires.documents lawful;
        replies = c.searches_are_of_open_texts.ensures _ _ exchanges stop answer c.requires.documents lawful;
      }) _ _ _ c.run_jobs.ensures.session;
}

-- The threads may own a job, and what a check finds.
pub run_jobs-requires-send-J : goal.run_jobs-requires-send-J
run_jobs-requires-send-J g c κs within = search (work_send, sendable) depth 60

pub run_jobs-requires-send-J-Found : goal.run_jobs-requires-send-J-Found
run_jobs-requires-send-J-Found g c κs within = search (findings_send, sendable) depth 60
