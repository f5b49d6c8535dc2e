use Rattle.std.proofs.Common.{false}
use Rattle.lsp_threads.proofs.InThreads.{outcome_as}
use Rattle.example_toml.proofs.Known.{answers_once}
use Rattle.example_toml.proofs.sessions.serve_in_threads.Goals as goal

pub returns : goal.returns
returns g c = record {
  session = outcome_as g.W.Write.contents false _ c.args.client.limits _ _ _ _
      (answers_once _ _ _ c.server_keeps_laws.ensures.exchanges) _ _ _
      (rw (c.new-application.ensures.server) at c.run_in_threads-done.ensures.session);
}
