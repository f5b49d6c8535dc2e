use Rattle.lsp_testing.proofs.client.TestClient.shutdown.Goals as goal

pub returns-in-Some-Ok-ShutDown-clause-sends : goal.returns-in-Some-Ok-ShutDown-clause-sends
returns-in-Some-Ok-ShutDown-clause-sends g c = (
  c.expect_result.new.self,
  c.in_ok-_result._result,
  c.in_ok-_result.ensures,
  c.in_ok-notify.ensures,
)
