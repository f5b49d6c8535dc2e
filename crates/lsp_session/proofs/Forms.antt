-- What holds of the exchanges of a session holds of the session in each form: over an inbox and an outbox (`runs_as`),
-- over one value with both ends (`talks_as`), from known bytes to bytes, with a policy and without, and in threads
-- (`over_as`), and over a transport, of whatever reader and writer (`serves_as`). Each takes the law as an argument:
-- `Implies P Q`.
pub use Rattle.lsp_session.proofs.Lending.{over_as, runs_as, talks_as}
pub use Rattle.lsp_session.proofs.TellsBytes.{serves_as}
