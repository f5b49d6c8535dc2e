use Rattle.lsp_session.proofs.TellsBytes.{serves_as}
use Rattle.example_toml.proofs.Known.{answers_once}
use Rattle.example_toml.proofs.sessions.serve_inline.Goals as goal

pub returns : goal.returns
returns g c = serves_as _ _ _ (answers_once _ _ _ c.server_keeps_laws.ensures.exchanges) _ _ _
    (rw (c.new-application.ensures.server) at c.serve-answer.ensures.serves)
