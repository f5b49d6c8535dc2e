use Rattle.std.proofs.Common.{refl}
use Rattle.lsp_watch.proofs.UsedBy.{map_err, by_directions}
use Rattle.lsp_watch.proofs.uses.ByDirection.add.Goals as goal

pub returns-in-ToServer-clause-err : goal.returns-in-ToServer-clause-err
returns-in-ToServer-clause-err c = map_err c.add.result (λ h. by_directions c.args.self.now
    (record { to_server = c.add.new.self; to_client = c.args.self.now.to_client }) h (λ q. refl)) c.add.ensures.err

pub returns-in-ToClient-clause-err : goal.returns-in-ToClient-clause-err
returns-in-ToClient-clause-err c = map_err c.add-in-ToClient.result (λ h. by_directions c.args.self.now
    (record { to_server = c.args.self.now.to_server; to_client = c.add-in-ToClient.new.self }) (λ q. refl) h)
    c.add-in-ToClient.ensures.err
