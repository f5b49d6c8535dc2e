use Rattle.std.proofs.Common.{IfOk, subst}
use Rattle.lsp_methods.specs.Reads.{IsReadOf}
use Rattle.lsp_methods.proofs.params.from_value.Goals as goal

pub returns : goal.returns
returns g c = subst (λ json. IfOk c.from_json.result (λ read. IsReadOf g.T.FromJson.reads json read)) c.of_tree.ensures
    c.from_json.ensures
