use Rattle.std.proofs.Common.{sym}
use Rattle.std.proofs.lemmas.Result.{IfErr-weaker}
use Rattle.lsp_types.specs.FileUris.{AreNoPath, Refuses}
use Rattle.lsp_types.proofs.FileUriLemmas.{refuses_names}
use Rattle.lsp_types.proofs.file_uri.path_of_uri.Goals as goal

pub returns-clause-err : goal.returns-clause-err
returns-clause-err c = IfErr-weaker c.path_of_names.result (λ fault. AreNoPath fault c.in_ok-names.names.now)
    (λ fault. Refuses fault c.args.uri.now) (refuses_names c.args.uri.now c.in_ok-names.names.now
    c.in_ok-names.ensures.ok) (rw (sym c.as_bytes.ensures.value) c.path_of_names.ensures.err)
