use Rattle.std.proofs.Common.{arith}
use Rattle.std.proofs.lemmas.Map.Text.{text_keys}
use Rattle.lsp_documents.proofs.documents.TextDocuments.renew.Goals as goal

pub returns-in_err-renew_open-clause-others : goal.returns-in_err-renew_open-clause-others
returns-in_err-renew_open-clause-others c = λ q h. grind (arith, text_keys)

pub returns-in_ok-renew_open-clause-others : goal.returns-in_ok-renew_open-clause-others
returns-in_ok-renew_open-clause-others c = λ q h. grind (arith, text_keys)
