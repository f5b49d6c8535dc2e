use Rattle.lsp_types.proofs.FileUriLemmas.{names_of_uri}
use Rattle.lsp_types.proofs.file_uri.paths_come_back.Goals as goal

pub returns : goal.returns
returns c = names_of_uri
