use Rattle.lsp_types.proofs.file_uri.names_path.Goals as goal

pub returns-in-Err : goal.returns-in-Err
returns-in-Err c = λ n. c.in-Err.ensures.none n.0 n.1
