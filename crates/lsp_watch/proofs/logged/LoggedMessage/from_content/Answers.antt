use Rattle.lsp_watch.proofs.logged.LoggedMessage.from_content.Goals as goal

pub returns-in-Ok-clause-bytes : goal.returns-in-Ok-clause-bytes
returns-in-Ok-clause-bytes c = λ none. absurd (none c.in-Ok.ensures.cases.1)

pub returns-in-Err-clause-text : goal.returns-in-Err-clause-text
returns-in-Err-clause-text c = λ is. absurd (c.in-Err.ensures.cases.0 is)
