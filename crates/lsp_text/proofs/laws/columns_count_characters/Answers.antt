use Rattle.lsp_text.proofs.CharacterLemmas.{column_len-characters, width-characters}
use Rattle.lsp_text.proofs.laws.columns_count_characters.Goals as goal

pub returns-clause-before : goal.returns-clause-before
returns-clause-before c = column_len-characters

pub returns-clause-line : goal.returns-clause-line
returns-clause-line c = width-characters
