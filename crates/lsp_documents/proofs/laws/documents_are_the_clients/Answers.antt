use Rattle.lsp_documents.proofs.NoticeLemmas.{all_agree, all_sure, all_kept, opened_current, whole_made, late_unshown}
use Rattle.lsp_documents.proofs.NoticeLemmas.{refused_keeps}
use Rattle.lsp_documents.proofs.laws.documents_are_the_clients.Goals as goal

pub returns-clause-each : goal.returns-clause-each
returns-clause-each c = all_agree

pub returns-clause-kept : goal.returns-clause-kept
returns-clause-kept c = all_kept

pub returns-clause-current : goal.returns-clause-current
returns-clause-current c = opened_current

pub returns-clause-refused : goal.returns-clause-refused
returns-clause-refused c = refused_keeps

pub returns-clause-late : goal.returns-clause-late
returns-clause-late c = late_unshown

pub returns-clause-whole : goal.returns-clause-whole
returns-clause-whole c = whole_made

pub returns-clause-sure : goal.returns-clause-sure
returns-clause-sure c = all_sure
