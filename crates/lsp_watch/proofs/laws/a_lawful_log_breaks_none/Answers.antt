use Rattle.lsp_watch.proofs.NoFalseAlarm.{breaks_none}
use Rattle.lsp_watch.proofs.laws.a_lawful_log_breaks_none.Goals as goal

pub returns : goal.returns
returns c = breaks_none
