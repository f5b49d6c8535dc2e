use Rattle.lsp_types.specs.declared.capabilities.ChangeNotifications.TheVariants.{Wanted, Id}
use Rattle.lsp_types.proofs.ReadLemmas.{not_read}
use Rattle.lsp_types.proofs.capabilities.ChangeNotificationsFromJson.from_json.Goals as goal

pub returns-in-Err : goal.returns-in-Err
returns-in-Err c fits = elim [
  | Wanted it ↦ λ one. not_read _ _ _ c.in_ok-it.ensures.read c.in_default.is it
      one
  | Id it ↦ λ one. c.in-Err.ensures fits it one.1
]
