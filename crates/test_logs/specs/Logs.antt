-- Logs that break no rule of a session.
use Rattle.std.specs.Prelude.{Option, option_map}
use Rattle.lsp_message.specs.Message.{Message}
use Rattle.lsp_watch.specs.CleanLog.{IsClean, KeepsOrder, RepliesOnce}
use Rattle.lsp_watch.specs.Entries.{entry_view}
use Rattle.lsp_watch.specs.Log.{Log}
use Rattle.lsp_watch.specs.declared.logged.LoggedMessage.{LoggedMessage}

-- the message that can be placed in a session
abbrev pub message_in : LoggedMessage → Option Message
message_in m = option_map entry_view m.entry

-- no message breaks a rule of the lifecycle or of ids, and what follows from that
pub record IsRight (log : Log) : Type 0 where
  pub clean : IsClean log
  pub replies : RepliesOnce log
  pub order : KeepsOrder log
