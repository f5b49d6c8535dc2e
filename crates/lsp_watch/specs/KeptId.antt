-- The id that a `LoggedId` keeps.
use Rattle.std.specs.Prelude.{string_bytes}
use Rattle.lsp_message.specs.Id.{Id, number, text}
use Rattle.lsp_watch.specs.declared.logged.KeptId.{KeptId}
use Rattle.lsp_watch.specs.declared.logged.KeptId.TheVariants.{Number, Text}

abbrev pub id_kept : KeptId → Id
id_kept (Number z) = number z
id_kept (Text s) = text (string_bytes s)
