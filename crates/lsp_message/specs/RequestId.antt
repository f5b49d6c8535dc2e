-- The id that a `RequestId` keeps.
use Rattle.std.specs.Prelude.{string_bytes}
use Rattle.lsp_message.specs.Id.{Id, number, text}
use Rattle.lsp_message.specs.declared.msg.id.IdRepr.{IdRepr}
use Rattle.lsp_message.specs.declared.msg.id.IdRepr.TheVariants.{I32, String}

abbrev pub id_kept : IdRepr → Id
id_kept (I32 z) = number z
id_kept (String s) = text (string_bytes s)
