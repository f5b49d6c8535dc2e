use Rattle.std.proofs.Common.{Global, string_bytes}
use Rattle.std.proofs.lemmas.Str.{IsUtf8-string_bytes}
use Rattle.lsp_message.specs.View.{message_view}
use Rattle.lsp_message.proofs.ReadsBack.{result_reads}
use Rattle.lsp_message.proofs.msg.Message.body_text.Goals as goal

pub returns-clause-reads_back : goal.returns-clause-reads_back
returns-clause-reads_back c = result_reads (string_bytes {Z = Global}) (λ s. IsUtf8-string_bytes s)
    (message_view c.args.self.now) c.text_from.result c.text_from.ensures.text c.text_from.ensures.range
