use Rattle.std.proofs.Common.{◌∙◌, sym}
use Rattle.lsp_threads.proofs.ContentReads.{may_send_more, sent_contents, sent_open}
use Rattle.lsp_threads.proofs.content_batch.deliver_contents.Goals as goal

pub send-requires-clause-planned : goal.send-requires-clause-planned
send-requires-clause-planned g c = may_send_more c.args.tx.now.source c.args.tx.now.sent c.args.contents
    c.requires.begins

pub returns-clause-contents : goal.returns-clause-contents
returns-clause-contents g c = λ is. sent_contents c.send.result c.args.tx.now.sent c.send.new.self.sent c.args.contents
    c.send.ensures.sent (sym c.is_ok.ensures.value ∙ is)

pub returns-clause-still_open : goal.returns-clause-still_open
returns-clause-still_open g c = sent_open c.send.result c.args.tx.now.sent c.send.new.self.sent c.args.contents
    c.send.ensures.sent c.send.ensures.refused c.requires.«open»
