use Rattle.std.proofs.Common.{not}
use Rattle.lsp_judge.proofs.Unread.{content_reads, line_read, line_sees}
use Rattle.lsp_judge.proofs.recording.see_line.Goals as goal

pub returns-clause-read : goal.returns-clause-read
returns-clause-read g c = line_read c.args.line.now c.in-Some.content.now c.in-Some.direction c.in_ok-message.message
    (not c.is_unread-is_read.result)
    c.in-Some.ensures.0 c.in-Some.ensures.1
    (content_reads c.in_ok-message.message c.is_unread-is_read.result c.is_unread-is_read.ensures c.in-Some.content.now
    c.in_ok-message.ensures.text c.in_ok-message.ensures.bytes)

pub returns-clause-seen : goal.returns-clause-seen
returns-clause-seen g c = λ j judges ignored read.
    line_sees c.args.line.now c.in-Some.content.now c.in-Some.direction c.in_ok-message.message
    (not c.is_unread-is_read.result)
    c.in-Some.ensures.0 c.in-Some.ensures.1
    (content_reads c.in_ok-message.message c.is_unread-is_read.result c.is_unread-is_read.ensures c.in-Some.content.now
    c.in_ok-message.ensures.text c.in_ok-message.ensures.bytes)
    c.args.report.now.choice.now c.args.report.now.may_begin_late c.args.number j c.see-seen.new.self
    c.new-passing.result
    c.new-passing.ensures.direction c.new-passing.ensures.message c.new-passing.ensures.order
    c.new-passing.ensures.types read
    (c.in_ok-seen.ensures j judges ignored)
