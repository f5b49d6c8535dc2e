use Rattle.std.proofs.Common.{sym, ◌∙◌}
use Rattle.lsp_message.specs.Frame.{no_limit}
use Rattle.lsp_session.proofs.SessionGives.{finishes_over}
use Rattle.lsp_session.proofs.laws.streams.finish_over_reader.Goals as goal

pub returns : goal.returns
returns g c =
    rw c.new-inbox.ensures.unended at (finishes_over g.R.Read.remaining no_limit g.O.Outbox.sends c.args.reader.now _
    c.new-inbox.result c.finish.new.inbox
    _ _ c.new-inbox.ensures.unlimited c.new-inbox.ensures.unread (λ names. c.reader-1.given.1
    (sym c.new-inbox.ensures.same_reader ∙ sym names)) _ _ c.finish.ensures)
