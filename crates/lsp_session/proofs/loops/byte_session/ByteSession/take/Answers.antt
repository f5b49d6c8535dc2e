use Rattle.std.proofs.Common.{◌≡◌, ◌++◌, ◌∙◌, sym, ap, subst, ℕ, List, [], append-nil, Result}
use Rattle.std.specs.List.{concat}
use Rattle.lsp_message.specs.Frame.{body_means}
use Rattle.lsp_message.specs.ReadingSteps.{Decodes}
use Rattle.lsp_message.specs.declared.frame.ReadFault.{ReadFault}
use Rattle.lsp_session.proofs.ByteHistory.{goes_message}
use Rattle.lsp_session.proofs.FrameReads.{frame_refused, message_read}
use Rattle.lsp_session.proofs.Unread.{unread_seen}
use Rattle.lsp_session.specs.ByteSession.{BeginsWithFault}
use Rattle.lsp_session.specs.ByteSessions.{standing, unread}
use Rattle.lsp_session.specs.Incoming.{incoming_view}
use Rattle.lsp_session.specs.declared.loops.incoming.Incoming.{Incoming}
use Rattle.lsp_session.proofs.loops.byte_session.ByteSession.take.Goals as goal

pub fail-requires-clause-begins : goal.fail-requires-clause-begins
fail-requires-clause-begins g c =
    let old = c.args.self.now in
    let limits = old.input.limits in
    let bytes = concat c.args.frame.bytes.parts in
    let content = c.args.frame.content.items in
    let decodes = subst (λ (r : Result Incoming ReadFault). Decodes incoming_view r (body_means content)) c.in-Err.is
    c.in_part.ensures in
    let all : bytes ++ concat old.input.seen.parts ≡ bytes = ap (λ l. bytes ++ l) c.requires.begins
    ∙ append-nil bytes in
    subst (λ (l : List ℕ). BeginsWithFault limits l c.in-Err.fault) (sym all) (frame_refused limits incoming_view
    content bytes c.in-Err.fault c.requires.whole decodes)

pub returns-in-Ok-clause-goes : goal.returns-in-Ok-clause-goes
returns-in-Ok-clause-goes g c =
    let old = c.args.self.now in
    let new = c.come.new.self in
    let limits = old.input.limits in
    let bytes = concat c.args.frame.bytes.parts in
    let content = c.args.frame.content.items in
    let decodes = subst (λ (r : Result Incoming ReadFault). Decodes incoming_view r (body_means content)) c.in-Ok.is
    c.in_part.ensures in
    let none = unread_seen old c.requires.waits ∙ c.requires.begins in
    goes_message limits old.most_pending g.S.Service.behavior (standing old) (standing new) (incoming_view c.in-Ok.came)
    bytes bytes [] (unread new) old.end new.end (message_read limits content bytes (incoming_view c.in-Ok.came)
    c.requires.whole decodes) (sym (append-nil bytes)) (c.come.ensures.unread ∙ none) c.come.ensures.end c.requires.room
    c.requires.waits (rw (c.into_came.ensures) at c.come.ensures.comes)
