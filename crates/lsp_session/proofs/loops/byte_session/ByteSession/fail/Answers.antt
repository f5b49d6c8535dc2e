use Rattle.std.proofs.Common.{◌≡◌, ◌≤◌, ◌++◌, Some, length, subst, sym, refl}
use Rattle.std.specs.List.{concat}
use Rattle.lsp_session.proofs.ByteHistory.{goes_closed, closed_over, closed_silent}
use Rattle.lsp_session.proofs.MessagesEnd.{begun_end, known_now}
use Rattle.lsp_session.proofs.Pausing.{no_pause}
use Rattle.lsp_session.proofs.Unread.{same_limits, unread_refused}
use Rattle.lsp_session.specs.ByteSessions.{standing, unread}
use Rattle.lsp_session.specs.declared.loops.ReadEnd.TheVariants.{Fault}
use Rattle.lsp_session.proofs.loops.byte_session.ByteSession.fail.Goals as goal

pub returns-clause-over : goal.returns-clause-over
returns-clause-over g c = closed_over c.args.self.now.input.limits c.args.self.now.most_pending g.S.Service.behavior
    (standing c.args.self.now) (standing c.come.new.self) c.come.ensures.comes

pub returns-clause-goes : goal.returns-clause-goes
returns-clause-goes g c =
    let old = c.args.self.now in
    let new = record c.come.new.self { end = Some (Fault c.args.fault); refused = c.args.refused } in
    let text = concat c.args.refused.parts ++ concat old.input.seen.parts in
    goes_closed old.input.limits old.most_pending g.S.Service.behavior (standing old) (standing new) text (unread new)
    old.end new.end c.args.fault refl c.requires.begins (unread_refused new old c.args.refused (returns-clause-over g c)
    refl c.come.ensures.input) c.requires.room c.requires.waits c.come.ensures.comes

pub returns-clause-known : goal.returns-clause-known
returns-clause-known g c =
    let old = c.args.self.now in
    let new = record c.come.new.self { end = Some (Fault c.args.fault); refused = c.args.refused } in
    let text = concat c.args.refused.parts ++ concat old.input.seen.parts in
    let over = returns-clause-over g c in
    known_now new (Fault c.args.fault) old.input.limits text refl (same_limits new old c.come.ensures.input)
    (unread_refused new old c.args.refused over refl c.come.ensures.input) over (begun_end old.input.limits text
    c.args.fault c.requires.begins)

pub returns-clause-paused : goal.returns-clause-paused
returns-clause-paused g c =
    let old = c.args.self.now in
    let new = record c.come.new.self { end = Some (Fault c.args.fault); refused = c.args.refused } in
    let room : length (standing old).pending ≤ old.most_pending = c.requires.room in
    let silent : (standing new).pending ≡ (standing old).pending = closed_silent old.input.limits old.most_pending
    g.S.Service.behavior (standing old) (standing new) c.come.ensures.comes in
    let most : new.most_pending ≡ old.most_pending = c.come.ensures.most in
    no_pause new (subst (λ l. length l ≤ new.most_pending) (sym silent) (subst (λ n. length (standing old).pending ≤ n)
    (sym most) room))
