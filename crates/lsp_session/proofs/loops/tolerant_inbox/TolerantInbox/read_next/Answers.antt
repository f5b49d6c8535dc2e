use Rattle.std.proofs.Common.{sym, ◌∙◌}
use Rattle.lsp_session.proofs.ToldEvents.{told_next}
use Rattle.lsp_session.proofs.loops.tolerant_inbox.TolerantInbox.read_next.Goals.{then-is_exit, else-is_exit}
use Rattle.lsp_session.proofs.loops.tolerant_inbox.TolerantInbox.read_next.Goals as goal

pub returns-after-is_exit-clause-told : goal.returns-after-is_exit-clause-told
returns-after-is_exit-clause-told g c =
    let none = sym c.is_some.ensures ∙ c.if-is_some.false in
    let told = rw (c.in-Some.is) at c.in_ok-message.ensures.told in
    elim c.if-is_exit.branch [
      | then-is_exit w ↦ rw (w.self-is) (told_next _ _ c.args.self.now.end _ c.in-Some.message _ _ _ _ none told)
      | else-is_exit w ↦ rw (w.self-is) (told_next _ _ c.args.self.now.end _ c.in-Some.message _ _ _ _ none told)
    ]
