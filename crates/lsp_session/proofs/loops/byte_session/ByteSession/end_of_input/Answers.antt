use Rattle.std.proofs.Common.{sym, subst, ℕ, List, Option}
use Rattle.std.specs.List.{concat}
use Rattle.lsp_message.specs.FrameInput.{IsEndOf as IsContentEnd}
use Rattle.lsp_message.specs.declared.frame.ReadFault.{ReadFault}
use Rattle.lsp_session.proofs.FrameReads.{ends_here, ends_in_fault}
use Rattle.lsp_session.proofs.Unread.{unread_seen}
use Rattle.lsp_session.specs.ByteSession.{IsEndOf}
use Rattle.lsp_session.specs.declared.loops.ReadEnd.TheVariants.{End as AtEnd, Fault as AtFault}
use Rattle.lsp_session.proofs.loops.byte_session.ByteSession.end_of_input.Goals as goal

pub returns-in-None : goal.returns-in-None
returns-in-None g c =
    let self = c.args.self.now in
    let limits = self.input.limits in
    let seen = concat self.input.seen.parts in
    let ended = subst (λ (e : Option ReadFault). IsContentEnd limits seen e) c.in-None.is c.at_end.ensures in
    subst (λ (l : List ℕ). IsEndOf limits l AtEnd) (sym (unread_seen self c.requires.waits))
    (ends_here limits seen ended)

pub returns-in-Some : goal.returns-in-Some
returns-in-Some g c =
    let self = c.args.self.now in
    let limits = self.input.limits in
    let seen = concat self.input.seen.parts in
    let ended = subst (λ (e : Option ReadFault). IsContentEnd limits seen e) c.in-Some.is c.at_end.ensures in
    subst (λ (l : List ℕ). IsEndOf limits l (AtFault c.in-Some.fault)) (sym (unread_seen self
    c.requires.waits)) (ends_in_fault limits seen c.in-Some.fault ended)
