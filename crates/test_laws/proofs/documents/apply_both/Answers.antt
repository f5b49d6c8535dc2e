use Rattle.std.proofs.Common.{Some, false, [], ◌∷◌, refl}
use Rattle.lsp_message.specs.View.{notification_view}
use Rattle.test_laws.proofs.Heard.{applied}
use Rattle.test_laws.proofs.documents.apply_both.Goals as goal

pub returns : goal.returns
returns c = λ meant means uri saves.
    let before = c.args.documents.now in
    let next = c.apply.new.self in
    let last = c.apply-2.new.self in
    c.texts_are_the_clients.ensures before last ((false, Some (notification_view c.args.first.now))
    ∷ (false, Some (notification_view c.args.second.now)) ∷ []) meant c.requires (
      before,
      next,
      refl,
      applied before next _ _ _ c.apply.ensures,
      (next, last, refl, applied next last _ _ _ c.apply-2.ensures, refl),
    ) means uri saves
