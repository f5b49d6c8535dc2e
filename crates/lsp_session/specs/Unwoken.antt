-- An inbox that was lent, as one that may also give wakes and gives none. For private clauses.
use Rattle.std.specs.Prelude.{◌≡◌}
use Rattle.lsp_session.specs.Boxes.{Receives}
use Rattle.lsp_session.specs.declared.loops.unwoken.Unwoken.{Unwoken}

-- a receive is one of the inbox that was lent, and it stays that one
abbrev pub UnwokenReceives : {I : Type 0} → Receives I → Receives (Unwoken I)
UnwokenReceives receives old event new = receives old.inbox.now event new.inbox.now
    × (new.inbox.ghost_name ≡ old.inbox.ghost_name)
