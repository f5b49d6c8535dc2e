-- One round of a session over a reader. For private clauses.
use Rattle.std.specs.Prelude.{◌≡◌, ◌⊎◌, ◌++◌, ℕ, List, [], IsSomeAnd}
use Rattle.lsp_session.specs.ByteSession.{Comes, Goes, IsEndOf}
use Rattle.lsp_session.specs.ByteSessions.{standing, unread, EndsAtFrame, PausesAtFrame}
use Rattle.lsp_session.specs.Event.{closed}
use Rattle.lsp_session.specs.Session.{Behavior}
use Rattle.lsp_session.specs.declared.loops.byte_session.ByteSession.{ByteSession}

module _ {S : Type 0} (may : Behavior S) where
  -- bytes that the reader had left were taken, or none
  pub record Takes (old : ByteSession S) (text : List ℕ) (new : ByteSession S) (rest : List ℕ) : Type 0 where
    pub took : List ℕ
    pub split : text ≡ took ++ rest
    pub goes : Goes old.input.limits old.most_pending may (standing old) (unread old) old.end took (standing new)
        (unread new) new.end
    pub frame : EndsAtFrame new
    pub paused : PausesAtFrame new

  -- the reader had no byte left, and that ended the session
  pub record Closes (old : ByteSession S) (text : List ℕ) (new : ByteSession S) (rest : List ℕ) : Type 0 where
    pub none : text ≡ []
    pub left : rest ≡ []
    pub comes : Comes may (standing old) closed (standing new)
    pub unread_stays : unread new ≡ unread old
    pub end : IsSomeAnd new.end (IsEndOf old.input.limits (unread old))

  -- a session read from a reader that had these bytes left, and has these now
  abbrev pub ReadsSome : ByteSession S → List ℕ → ByteSession S → List ℕ → Type 0
  ReadsSome old text new rest = Takes old text new rest ⊎ Closes old text new rest
