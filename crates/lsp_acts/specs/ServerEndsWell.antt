-- A session of a server that ended well, by its bytes: which messages came, and what was sent. This is the definition
-- to read first. `Serves` says it too, of each session, also of one that does not end well. It also says which bytes
-- went first, and what the server stated about its acts.
use Rattle.serde_json.specs.Data.{Data}
use Rattle.std.specs.List.{FoldsTo, list_all}
use Rattle.std.specs.Prelude.{◌≡◌, ◌≤◌, ◌⊎◌, ℕ, true, List, [], ◌∷◌, ◌++◌, None, Ok, codes}
use Rattle.lsp_message.specs.Frame.{Begins, reading_within}
use Rattle.lsp_message.specs.Id.{Id}
use Rattle.lsp_message.specs.Message.{Message, request, notification}
use Rattle.lsp_message.specs.declared.frame.limits.Limits.{Limits}
use Rattle.lsp_session.specs.EndsWell.{AreWritten}
use Rattle.lsp_session.specs.Replies.{null_reply}
use Rattle.lsp_session.specs.Session.{is_reply}
use Rattle.lsp_session.specs.declared.loops.handler.SessionEnd.{SessionEnd}
use Rattle.lsp_session.specs.declared.loops.handler.SessionEnd.TheVariants.{ShutDown, Closed}
use Rattle.lsp_acts.specs.Law.{how_many, is_reply_under, is_request_under}

-- How a client left, by its messages, by what was sent, and by the bytes that follow the messages. Either `shutdown`
-- came, then nothing but replies, and then `exit`; the null of `shutdown` was sent last; and each request whose id was
-- used once has its reply. Or `exit` came last, alone. After `exit` no byte is taken. Or no message came any more, and
-- the input ended.
abbrev pub EndsSo : Limits → SessionEnd → List Message → List Message → List ℕ → List ℕ → Type 0
EndsSo limit ShutDown messages sent rest left =
    (before : List Message) × (id : Id) × (params : Data) × (late : List Message) × (gone : Data)
    × (messages ≡ before ++ request id (codes "shutdown") params ∷ (late ++ notification (codes "exit") gone ∷ []))
    × (list_all is_reply late ≡ true)
    × (others : List Message) × (sent ≡ others ++ null_reply id ∷ [])
    × ((i : Id) → how_many (is_request_under i) messages ≡ 1 → how_many (is_reply_under i) sent ≡ 1)
    × (rest ≡ left)
EndsSo limit Closed messages sent rest left =
    ((before : List Message) × (gone : Data) × (messages ≡ before ++ notification (codes "exit") gone ∷ [])
    × (rest ≡ left))
    ⊎ (reading_within limit rest ≡ record { outcome = Ok None; rest = left })

-- The bytes that came, up to those that were left, are frames of these messages, and nothing else, but perhaps the end
-- of the input. The bytes that were given are frames of these messages of the server, and nothing else. Under no id are
-- there more replies than the client sent requests.
pub record ServerEndsWell (limit : Limits) (text left given : List ℕ) (end : SessionEnd) : Type 0 where
  pub messages : List Message
  pub sent : List Message
  pub rest : List ℕ
  pub came : FoldsTo (Begins limit) text messages rest
  pub went : AreWritten sent given
  pub never_more : (id : Id) → how_many (is_reply_under id) sent ≤ how_many (is_request_under id) messages
  pub ends : EndsSo limit end messages sent rest left
