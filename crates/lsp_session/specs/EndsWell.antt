-- A session of a handler that ended well, by its bytes: which messages came, and what was sent for them. This is the
-- definition to read first. `Serves` and `Gives` say it too, of each session, also of one that does not end well.
-- `Serves` also says which bytes went first.
use Rattle.serde_json.specs.Data.{Data}
use Rattle.std.specs.List.{FoldsTo, AllZip, concat, flat_map, list_all}
use Rattle.std.specs.Io.KnownBytes.{Appends}
use Rattle.std.specs.Prelude.{◌≡◌, ◌⊎◌, ℕ, true, List, [], ◌∷◌, ◌++◌, Option, Some, None, Result, Ok, codes}
use Rattle.lsp_message.specs.Frame.{Begins, reading_within}
use Rattle.lsp_message.specs.Id.{Id}
use Rattle.lsp_message.specs.Message.{Message, ErrorObject, request, notification, response}
use Rattle.lsp_message.specs.Methods.{is_early}
use Rattle.lsp_message.specs.Text.{IsBodyOf}
use Rattle.lsp_message.specs.Written.{frame_text}
use Rattle.lsp_message.specs.declared.frame.limits.Limits.{Limits}
use Rattle.lsp_session.specs.Answered.{RepliesToEach, requests_of}
use Rattle.lsp_session.specs.HandlerSession.{initialize_result, Handles}
use Rattle.lsp_session.specs.Replies.{null_reply, IsEarlyReply}
use Rattle.lsp_session.specs.Session.{is_served}
use Rattle.lsp_session.specs.declared.loops.handler.SessionEnd.{SessionEnd}
use Rattle.lsp_session.specs.declared.loops.handler.SessionEnd.TheVariants.{ShutDown, Closed}
use Rattle.lsp_session.specs.declared.loops.transcript.Noted.{Noted}
use Rattle.lsp_session.specs.declared.loops.transcript.Noted.TheVariants.{Gave, Came, Took, Lost, TookText, LostText}
use Rattle.lsp_session.specs.declared.loops.transcript.Transcript.{Transcript}

-- the bytes that were taken from the reader in an act, and in all
abbrev pub taken_at : Noted → List ℕ
taken_at (Gave event taken) = concat taken.parts
taken_at (Came arrival taken) = concat taken.parts
taken_at act = []

abbrev pub all_taken : Transcript → List ℕ
all_taken t = flat_map taken_at t.acts

-- the bytes that were given to the writer in an act, and in all
abbrev pub given_at : Noted → List ℕ
given_at (Gave event taken) = []
given_at (Came arrival taken) = []
given_at (Took m given) = concat given.parts
given_at (Lost m given) = concat given.parts
given_at (TookText id text given) = concat given.parts
given_at (LostText id text given) = concat given.parts

abbrev pub all_given : Transcript → List ℕ
all_given t = flat_map given_at t.acts

-- frames of these messages, in order, and nothing else
abbrev pub AreWritten : List Message → List ℕ → Type 0
AreWritten [] text = text ≡ []
AreWritten (m ∷ ms) text = (body : List ℕ) × (more : List ℕ) × IsBodyOf m body × AreWritten ms more
    × (text ≡ frame_text body ++ more)

-- The last messages, their replies, the bytes that follow the messages, and those of them that were left. Either
-- `shutdown` gets null, and then `exit` comes. Or `exit` comes alone. After `exit` no byte is taken. Or no message
-- comes any more, and the input ended.
abbrev pub EndsBy : Limits → SessionEnd → List Message → List Message → List ℕ → List ℕ → Type 0
EndsBy limit ShutDown last replies rest left =
    (id : Id) × (params : Data) × (gone : Data)
    × (last ≡ request id (codes "shutdown") params ∷ notification (codes "exit") gone ∷ [])
    × (replies ≡ null_reply id ∷ []) × (rest ≡ left)
EndsBy limit Closed last replies rest left = (replies ≡ [])
    × (((gone : Data) × (last ≡ notification (codes "exit") gone ∷ []) × (rest ≡ left))
    ⊎ ((last ≡ []) × (reading_within limit rest ≡ record { outcome = Ok None; rest = left })))

module _ {H : Type 0} (answers : H → Id → List ℕ → Data → Result Data ErrorObject → H
    → Type 0) (notes : H → List ℕ → Data → H → Type 0) where
  -- The handler goes from old to new at these messages, one after another: each request gets one reply that the handler
  -- may give then, and nothing else is sent.
  abbrev pub Handled : H → List Message → List Message → H → Type 0
  Handled old [] replies new = (replies ≡ []) × (new ≡ old)
  Handled old (m ∷ more) replies new =
      (first : List Message) × (mid : H) × (later : List Message) × Handles answers notes old m first mid
      × (replies ≡ first ++ later) × Handled mid more later new

  -- The bytes that came, up to those that were left, are frames of these messages, and nothing else, but perhaps the
  -- end of the input. The bytes that were given are frames of these replies, and nothing else: one to each request,
  -- under its id, in order.
  pub record EndsWell (limit : Limits) (capabilities : Data) (old : H) (text left given : List ℕ) (end : SessionEnd)
      (new : H) : Type 0 where
    pub messages : List Message
    pub replies : List Message
    pub rest : List ℕ
    pub came : FoldsTo (Begins limit) text messages rest
    pub went : AreWritten replies given
    pub answered : RepliesToEach (requests_of messages) replies
    -- which messages these are, and their replies
    pub early : List Message
    pub id : Id
    pub params : Data
    pub opened : Data
    pub served : List Message
    pub last : List Message
    pub in_order : messages ≡ early ++ request id (codes "initialize") params
        ∷ notification (codes "initialized") opened ∷ (served ++ last)
    pub refusals : List Message
    pub handled : List Message
    pub parting : List Message
    pub replied : replies ≡ refusals ++ response id (Ok (initialize_result capabilities)) ∷ (handled ++ parting)
    -- requests before `initialize` get an error, the handler gets the messages up to `shutdown` or `exit`
    pub all_early : list_all is_early early ≡ true
    pub refused : AllZip IsEarlyReply (requests_of early) refusals
    pub all_served : list_all is_served served ≡ true
    pub handles : Handled old served handled new
    pub ends : EndsBy limit end last parting rest left

  -- The same of a reader that had these bytes and has those left, and of a writer before and after it.
  abbrev pub EndsWellBetween : Limits → Data → H → List ℕ → Option (List ℕ) → Option (List ℕ) → Option (List ℕ)
      → SessionEnd → H → Type 0
  EndsWellBetween limit capabilities old text remaining before after end new = (left : List ℕ) × (given : List ℕ)
      × (remaining ≡ Some left) × Appends before after given
      × EndsWell limit capabilities old text left given end new
