-- What a transport did in a session, act after act: it reads a message, takes all that is to be sent for it, and only
-- then reads again.
use Rattle.std.specs.Prelude.{◌≡◌, List, [], ◌∷◌, ◌++◌, Result, Ok, Err}
use Rattle.lsp_message.specs.Message.{Message}
use Rattle.lsp_session.specs.Event.{Event}
use Rattle.lsp_session.specs.Prompt.{History, any_wait}
use Rattle.lsp_session.specs.Session.{SessionPart, starting}
use Rattle.lsp_session.specs.declared.lifecycle.SendFault.{SendFault}

-- one act of a transport
pub data Act : Type 0 where
  -- this was received: a message that came, for one
  gave : Event → Act
  -- the message was sent, and the transport took it
  took : Message → Act
  -- the message was sent, and the transport refused it
  lost : Message → Act

-- the act of a send
abbrev pub sending : Message → Result (Unit {0}) SendFault → Act
sending m (Ok done) = took m
sending m (Err fault) = lost m

-- a list of acts, to which each receive and each send is added
abbrev pub NotesReceive : List Act → Event → List Act → Type 0
NotesReceive old event new = new ≡ old ++ gave event ∷ []

abbrev pub NotesSend : List Act → Message → Result (Unit {0}) SendFault → List Act → Type 0
NotesSend old m outcome new = new ≡ old ++ sending m outcome ∷ []

-- These are the acts of a session, in order: its history as a list.
abbrev pub InOrder : List Act → SessionPart
InOrder acts exchanges stop answer = History NotesReceive any_wait NotesSend starting exchanges stop answer [] acts
