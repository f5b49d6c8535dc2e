-- What the thread that reads does. For private clauses.
use Rattle.std.specs.Prelude.{◌≡◌, ℕ, List, [], ◌∷◌, ◌++◌, Option, Result, Ok, Err}
use Rattle.lsp_message.specs.Message.{Message}
use Rattle.lsp_message.specs.View.{message_view}
use Rattle.lsp_message.specs.declared.frame.limits.Limits.{Limits}
use Rattle.lsp_server.specs.declared.reading.Weighed.{Weighed}
use Rattle.lsp_session.specs.ReadLoop.{Hands}
use Rattle.lsp_session.specs.declared.lifecycle.SendFault.{SendFault}
use Rattle.lsp_session.specs.declared.loops.ReadEnd.{ReadEnd}

-- the message that was read
abbrev pub weighed_view : Weighed → Message
weighed_view weighed = message_view weighed.message

-- what was sent into a channel: one message more, or no more if it was refused
abbrev pub sends_one : List Message → Message → Result (Unit {0}) SendFault → List Message → Type 0
sends_one old m (Ok done) new = new ≡ old ++ m ∷ []
sends_one old m (Err fault) new = new ≡ old

-- the messages of the text were handed on, up to such an end: they are what was sent
abbrev pub HandsOn : Limits → List ℕ → List Message → Option (List ℕ) → ReadEnd → List Message → Type 0
HandsOn limit text old left end new = Hands limit sends_one text old new left end
