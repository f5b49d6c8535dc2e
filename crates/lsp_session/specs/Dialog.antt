-- A session as its client sees it: a client that waits only for messages which are due to it is never kept waiting by a
-- session that waits for it.
use Rattle.std.specs.Prelude.{◌≡◌, Bool, true, List, [], ◌∷◌, ◌++◌}
use Rattle.lsp_message.specs.Message.{Message}
use Rattle.lsp_session.specs.Account.{Act, gave, took, lost}
use Rattle.lsp_session.specs.Answered.{RepliesToEach, requests_of}
use Rattle.lsp_session.specs.Event.{message}
use Rattle.lsp_session.specs.Session.{Behavior, Exchange, messages_of, sends_of, Phase, starting, broken, ended, Steps}

-- A client by its own rule: whether it sends on, or closes, after it sent these messages and got those. Otherwise it
-- waits for more.
abbrev pub Client : Type 0
Client = List Message → List Message → Bool

-- Each time that the session awaited something, the client was not waiting, if it had sent the messages that the
-- session had read, and got those that the session had sent. So the two never wait for each other; what the client sent
-- besides is under way. It ends at a message that the transport refused: after one the client gets nothing more.
abbrev pub NeverBothWait : Client → List Message → List Message → List Act → Type 0
NeverBothWait goes_on sent got [] = Unit {0}
NeverBothWait goes_on sent got (gave (message m) ∷ acts) = (goes_on sent got ≡ true)
    × NeverBothWait goes_on (sent ++ m ∷ []) got acts
NeverBothWait goes_on sent got (gave event ∷ acts) = (goes_on sent got ≡ true)
    × NeverBothWait goes_on sent got acts
NeverBothWait goes_on sent got (took m ∷ acts) = NeverBothWait goes_on sent (got ++ m ∷ []) acts
NeverBothWait goes_on sent got (lost m ∷ acts) = Unit {0}

-- The client waits for replies to its requests, and for nothing else: once each has its one reply, it goes on.
abbrev pub WaitsForReplies : Client → Type 0
WaitsForReplies goes_on = (sent got : List Message) → RepliesToEach (requests_of sent) got
    → goes_on sent got ≡ true

-- something is awaited in the phase
abbrev pub awaits : Phase → Type 0
awaits (broken fault) = ⊥
awaits (ended answer) = ⊥
awaits phase = Unit {0}

-- The client waits for what the session sends for its messages, and for nothing else: once it got all of that, it goes
-- on.
abbrev pub WaitsForItsDue : {S : Type 0} → Behavior S → S → Client → Type 0
WaitsForItsDue may s goes_on = (exchanges : List Exchange) (phase : Phase) (s' : _)
    → Steps may starting s exchanges phase s' → awaits phase
    → goes_on (messages_of exchanges) (sends_of exchanges) ≡ true
