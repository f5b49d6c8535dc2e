-- The messages that passed between a test client and its server.
use Rattle.std.specs.Prelude.{◌≡◌, ℕ, List, [], ◌∷◌, ◌++◌, codes, string_bytes}
use Rattle.lsp_message.specs.Frame.{Begins, no_limit}
use Rattle.lsp_message.specs.Message.{Message}
use Rattle.lsp_message.specs.Text.{IsMemberText}
use Rattle.lsp_message.specs.View.{message_view}
use Rattle.lsp_message.specs.declared.msg.Message as msg
use Rattle.lsp_testing.specs.declared.traffic.Traffic.{Traffic}

-- what stands in front of a message of the client, and of one of the server
abbrev pub from_client : List ℕ
from_client = codes "-> "

abbrev pub to_client : List ℕ
to_client = codes "<- "

-- The line of the message comes after the other lines.
abbrev pub AddsLine : List ℕ → Message → Traffic → Traffic → Type 0
AddsLine mark m old new = (text : List ℕ) × IsMemberText m text
    × (string_bytes new.lines ≡ string_bytes old.lines ++ (mark ++ (text ++ codes "\n")))

-- A message of the server arrives: it has its line, and it is kept after those that nobody took.
abbrev pub Arrives : msg.Message → Traffic → Traffic → Type 0
Arrives m old new = AddsLine to_client (message_view m) old new × (new.own.items ≡ old.own.items ++ m ∷ [])

-- The text begins with a frame that means this message. It arrives, and the rest of the text stays.
abbrev pub Reads : List ℕ × Traffic → msg.Message → List ℕ × Traffic → Type 0
Reads old m new = Begins no_limit old.0 (message_view m) new.0 × Arrives m old.1 new.1
