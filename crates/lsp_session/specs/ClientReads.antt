-- What a client gets that reads the bytes which a session wrote (LSP 3.17, "Base Protocol").
use Rattle.std.specs.Prelude.{◌≡◌, ◌⊎◌, ℕ, List, [], ◌∷◌, ◌++◌, Result, Err}
use Rattle.lsp_message.specs.Message.{Message}
use Rattle.lsp_message.specs.Readable.{AreReadBack}
use Rattle.lsp_session.specs.Session.{SessionPart, sends_of}
use Rattle.lsp_session.specs.declared.loops.handler.SessionEnd.{SessionEnd}
use Rattle.lsp_session.specs.declared.loops.stream_session.SessionFault.{SessionFault}
use Rattle.lsp_session.specs.declared.loops.stream_session.SessionFault.TheVariants.{Write, Memory}

-- a write failed, or an allocation
abbrev pub IsUnwritten : Result SessionEnd SessionFault → Type 0
IsUnwritten (Err (Write fault)) = Unit {0}
IsUnwritten (Err Memory) = Unit {0}
IsUnwritten result = ⊥

-- Who reads what was written gets the messages that were sent, in order. Only the last one may be missing, if a write
-- or an allocation failed.
abbrev pub ClientReads : List ℕ → Result SessionEnd SessionFault → SessionPart
ClientReads written result exchanges stop answer =
    (whole : List Message) × (missing : List Message) × (sends_of exchanges ≡ whole ++ missing)
    × AreReadBack whole written
    × ((missing ≡ []) ⊎ ((last : Message) × (missing ≡ last ∷ []) × IsUnwritten result))
