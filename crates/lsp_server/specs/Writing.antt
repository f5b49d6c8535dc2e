-- What the thread that writes does (LSP 3.17, "Base Protocol"). For private clauses.
use Rattle.std.specs.Prelude.{◌≡◌, ◌⊎◌, true, ℕ, List, [], ◌∷◌, ◌++◌, Option, Result, Ok, Err}
use Rattle.std.specs.Io.KnownBytes.{Appends}
use Rattle.lsp_message.specs.Message.{Message}
use Rattle.lsp_message.specs.Written.{AppendsBeginning, AreFramesOf, GetsFrames}
use Rattle.lsp_message.specs.declared.frame.WriteFault.{WriteFault}
use Rattle.lsp_message.specs.declared.frame.WriteFault.TheVariants.{Output, Memory as NoMemory}
use Rattle.lsp_threads.specs.Threads.{BreaksOffWithin}
use Rattle.lsp_server.specs.Taken.{Taken, TakesMore}
use Rattle.lsp_server.specs.declared.io_fault.IoFault.{IoFault}
use Rattle.lsp_server.specs.declared.io_fault.IoFault.TheVariants.{Read, Write, Closed, Start, Socket, Memory}

-- All messages that were taken are written in order, and the channel told that no more come. At a fault the first ones
-- are written, and a beginning of the next; or all but the last, for whose frame there was no memory.
abbrev pub WritesMessages : Taken → Option (List ℕ) → Result (Unit {0}) IoFault → Option (List ℕ)
    → Type 0
WritesMessages taken old (Ok done) new = (taken.is_closed ≡ true) × GetsFrames taken.messages old new
WritesMessages taken old (Err (Write (Output kind))) new = BreaksOffWithin taken.messages old new
WritesMessages taken old (Err (Write NoMemory)) new = (ms : List Message) × (m : Message)
    × (taken.messages ≡ ms ++ m ∷ []) × GetsFrames ms old new
WritesMessages taken old (Err (Read fault)) new = ⊥
WritesMessages taken old (Err Closed) new = ⊥
WritesMessages taken old (Err Start) new = ⊥
WritesMessages taken old (Err (Socket kind)) new = ⊥
WritesMessages taken old (Err Memory) new = ⊥

-- A message is written, and others that were taken behind it; or a beginning of all that. If a frame could not be made,
-- the messages before that one were written.
abbrev pub WritesFrom : Message → Taken → Option (List ℕ) → Result (Unit {0}) WriteFault → Taken
    → Option (List ℕ) → Type 0
WritesFrom m before old (Ok done) after new = (behind : List Message) × TakesMore before behind after
    × GetsFrames (m ∷ behind) old new
WritesFrom m before old (Err (Output kind)) after new = (behind : List Message)
    × TakesMore before behind after × BreaksOffWithin (m ∷ behind) old new
WritesFrom m before old (Err NoMemory) after new = ((after ≡ before) × (new ≡ old))
    ⊎ ((behind : List Message) × (last : Message) × TakesMore before (behind ++ last ∷ []) after
    × GetsFrames (m ∷ behind) old new)

-- a frame, and frames of messages behind it
abbrev pub IsBehind : List ℕ → List Message → List ℕ → Type 0
IsBehind frame behind text = (frames : List ℕ) × AreFramesOf behind frames × (text ≡ frame ++ frames)

-- A frame is written, and frames of messages that were taken behind it; or a beginning of all that, if the writer
-- fails, perhaps without those of the last messages. Or there is no memory for the frame of the last one.
abbrev pub WritesBehind : List ℕ → Taken → Option (List ℕ) → Result (Unit {0}) WriteFault → Taken
    → Option (List ℕ) → Type 0
WritesBehind frame before old (Ok done) after new = (behind : List Message)
    × TakesMore before behind after × (text : List ℕ) × IsBehind frame behind text
    × Appends old new text
WritesBehind frame before old (Err (Output kind)) after new = (behind : List Message)
    × (last : List Message) × TakesMore before (behind ++ last) after × (text : List ℕ)
    × IsBehind frame behind text × AppendsBeginning old new text
WritesBehind frame before old (Err NoMemory) after new = (behind : List Message) × (last : Message)
    × TakesMore before (behind ++ last ∷ []) after × (text : List ℕ) × IsBehind frame behind text
    × Appends old new text

-- a text is written before the fault that no memory is left; or a beginning of it, if the writer fails
abbrev pub FailsBehind : List ℕ → WriteFault → Option (List ℕ) → Option (List ℕ) → Type 0
FailsBehind text (Output kind) old new = AppendsBeginning old new text
FailsBehind text NoMemory old new = Appends old new text
