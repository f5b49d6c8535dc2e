-- Messages that are read back as they were written.
use Rattle.serde_json.specs.Read.{max_depth}
use Rattle.std.specs.Io.KnownBytes.{Appends}
use Rattle.std.specs.List.{AllByRecursion, FoldsTo}
use Rattle.std.specs.Prelude.{◌≡◌, ◌≤◌, ℕ, List, ◌++◌, map, Option}
use Rattle.lsp_message.specs.Frame.{Begins, no_limit}
use Rattle.lsp_message.specs.Message.{Message}
use Rattle.lsp_message.specs.Ranges.{nesting}
use Rattle.lsp_message.specs.Tree.{without_null_details}
use Rattle.lsp_message.specs.Written.{IsFrameOf}

-- the writer got a frame of the message; if that nests at most 127 levels, it is read from the front, whatever follows
abbrev pub WritesReadably : Message → Option (List ℕ) → Option (List ℕ) → Type 0
WritesReadably m old new =
    (text : List ℕ) × IsFrameOf m text × Appends old new text
    × (nesting m ≤ max_depth → (rest : List ℕ)
    → Begins no_limit (text ++ rest) (without_null_details m) rest)

-- Who reads the text gets these messages, in order, up to the first that nests more than 127 levels.
abbrev pub AreReadBack : List Message → List ℕ → Type 0
AreReadBack sent text =
    (got more : List Message) → sent ≡ got ++ more
    → AllByRecursion (λ m. nesting m ≤ max_depth) got
    → (rest : List ℕ) × FoldsTo (Begins no_limit) text (map without_null_details got) rest
