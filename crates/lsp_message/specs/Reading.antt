-- What a reader of bytes answers, and what it leaves unread.
use Rattle.std.specs.Prelude.{◌≡◌, ℕ, List, ◌∷◌, ◌++◌, Option, Some, option_map, Result, Ok, Err}
use Rattle.std.specs.Result.{result_map_both}
use Rattle.lsp_message.specs.declared.frame.ReadFault.{ReadFault}
use Rattle.lsp_message.specs.declared.frame.ReadFault.TheVariants.{Input, Memory}

-- what the bytes at the front of a text come to, and the bytes that follow them: an answer, none if the text is at its
-- end, or a fault
pub record Reading (A : Type 0) : Type 0 where
  pub outcome : Result (Option A) ReadFault
  pub rest : List ℕ

-- an answer that is there, or a fault
abbrev pub found : {A : Type 0} → Result A ReadFault → Result (Option A) ReadFault
found result = result_map_both Some (λ fault. fault) result

-- no byte after those of the reading was taken
abbrev pub StopsWithin : {A : Type 0} → Option (List ℕ) → Reading A → Type 0
StopsWithin left reading = (unread : List ℕ) × (left ≡ Some (unread ++ reading.rest))

-- the last byte of the reading was not taken, nor any after it
abbrev pub StopsBefore : {A : Type 0} → Option (List ℕ) → Reading A → Type 0
StopsBefore left reading = (byte : ℕ) × (unread : List ℕ)
    × (left ≡ Some (byte ∷ unread ++ reading.rest))

-- What was answered and what is left unread. If the reader failed or memory ran out, nothing after the reading was
-- taken.
abbrev pub Answers : {X A : Type 0} → (X → A) → Result (Option X) ReadFault → Option (List ℕ)
    → Reading A → Type 0
Answers view (Ok answer) left reading = (reading.outcome ≡ Ok (option_map view answer))
    × (left ≡ Some reading.rest)
Answers view (Err (Input kind)) left reading = StopsWithin left reading
Answers view (Err Memory) left reading = StopsWithin left reading
Answers view (Err fault) left reading = (reading.outcome ≡ Err fault) × (left ≡ Some reading.rest)
