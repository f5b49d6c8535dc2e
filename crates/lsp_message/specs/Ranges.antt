-- The numbers of a message have 32 signed bits (LSP 3.17, "Base Types"), and how deep its tree nests.
use Rattle.std.specs.Prelude.{◌≡◌, ℕ, true, Ok, Err}
use Rattle.serde_json.specs.Data.{depth}
use Rattle.lsp_message.specs.Id.{Id, number, text}
use Rattle.lsp_message.specs.Meaning.{is_i32}
use Rattle.lsp_message.specs.Message.{Message, request, notification, response}
use Rattle.lsp_message.specs.Tree.{tree_of}

abbrev pub IsIdInRange : Id → Type 0
IsIdInRange (number z) = is_i32 z ≡ true
IsIdInRange (text s) = Unit {0}

abbrev pub IsInRange : Message → Type 0
IsInRange (request i method params) = IsIdInRange i
IsInRange (notification method params) = Unit {0}
IsInRange (response i (Ok result)) = IsIdInRange i
IsInRange (response i (Err e)) = IsIdInRange i × (is_i32 e.code ≡ true)

-- the levels of lists and objects in a message, itself among them
abbrev pub nesting : Message → ℕ
nesting m = depth (tree_of m)
