-- The text of a message (JSON-RPC 2.0, sections 4 and 5), and the content part that carries it (LSP 3.17, base
-- protocol).
use Rattle.std.specs.Prelude.{◌≡◌, ◌≤◌, ℕ, List, [], ◌++◌, false, Option, Some, None, Ok, Err, codes}
use Rattle.json.specs.Lex.{tokens}
use Rattle.json.specs.Print.{print}
use Rattle.serde_json.specs.Data.{Data, number, string, depth}
use Rattle.serde_json.specs.Find.{of_integer}
use Rattle.serde_json.specs.Read.{read, max_depth}
use Rattle.serde_json.specs.Written.{has_float, compact_text, IsInOrder}
use Rattle.lsp_message.specs.Meaning.{unless_null}
use Rattle.lsp_message.specs.Message.{ErrorObject, Message, request, notification, response}
use Rattle.lsp_message.specs.Tree.{id_tree}

-- A text that `serde_json` may write for a value, with no space. There is one if the value has no float. The digits of
-- a float are the choice of `serde_json`: they are read back as that float, as far as a value is read back at all,
-- which nests at most 127 levels.
pub record IsValueText (d : Data) (text : List ℕ) : Type 0 where
  pub exact : has_float d ≡ false → text ≡ compact_text d
  pub compact : text ≡ print (tokens text)
  pub in_order : IsInOrder text d
  pub reads_back : depth d ≤ max_depth → read text ≡ Some d

-- a member with what stands before it
abbrev pub named : List ℕ → List ℕ → List ℕ → List ℕ
named before name value = before ++ codes "\"" ++ name ++ codes "\":" ++ value

-- a member that may be left out, after others
abbrev pub IsLaterMember : List ℕ → Option Data → List ℕ → Type 0
IsLaterMember name None text = text ≡ []
IsLaterMember name (Some d) text = (value : List ℕ) × IsValueText d value
    × (text ≡ named (codes ",") name value)

abbrev pub IsErrorText : ErrorObject → List ℕ → Type 0
IsErrorText e text = (details : List ℕ) × IsLaterMember (codes "data") e.details details
    × (text ≡ named (codes "{") (codes "code") (compact_text (number (of_integer e.code)))
    ++ named (codes ",") (codes "message") (compact_text (string e.message)) ++ details
    ++ codes "}")

-- the text of a message's members, with what stands before them
abbrev pub IsTextFrom : List ℕ → Message → List ℕ → Type 0
IsTextFrom before (request i method params) text = (more : List ℕ)
    × IsLaterMember (codes "params") (unless_null (Some params)) more
    × (text ≡ named before (codes "id") (compact_text (id_tree i))
    ++ named (codes ",") (codes "method") (compact_text (string method)) ++ more ++ codes "}")
IsTextFrom before (notification method params) text = (more : List ℕ)
    × IsLaterMember (codes "params") (unless_null (Some params)) more
    × (text ≡ named before (codes "method") (compact_text (string method)) ++ more ++ codes "}")
IsTextFrom before (response i (Ok result)) text = (value : List ℕ) × IsValueText result value
    × (text ≡ named before (codes "id") (compact_text (id_tree i))
    ++ named (codes ",") (codes "result") value ++ codes "}")
IsTextFrom before (response i (Err e)) text = (value : List ℕ) × IsErrorText e value
    × (text ≡ named before (codes "id") (compact_text (id_tree i))
    ++ named (codes ",") (codes "error") value ++ codes "}")

-- the message alone
abbrev pub IsMemberText : Message → List ℕ → Type 0
IsMemberText m text = IsTextFrom (codes "{") m text

-- the content part of a message's frame
abbrev pub IsBodyOf : Message → List ℕ → Type 0
IsBodyOf m text = IsTextFrom (codes "{\"jsonrpc\":\"2.0\",") m text
