-- What a call is by the members of its object.
use Rattle.std.proofs.Common.{◌≡◌, ℕ, List, [], Option, Some, None, Result, Ok, false, refl, sym, ap, ◌∙◌, codes}
use Rattle.std.specs.Prelude.{option_and_then, option_map, unwrap_or}
use Rattle.std.specs.Prelude.{IsUtf8}
use Rattle.std.specs.Str.{bytes_eq}
use Rattle.std.proofs.lemmas.Str.{is_utf8-from_IsUtf8}
use Rattle.std.proofs.lemmas.Option.{none-some}
use Rattle.serde_json.specs.Data.{Data, null, boolean, number, string, array, object}
use Rattle.serde_json.specs.Find.{as_str, as_number}
use Rattle.serde_json.specs.Read.{read}
use Rattle.lsp_message.specs.Frame.{body_means}
use Rattle.lsp_message.specs.Id as id
use Rattle.lsp_message.specs.Id.{Id}
use Rattle.lsp_message.specs.Meaning.{as_i32, as_id, meaning, message_of}
use Rattle.lsp_message.specs.Message.{ErrorObject, Message}
use Rattle.lsp_message.specs.Methods.{is_exit}
use Rattle.lsp_calls.specs.Contents.{call_in, call_of, id_in, message_in, method_in}

-- a message with a method is a call
by_method : (method : List ℕ) (found : Option Id) (params : Data) (outcome : Option (Result Data ErrorObject))
    → message_of (Some method) found params outcome ≡ Some (call_of method found params)
by_method method (Some i) params outcome = refl
by_method method None params outcome = refl

means : (json : Data) (method : List ℕ) → method_in json ≡ Some method → meaning json ≡ Some (call_in json (id_in json))
means null method is = absurd (none-some _ is)
means (boolean b) method is = absurd (none-some _ is)
means (number n) method is = absurd (none-some _ is)
means (string s) method is = absurd (none-some _ is)
means (array js) method is = absurd (none-some _ is)
means (object ms) method is = rw is (by_method method _ _ _)

-- a content part whose JSON has a method means a call
pub means_call : (bytes : List ℕ) (json : Data) (method : List ℕ) → IsUtf8 bytes → read bytes ≡ Some json
    → method_in json ≡ Some method → body_means bytes ≡ Ok (call_in json (id_in json))
means_call bytes json method utf8 reads is = rw (is_utf8-from_IsUtf8 bytes utf8, reads, means json method is) refl

-- this call is the message of the content part
pub is_in : (bytes : List ℕ) (m : Message) → body_means bytes ≡ Ok m → message_in bytes ≡ m
unfolding message_in
is_in bytes m is = rw is refl

pub holds : (bytes : List ℕ) (json : Data) (method : List ℕ) → IsUtf8 bytes → read bytes ≡ Some json
    → method_in json ≡ Some method → body_means bytes ≡ Ok (message_in bytes)
holds bytes json method utf8 reads is =
    let means = means_call bytes json method utf8 reads is in
    means ∙ ap Ok (sym (is_in bytes _ means))

-- a call of another method is not `exit`
other_method : (method : List ℕ) (found : Option Id) (params : Data) → bytes_eq method (codes "exit") ≡ false
    → is_exit (call_of method found params) ≡ false
other_method method (Some i) params other = refl
other_method method None params other = other

pub goes_on : (bytes : List ℕ) (json : Data) (method : List ℕ) → IsUtf8 bytes → read bytes ≡ Some json
    → method_in json ≡ Some method → bytes_eq method (codes "exit") ≡ false → is_exit (message_in bytes) ≡ false
goes_on bytes json method utf8 reads is other =
    let means = means_call bytes json method utf8 reads is in
    let named : unwrap_or (method_in json) [] ≡ method = rw is refl in
    ap is_exit (is_in bytes _ means)
    ∙ other_method _ (id_in json) _ (ap (λ m. bytes_eq m (codes "exit")) named ∙ other)

-- an id that is a text
pub text_id : (json : Data) (text : List ℕ) → as_str json ≡ Some text → as_id json ≡ Some (id.text text)
text_id null text is = absurd (none-some _ is)
text_id (boolean b) text is = absurd (none-some _ is)
text_id (number n) text is = absurd (none-some _ is)
text_id (string s) text is = ap (option_map id.text) is
text_id (array js) text is = absurd (none-some _ is)
text_id (object ms) text is = absurd (none-some _ is)

-- any other id is a number
pub other_id : (json : Data) → as_str json ≡ None
    → as_id json ≡ option_map id.number (option_and_then as_i32 (as_number json))
other_id null none = refl
other_id (boolean b) none = refl
other_id (number n) none = refl
other_id (string s) none = absurd (none-some _ (sym none))
other_id (array js) none = refl
other_id (object ms) none = refl
