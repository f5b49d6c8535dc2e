-- Which message a tree is (JSON-RPC 2.0, sections 4 and 5).
use Rattle.std.specs.Prelude.{ℕ, ◌^◌, ℤ, pos, negsuc, List, Bool, nat_lt, if◌then◌else◌, Option, Some, None, option_map}
use Rattle.std.specs.Prelude.{option_and_then, unwrap_or, Result, Ok, Err, codes}
use Rattle.serde_json.specs.Data.{Num, Data, null, number, string, array, object, Items, no_items, item}
use Rattle.serde_json.specs.Find.{get_member, as_str, as_number, as_integer}
use Rattle.lsp_message.specs.Id as id
use Rattle.lsp_message.specs.Id.{Id}
use Rattle.lsp_message.specs.Message.{ErrorObject, Message, request, notification, response}

-- from -2147483648 to 2147483647
abbrev pub is_i32 : ℤ → Bool
is_i32 (pos n) = nat_lt n (2 ^ 31)
is_i32 (negsuc n) = nat_lt n (2 ^ 31)

-- a whole number of 32 signed bits
abbrev pub as_i32 : Num → Option ℤ
as_i32 n = option_and_then (λ z. if is_i32 z then Some z else None) (as_integer n)

-- a good id is a text or a whole number of 32 signed bits
abbrev pub as_id : Data → Option Id
as_id (number n) = option_map id.number (as_i32 n)
as_id (string s) = Some (id.text s)
as_id tree = None

-- a member that is there and is not null
abbrev pub unless_null : Option Data → Option Data
unless_null (Some null) = None
unless_null given = given

-- ---- an error object (section 5.1)

abbrev pub error_of : Option ℤ → Option (List ℕ) → Option Data → Option ErrorObject
error_of (Some code) (Some message) details =
    Some (record { code = code; message = message; details = unless_null details })
error_of code message details = None

abbrev pub code_of : Data → Option ℤ
code_of d = option_and_then as_i32 (as_number d)

abbrev pub listed_error : Items → Option ErrorObject
listed_error (item code (item message no_items)) = error_of (code_of code) (as_str message) None
listed_error (item code (item message (item details no_items))) =
    error_of (code_of code) (as_str message) (Some details)
listed_error items = None

-- a readable error: an object, or a list of two or three members in the order code, message, data
abbrev pub as_error : Data → Option ErrorObject
as_error (array ds) = listed_error ds
as_error (object ms) =
    error_of (option_and_then code_of (get_member (codes "code") ms))
    (option_and_then as_str (get_member (codes "message") ms))
    (get_member (codes "data") ms)
as_error tree = None

-- ---- a message

-- the error that came of a request, unless a result stands beside it
abbrev pub failure_of : Option Data → Data → Option (Result Data ErrorObject)
failure_of None e = option_map Err (as_error e)
failure_of (Some r) e = None

-- What came of a request, by the member `result` and by the member `error`, which counts unless it is null:
-- `result`, a null too, if `error` doesn't count; else the error, if `result` is absent or null; else nothing.
abbrev pub outcome_of : Option Data → Option Data → Option (Result Data ErrorObject)
outcome_of result None = option_map Ok result
outcome_of result (Some e) = failure_of (unless_null result) e

-- by the members `method`, if it is a text, and `id`, if it is good
abbrev pub message_of : Option (List ℕ) → Option Id → Data → Option (Result Data ErrorObject)
    → Option Message
message_of (Some method) (Some i) params outcome = Some (request i method params)
message_of (Some method) None params outcome = Some (notification method params)
message_of None (Some i) params outcome = option_map (response i) outcome
message_of None None params outcome = None

-- the message that a tree is, if it is one
abbrev pub meaning : Data → Option Message
meaning (object ms) =
    message_of (option_and_then as_str (get_member (codes "method") ms))
    (option_and_then as_id (get_member (codes "id") ms))
    (unwrap_or (get_member (codes "params") ms) null)
    (outcome_of (get_member (codes "result") ms) (unless_null (get_member (codes "error") ms)))
meaning tree = None
