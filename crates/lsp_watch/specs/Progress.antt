-- Which tokens of progress are open (LSP 3.17, "Work Done Progress", "Partial Result Progress" and "Creating Work Done
-- Progress").
use Rattle.std.specs.List.{list_any}
use Rattle.std.specs.Prelude.{ℕ, Bool, ◌||◌, List, [], ◌∷◌, find, Option, Some, None}
use Rattle.std.specs.Prelude.{option_and_then, if◌then◌else◌, codes}
use Rattle.serde_json.specs.Find.{get}
use Rattle.lsp_message.specs.Id.{Id, same_id}
use Rattle.lsp_message.specs.Message.{Message, request, notification, response}
use Rattle.lsp_watch.specs.Documents.{text_in, is_text, params_in}
use Rattle.lsp_watch.specs.Log.{Log, Passed, Open, Finding, is_success, from_client, same_direction, is_id, open_of}
use Rattle.lsp_watch.specs.Log.{is_for, other, reply_id, progress_token}
use Rattle.lsp_watch.specs.declared.progress.Token.{Token}
use Rattle.lsp_watch.specs.declared.progress.Token.TheVariants.{Live, Ended}
use Rattle.lsp_watch.specs.declared.rule.Rule.TheVariants.{NoSuchToken, TokenEnded}
use Rattle.lsp_watch.specs.declared.direction.Direction.{Direction}
use Rattle.lsp_watch.specs.declared.direction.Direction.TheVariants.{ToServer, ToClient}

-- the value of progress of work done says that the work ended
abbrev pub is_end : Message → Bool
is_end m = is_text (codes "end") (option_and_then (text_in (codes "kind")) (get (codes "value") (params_in m)))

-- the token of which a message says that its work ended
abbrev pub ended_name : Message → Option Id
ended_name (notification method params) =
    if is_end (notification method params) then progress_token (notification method params) else None
ended_name (request i method params) = None
ended_name (response i outcome) = None

-- the created token whose progress a message of the server ends
abbrev pub ended_by : Direction → Message → Option Id
ended_by direction m = option_and_then (λ name. if from_client direction then None else Some name) (ended_name m)

-- the token that a reply lets be created, which goes in this direction: that of the request that it answers
abbrev pub accepted_in : Bool → Direction → Id → List Open → Option Id
accepted_in succeeds direction id asked = if succeeds
    then option_and_then (λ o. o.created) (find (is_for (other direction) id) asked) else None

-- the token that the server may use from this message on: the client accepts that it is created
abbrev pub accepted_by : Log → Passed → Option Id
accepted_by before p =
    option_and_then (λ id. accepted_in (is_success p.message) p.direction id (open_of before)) (reply_id p.message)

-- ---- the tokens that were created

-- a token after a message by which the client accepts one
abbrev pub after_accept : Id → Option Id → Option Token → Option Token
after_accept name None before = before
after_accept name (Some accepted) before = if same_id accepted name then Some Live else before

-- progress that is live ends
abbrev pub once_ended : ℕ → Option Token → Option Token
once_ended place (Some Live) = Some (Ended place)
once_ended place before = before

-- a token after a message that ends the progress of one
abbrev pub after_end : Id → ℕ → Option Id → Option Token → Option Token
after_end name place None before = before
after_end name place (Some ended) before = if same_id ended name then once_ended place before else before

-- A token that the client accepted is live until a message of the server ends it. It may be created again.
abbrev pub token_of : Id → Log → Option Token
token_of name [] = None
token_of name (p ∷ before) = after_accept name (accepted_by before p)
    (after_end name p.place (ended_by p.direction p.message) (token_of name before))

-- ---- the rule

-- A request that waits lets progress be told in this direction under a token: its receiver's under those of its params,
-- and its sender's under the one that it creates.
abbrev pub gives : Direction → Id → Open → Bool
gives direction name o = if same_direction o.direction direction then is_id name o.created
    else (is_id name o.work || is_id name o.part)

-- progress under a token that no request gives
abbrev pub created_finding : Direction → Option Token → Option Finding
created_finding ToServer token = Some (NoSuchToken, None)
created_finding ToClient None = Some (NoSuchToken, None)
created_finding ToClient (Some Live) = None
created_finding ToClient (Some (Ended place)) = Some (TokenEnded, Some place)

abbrev pub token_finding : List Open → Option Token → Direction → Id → Option Finding
token_finding asked token direction name = if list_any (gives direction name) asked then None
    else created_finding direction token

-- what a message breaks of the rules of progress
abbrev pub progress_finding : Log → Direction → Message → Option Finding
progress_finding before direction m =
    option_and_then (λ name. token_finding (open_of before) (token_of name before) direction name) (progress_token m)
