-- A log for each rule, and the message that breaks it; and messages that may look wrong and fit.
use Rattle.std.proofs.Common.{◌≡◌, List, [], ◌∷◌, Option, Some, None, Ok, Err, codes, pos, refl, ℕ}
use Rattle.serde_json.specs.Data as num
use Rattle.serde_json.specs.Data.{null, object, member, no_members, unsigned}
use Rattle.lsp_message.specs.Id.{number}
use Rattle.lsp_message.specs.Message.{Message, request, notification, response}
use Rattle.lsp_watch.specs.Log.{Log, Finding, passed}
use Rattle.lsp_watch.specs.Rules.{session_finding}
use Rattle.lsp_watch.specs.declared.rule.Rule.TheVariants.{NobodyAsked, IdStillOpen, BeforeResult, BeforeInitialized}
use Rattle.lsp_watch.specs.declared.rule.Rule.TheVariants.{SentAgain, AfterShutdown, AfterExit}
use Rattle.lsp_watch.specs.declared.direction.Direction.{Direction}
use Rattle.lsp_watch.specs.declared.direction.Direction.TheVariants.{ToServer, ToClient}

-- the rule that a message breaks, and against the message at which place
abbrev broken : Log → Direction → Message → Option Finding
broken = session_finding

abbrev asks : ℕ → List ℕ → Message
asks id method = request (number (pos id)) method null

abbrev tells : List ℕ → Message
tells method = notification method null

abbrev replies : ℕ → Message
replies id = response (number (pos id)) (Ok null)

abbrev refuses : ℕ → Message
refuses id = response (number (pos id)) (Err (record { code = pos 1; message = []; details = None }))

abbrev asked : Log
asked = passed ToServer 1 (asks 1 (codes "initialize")) ∷ []

abbrev opened : Log
opened = passed ToClient 2 (replies 1) ∷ asked

abbrev begun : Log
begun = passed ToServer 3 (tells (codes "initialized")) ∷ opened

abbrev shut_down : Log
shut_down = passed ToServer 4 (asks 2 (codes "shutdown")) ∷ begun

abbrev left : Log
left = passed ToServer 5 (tells (codes "exit")) ∷ shut_down

-- ---- ids

nobody_asked : broken begun ToClient (replies 7) ≡ Some (NobodyAsked, None)
nobody_asked = refl

second_reply : broken begun ToClient (replies 1) ≡ Some (NobodyAsked, None)
second_reply = refl

own_request : broken shut_down ToServer (replies 2) ≡ Some (NobodyAsked, None)
own_request = refl

in_use : broken (passed ToClient 4 (asks 7 (codes "a")) ∷ begun) ToClient (asks 7 (codes "b"))
    ≡ Some (IdStillOpen, Some 4)
in_use = refl

-- it is the requester's fault alone: both requests may have their replies, and no more
abbrev twice : Log
twice = passed ToServer 5 (asks 7 (codes "b")) ∷ (passed ToServer 4 (asks 7 (codes "a")) ∷ begun)

second_fits : broken (passed ToClient 6 (replies 7) ∷ twice) ToClient (replies 7) ≡ None
second_fits = refl

third_is_one_too_many : broken (passed ToClient 7 (replies 7) ∷ (passed ToClient 6 (replies 7) ∷ twice)) ToClient
    (replies 7) ≡ Some (NobodyAsked, None)
third_is_one_too_many = refl

-- both sides may use one id
other_side : broken (passed ToServer 4 (asks 7 (codes "a")) ∷ begun) ToClient (asks 7 (codes "b")) ≡ None
other_side = refl

-- ---- the lifecycle

too_early : broken [] ToServer (asks 1 (codes "shutdown")) ≡ Some (BeforeResult, None)
too_early = refl

client_waits : broken asked ToServer (tells (codes "initialized")) ≡ Some (BeforeResult, Some 1)
client_waits = refl

server_waits : broken asked ToClient (asks 7 (codes "client/registerCapability")) ≡ Some (BeforeResult, Some 1)
server_waits = refl

server_logs : broken asked ToClient (tells (codes "window/logMessage")) ≡ None
server_logs = refl

-- progress under the token of `initialize` may go with it, and only under that
abbrev shows : ℕ → Message
shows token =
    notification (codes "$/progress") (object (member (codes "token") (num.number (unsigned token)) no_members))

abbrev asked_with : Log
asked_with = passed ToServer 1 (request (number (pos 1)) (codes "initialize")
    (object (member (codes "workDoneToken") (num.number (unsigned 5)) no_members))) ∷ []

server_shows : broken asked_with ToClient (shows 5) ≡ None
server_shows = refl

other_token : broken asked_with ToClient (shows 6) ≡ Some (BeforeResult, Some 1)
other_token = refl

no_token : broken asked ToClient (shows 5) ≡ Some (BeforeResult, Some 1)
no_token = refl

-- an error is no result: the client may try again
refused : broken (passed ToClient 2 (refuses 1) ∷ asked) ToServer (tells (codes "initialized"))
    ≡ Some (BeforeResult, None)
refused = refl

retried : broken (passed ToClient 2 (refuses 1) ∷ asked) ToServer (asks 2 (codes "initialize")) ≡ None
retried = refl

-- of two `initialize` one may be refused: the other waits
other_waits : broken (passed ToClient 3 (refuses 2) ∷ (passed ToServer 2 (asks 2 (codes "initialize")) ∷ asked))
    ToServer (tells (codes "initialized")) ≡ Some (BeforeResult, Some 1)
other_waits = refl

uninvited : broken opened ToServer (tells (codes "textDocument/didOpen")) ≡ Some (BeforeInitialized, Some 2)
uninvited = refl

again : broken begun ToServer (asks 2 (codes "initialize")) ≡ Some (SentAgain, Some 2)
again = refl

invited_again : broken begun ToServer (tells (codes "initialized")) ≡ Some (SentAgain, Some 3)
invited_again = refl

after_shutdown : broken shut_down ToServer (tells (codes "textDocument/didClose")) ≡ Some (AfterShutdown, Some 4)
after_shutdown = refl

-- the server may speak on, and be answered
server_asks : broken shut_down ToClient (asks 7 (codes "window/showMessageRequest")) ≡ None
server_asks = refl

client_replies : broken (passed ToClient 5 (asks 7 (codes "a")) ∷ shut_down) ToServer (replies 7) ≡ None
client_replies = refl

leaves : broken shut_down ToServer (tells (codes "exit")) ≡ None
leaves = refl

leaves_early : broken [] ToServer (tells (codes "exit")) ≡ None
leaves_early = refl

after_exit : broken left ToServer (tells (codes "exit")) ≡ Some (AfterExit, Some 5)
after_exit = refl
