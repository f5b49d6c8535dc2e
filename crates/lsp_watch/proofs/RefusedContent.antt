-- For each rule of documents and of progress a log and the message that breaks it; and messages that may look wrong and
-- fit.
use Rattle.std.proofs.Common.{◌≡◌, List, [], ◌∷◌, Option, Some, None, Ok, Err, codes, pos, refl, ℕ}
use Rattle.std.specs.Option.{option_or}
use Rattle.serde_json.specs.Data.{Data, null, number, string, object, no_members, member, unsigned}
use Rattle.lsp_message.specs.Id as id
use Rattle.lsp_message.specs.Message.{Message, request, notification, response}
use Rattle.lsp_watch.specs.Documents.{document_finding}
use Rattle.lsp_watch.specs.Log.{Log, Finding, passed}
use Rattle.lsp_watch.specs.Progress.{progress_finding}
use Rattle.lsp_watch.specs.declared.direction.Direction.{Direction}
use Rattle.lsp_watch.specs.declared.direction.Direction.TheVariants.{ToServer, ToClient}
use Rattle.lsp_watch.specs.declared.rule.Rule.TheVariants.{AlreadyOpen, NotOpen, VersionNotHigher}
use Rattle.lsp_watch.specs.declared.rule.Rule.TheVariants.{NoSuchToken, TokenEnded}

-- the rule that a message breaks, and against the message at which place
abbrev broken : Log → Direction → Message → Option Finding
broken log direction m = option_or (document_finding log direction m) (progress_finding log direction m)

-- ---- documents

abbrev with : List ℕ → Data → Data
with name d = object (member name d no_members)

abbrev params_at : ℕ → Data
params_at version = with (codes "textDocument") (object (member (codes "uri") (string (codes "a"))
    (member (codes "version") (number (unsigned version)) no_members)))

abbrev opens : ℕ → Message
opens version = notification (codes "textDocument/didOpen") (params_at version)

abbrev changes : ℕ → Message
changes version = notification (codes "textDocument/didChange") (params_at version)

abbrev closes : Message
closes = notification (codes "textDocument/didClose") (params_at 0)

abbrev begun : Log
begun = passed ToServer 1 (opens 5) ∷ []

open_already : broken begun ToServer (opens 6) ≡ Some (AlreadyOpen, Some 1)
open_already = refl

never_opened : broken [] ToServer (changes 6) ≡ Some (NotOpen, None)
never_opened = refl

closed_before : broken (passed ToServer 2 closes ∷ begun) ToServer closes ≡ Some (NotOpen, None)
closed_before = refl

version_stays : broken begun ToServer (changes 5) ≡ Some (VersionNotHigher, Some 1)
version_stays = refl

version_goes_back : broken (passed ToServer 2 (changes 7) ∷ begun) ToServer (changes 6)
    ≡ Some (VersionNotHigher, Some 2)
version_goes_back = refl

version_rises : broken begun ToServer (changes 7) ≡ None
version_rises = refl

-- a document that opens anew may begin at any version
opens_anew : broken (passed ToServer 2 closes ∷ begun) ToServer (opens 1) ≡ None
opens_anew = refl

-- nothing is said of one that is saved
saves : broken [] ToServer (notification (codes "textDocument/didSave") (params_at 1)) ≡ None
saves = refl

-- and a server may speak of any
marks : broken [] ToClient (notification (codes "textDocument/didClose") (params_at 1)) ≡ None
marks = refl

-- ---- progress

abbrev asks : List ℕ → Message
asks name = request (id.number (pos 1)) (codes "a") (with name (string (codes "t")))

abbrev tells : Data → Message
tells value = notification (codes "$/progress") (object (member (codes "token") (string (codes "t"))
    (member (codes "value") value no_members)))

abbrev ends : Message
ends = tells (with (codes "kind") (string (codes "end")))

abbrev replies : Message
replies = response (id.number (pos 1)) (Ok null)

abbrev refuses : Message
refuses = response (id.number (pos 1)) (Err (record { code = pos 1; message = []; details = None }))

abbrev creates : Message
creates = request (id.number (pos 1)) (codes "window/workDoneProgress/create")
    (with (codes "token") (string (codes "t")))

nobody_made : broken [] ToClient (tells null) ≡ Some (NoSuchToken, None)
nobody_made = refl

abbrev working : Log
working = passed ToServer 1 (asks (codes "workDoneToken")) ∷ []

at_work : broken working ToClient (tells null) ≡ None
at_work = refl

-- the side that made the token tells no progress under it
own_token : broken working ToServer (tells null) ≡ Some (NoSuchToken, None)
own_token = refl

replied : broken (passed ToClient 2 replies ∷ working) ToClient (tells null) ≡ Some (NoSuchToken, None)
replied = refl

-- a token of a request is good up to the reply, also behind the end of its progress
ended : broken (passed ToClient 2 ends ∷ working) ToClient (tells null) ≡ None
ended = refl

-- of two requests under one id the first reply answers the first
abbrev twice : Log
twice = passed ToClient 3 replies ∷ (passed ToServer 2 (asks (codes "workDoneToken")) ∷ (passed ToServer 1
    (request (id.number (pos 1)) (codes "b") null) ∷ []))

one_replied : broken twice ToClient (tells null) ≡ None
one_replied = refl

both_replied : broken (passed ToClient 4 replies ∷ twice) ToClient (tells null) ≡ Some (NoSuchToken, None)
both_replied = refl

abbrev listing : Log
listing = passed ToServer 1 (asks (codes "partialResultToken")) ∷ []

-- no part of a result ends the results
part : broken (passed ToClient 2 ends ∷ listing) ToClient (tells null) ≡ None
part = refl

part_too_late : broken (passed ToClient 2 replies ∷ listing) ToClient (tells null) ≡ Some (NoSuchToken, None)
part_too_late = refl

-- a token that was created is open up to its end, and not if the client refused it
abbrev made : Log
made = passed ToServer 2 replies ∷ (passed ToClient 1 creates ∷ [])

created : broken made ToClient (tells null) ≡ None
created = refl

created_ended : broken (passed ToClient 3 ends ∷ made) ToClient ends ≡ Some (TokenEnded, Some 3)
created_ended = refl

-- it may be created again
created_again : broken (passed ToServer 5 replies ∷ (passed ToClient 4 creates ∷ (passed ToClient 3 ends ∷ made)))
    ToClient (tells null) ≡ None
created_again = refl

-- an error under the same id, to another request, does not end it
other_refused : broken (passed ToServer 4 refuses ∷ (passed ToClient 3 (asks (codes "a")) ∷ made)) ToClient (tells null)
    ≡ None
other_refused = refl

refused : broken (passed ToServer 2 refuses ∷ (passed ToClient 1 creates ∷ [])) ToClient (tells null)
    ≡ Some (NoSuchToken, None)
refused = refl
