-- A message that is read once there is room for it.
use Rattle.std.proofs.Common.{◌≡◌, ℕ, List, [], ◌∷◌, ◌++◌, map, Option, Some, None, IfSome, Ok, ◌∙◌, ap, subst, sym}
use Rattle.std.proofs.lemmas.List.{map-append}
use Rattle.lsp_message.specs.Frame.{body_means, content_within, reading_within}
use Rattle.lsp_message.specs.Message.{Message}
use Rattle.lsp_message.specs.Reading.{Answers, StopsWithin}
use Rattle.lsp_message.specs.View.{message_view}
use Rattle.lsp_message.specs.declared.frame.limits.Limits.{Limits}
use Rattle.lsp_message.specs.declared.msg.Message as msg
use Rattle.lsp_message.proofs.ContentParts.{same_rest}
use Rattle.lsp_message.proofs.Contents.{frame_unread}
use Rattle.lsp_server.specs.Weighing.{sends_one}
use Rattle.lsp_session.proofs.Handing.{Handed}

-- nothing was read
pub not_begun : (limit : Limits) (a : Option (List ℕ)) → IfSome a (λ text. StopsWithin a (reading_within limit text))
not_begun limit None = tt
not_begun limit (Some text) = frame_unread body_means limit text

-- the content part was read, and no more
pub content_taken : {X : Type 0} (limit : Limits) (shown : X → List ℕ) (a b : Option (List ℕ)) (content : X)
    → IfSome a (λ text. Answers shown (Ok (Some content)) b (content_within limit text))
    → IfSome a (λ text. StopsWithin b (reading_within limit text))
content_taken limit shown None b content read = tt
content_taken limit shown (Some text) b content read = ([], read.1 ∙ ap Some (sym (same_rest body_means limit text)))

-- ---- what was sent into the channel
-- one message more
pub one_sent : (old new : List msg.Message) (m : msg.Message) → new ≡ old ++ m ∷ [] → sends_one (map message_view old)
    (message_view m) (Ok tt) (map message_view new)
one_sent old new m sent = ap (map message_view) sent ∙ map-append message_view old (m ∷ [])

-- nothing more
pub none_sent : (limit : Limits) (a b : Option (List ℕ)) (before : List Message) (old new : List msg.Message)
    → new ≡ old
    → Handed limit sends_one a b before (map message_view old) → Handed limit sends_one a b before
    (map message_view new)
none_sent limit a b before old new same handed = subst (λ sent. Handed limit sends_one a b before (map message_view
    sent)) (sym same) handed
