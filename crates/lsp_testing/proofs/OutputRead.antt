-- What a read of the server's output gives.
use Rattle.std.proofs.Common.{◌≡◌, ap, sym, ◌∙◌, ℕ, List, Option, Some, Ok}
use Rattle.std.specs.Prelude.{option_map}
use Rattle.lsp_message.specs.Frame.{Begins, no_limit, reading_of}
use Rattle.lsp_message.specs.Reading.{Answers}
use Rattle.lsp_message.specs.View.{message_view}
use Rattle.lsp_message.specs.declared.msg.Message as msg

-- a message that was read stands at the front, and the rest is left
pub begins : (text left : List ℕ) (answer : Option msg.Message) (m : msg.Message) → answer ≡ Some m
    → Answers message_view (Ok answer) (Some left) (reading_of text) → Begins no_limit text (message_view m) left
begins text left answer m is (outcome, rest) =
    let read = reading_of text in
    let same : left ≡ read.rest = cc in
    let got : read.outcome ≡ Ok (Some (message_view m)) = outcome ∙ ap (λ o. Ok (option_map message_view o)) is in
    ap (λ o. record { outcome = o; rest = read.rest }) got
    ∙ ap (λ l. record { outcome = Ok (Some (message_view m)); rest = l }) (sym same)
