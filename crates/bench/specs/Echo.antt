-- What the client of a server sees whose requests are jobs that give their params back.
use Rattle.serde_json.specs.Data.{Data}
use Rattle.std.specs.Prelude.{◌≡◌, ℕ, List, ◌∷◌, ◌++◌, None, Ok}
use Rattle.lsp_message.specs.Id.{Id}
use Rattle.lsp_message.specs.Message.{Message, response}
use Rattle.lsp_session.specs.Session.{Exchange, offered}
use Rattle.lsp_jobs.specs.JobLaw.{LastRequest}

-- Each result that is sent at a wake under an id is the params of the last request under that id. Since that came, no
-- reply under the id was sent, and no cancellation of it came.
abbrev pub EchoesAtWakes : List Exchange → Type 0
EchoesAtWakes exchanges =
    (earlier later : List Exchange) (x : Exchange) (before after : List Message) (id : Id)
    (result : Data)
    → exchanges ≡ earlier ++ x ∷ later → x.came ≡ None
    → offered x ≡ before ++ response id (Ok result) ∷ after
    → (method : List ℕ) × LastRequest earlier id method result
