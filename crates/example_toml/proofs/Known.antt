-- What the law of a server's sessions gives its author.
use Rattle.std.proofs.Common.{subst}
use Rattle.std.specs.Prelude.{List}
use Rattle.lsp_acts.proofs.Counting.{used_once}
use Rattle.lsp_acts.specs.Law.{IsWhole, KeepsLaws}
use Rattle.lsp_acts.specs.ServerApplication.{ServerSession, held_by}
use Rattle.lsp_acts.specs.declared.server.Server.{Ghosts as Stated}
use Rattle.lsp_session.specs.Session.{Exchange, SessionAnswer, Stop}
use Rattle.example_toml.specs.Sessions.{AnswersOnce}

pub answers_once : {S P : Type 0} (may : Stated S P) (first last : S)
    → ((first last : S) (xs : List Exchange) (stop : Stop) (answer : SessionAnswer)
    → (session : ServerSession may first last xs stop answer) → KeepsLaws may first last
    (held_by may session) xs stop answer)
    → (xs : List Exchange) (stop : Stop) (answer : SessionAnswer)
    → ServerSession may first last xs stop answer → AnswersOnce may first last xs stop answer
answers_once may first last law xs stop answer session =
    let laws = law first last xs stop answer session in
    record {
      session = session;
      no_more = laws.never_more;
      answered = λ whole id one.
          used_once id xs laws.all stop (held_by may session) answer laws.to_send whole (laws.never_more id)
          (laws.once (λ out. subst (λ (s : Stop). IsWhole s) out whole) id) one;
    }
