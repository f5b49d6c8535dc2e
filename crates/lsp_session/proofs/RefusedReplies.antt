-- Runs in which a request has no reply, or not its own, and that do not answer requests; and openings that no session
-- of a client has.
use Rattle.lsp_message.specs.Id.{Id}
use Rattle.lsp_message.specs.Message.{Message, ErrorObject, request, notification, response}
use Rattle.lsp_session.specs.Answered.{IsReplied, AllReplied, AnswersRequests}
use Rattle.lsp_session.specs.Session.{Exchange, sends_of, SessionAnswer, Stop}
use Rattle.lsp_session.specs.SessionLaws.{EndsWithResult, IsInvited, OpenedBy, is_refusal}
use Rattle.lsp_session.specs.declared.loops.handler.SessionEnd.{SessionEnd}
use Rattle.lsp_session.proofs.Ran.{sends_both}
use Rattle.serde_json.specs.Data.{Data}
use Rattle.std.proofs.Common.{◌≡◌, refl, sym, ◌∙◌, ap, inl, inr, ℕ, Bool, true, false, List, [], ◌∷◌, ◌++◌}
use Rattle.std.proofs.Common.{Some, None}
use Rattle.std.proofs.lemmas.List.Folds.{list_all-append}
use Rattle.std.specs.List.{list_all}
use Rattle.std.specs.Prelude.{Result, Ok, ◌&&◌}

-- a message that came, for which this is sent
abbrev sent_for : Message → List Message → Exchange
sent_for m output = record { came = Some m; sent = output; not_sent = None }

replied_within : (before : List Exchange) (x : Exchange) (more : List Exchange) → AllReplied (before ++ x ∷ more)
    → IsReplied x
replied_within [] x more all = all.0
replied_within (b ∷ before) x more all = replied_within before x more all.1

-- of exchanges of which all but the last are replied, one that is not the last is
replied_but_last : (before earlier : List Exchange) (x y l : Exchange) (more : List Exchange) → before ++ x ∷ y ∷ more
    ≡ earlier ++ l ∷ [] → AllReplied earlier → IsReplied x
replied_but_last [] [] x y l more cut all = let e : y ∷ more ≡ [] = cc (cut) in absurd (cc (e))
replied_but_last [] (e ∷ earlier) x y l more cut all =
    let same : x ≡ e = cc (cut) in
    rw same all.0
replied_but_last (b ∷ before) [] x y l more cut all = absurd (some before (cc (cut)))
  where
    some : (before : List Exchange) → before ++ x ∷ y ∷ more ≡ [] → ⊥
    some [] e = cc (e)
    some (b ∷ before) e = cc (e)
replied_but_last (b ∷ before) (e ∷ earlier) x y l more cut all =
    let tails : before ++ x ∷ y ∷ more ≡ earlier ++ l ∷ [] = cc (cut) in
    replied_but_last before earlier x y l more tails all.1

module _ (stop : Stop) (answer : SessionAnswer) where
  -- Whatever came before, a message that is not the last has its reply, and nothing else is sent for it.
  passed_on : (before : List Exchange) (x y : Exchange) (more : List Exchange) → AnswersRequests (before ++ x ∷ y
      ∷ more) stop answer → IsReplied x
  passed_on before x y more (inl all) = replied_within before x (y ∷ more) all
  passed_on before x y more (inr last) = replied_but_last before last.before x y _ more last.cut last.replied

  -- a request gets no reply, and the session goes on
  pub passed_over : (before : List Exchange) (i : Id) (method : List ℕ) (params : Data) (y : Exchange)
      (more : List Exchange)
      → AnswersRequests (before ++ sent_for (request i method params) [] ∷ y ∷ more) stop answer → ⊥
  passed_over before i method params y more answered = passed_on before (sent_for (request i method params) []) y more
      answered

  -- a request gets two replies, or a reply and another message
  pub sent_twice : (before : List Exchange) (i : Id) (method : List ℕ) (params : Data) (first second : Message)
      (others : List Message) (y : Exchange)
      (more : List Exchange) → AnswersRequests (before ++ sent_for (request i method params) (first ∷ second ∷ others)
      ∷ y ∷ more) stop answer → ⊥
  sent_twice before i method params first second others y more answered =
      (passed_on before (sent_for (request i method params) (first ∷ second ∷ others)) y more answered).1

  -- a request gets the reply of another id
  pub sent_to_another : (before : List Exchange) (i j : Id) (method : List ℕ) (params : Data) (outcome : Result Data
      ErrorObject) (y : Exchange)
      (more : List Exchange) → (j ≡ i → ⊥) → AnswersRequests (before ++ sent_for (request i method params)
      (response j outcome ∷ []) ∷ y ∷ more) stop answer → ⊥
  sent_to_another before i j method params outcome y more other answered =
      let replied = (passed_on before (sent_for (request i method params) (response j outcome ∷ [])) y more
      answered).0 in
      let same : j ≡ i = cc (replied.1) in
      other same

  -- something is sent for a notification
  pub sent_unasked : (before : List Exchange) (method : List ℕ) (params : Data) (sent : Message) (others : List Message)
      (y : Exchange) (more : List Exchange)
      → AnswersRequests (before ++ sent_for (notification method params) (sent ∷ others) ∷ y ∷ more) stop answer → ⊥
  sent_unasked before method params sent others y more answered =
      passed_on before (sent_for (notification method params) (sent ∷ others)) y more answered

  -- the session ended well, and its last request has no reply
  pub last_passed_over : (before : List Exchange) (i : Id) (method : List ℕ) (params : Data) (end : SessionEnd) → answer
      ≡ Ok end
      → AnswersRequests (before ++ sent_for (request i method params) [] ∷ []) stop answer → ⊥
  last_passed_over before i method params end is (inl all) = replied_within before (sent_for (request i method params)
      []) [] all
  last_passed_over before i method params end is (inr last) = (rw is at last.unallowed)

-- ---- what is sent before the client sent `initialized`

never_both : (b : Bool) → (b && false) ≡ false
never_both true = refl
never_both false = refl

-- a result of `initialize` is among what is sent
result_among : (early : List Exchange) → EndsWithResult early → list_all is_refusal (sends_of early) ≡ false
result_among early ends =
    ap (λ (xs : List Exchange). list_all is_refusal (sends_of xs)) ends.cut
    ∙ ap (list_all is_refusal) (sends_both ends.before (ends.last ∷ []))
    ∙ list_all-append is_refusal (sends_of ends.before) (sends_of (ends.last ∷ []))
    ∙ ap (λ (ms : List Message). list_all is_refusal (sends_of ends.before) && list_all is_refusal (ms ++ [])) ends.gets
    ∙ never_both (list_all is_refusal (sends_of ends.before))

-- Something else than a reply is sent after nothing but errors: before `initialize` got its result.
pub speaks_too_early : (exchanges : List Exchange) (before : List Message) → list_all is_refusal before ≡ true
    → OpenedBy exchanges before → ⊥
speaks_too_early exchanges before errors (early, rest, later, cut, sent, ends, invited) =
    let parts : list_all is_refusal before ≡ (list_all is_refusal (sends_of early) && list_all is_refusal later) =
    ap (list_all is_refusal) sent ∙ list_all-append is_refusal (sends_of early) later in
    let e : true ≡ false = sym errors ∙ parts ∙ ap (λ b. b && list_all is_refusal later) (result_among early ends) in
    cc (e)

-- Something else than a reply is sent, and `initialize` alone came.
pub speaks_uninvited : (x : Exchange) (before : List Message) → OpenedBy (x ∷ []) before → ⊥
speaks_uninvited x before (early, rest, later, cut, sent, ends, invited) = at early rest cut ends.before
    ends.cut invited
  where
    at : (early rest : List Exchange) → x ∷ [] ≡ early ++ rest → (earlier : List Exchange) → early ≡ earlier
        ++ ends.last ∷ [] → IsInvited rest → ⊥
    at early [] cut earlier ended invited = invited
    at [] (r ∷ rest) cut [] ended invited = cc (ended)
    at [] (r ∷ rest) cut (b ∷ earlier) ended invited = cc (ended)
    at (e ∷ []) (r ∷ rest) cut earlier ended invited = cc (cut)
    at (e ∷ f ∷ early) (r ∷ rest) cut earlier ended invited = cc (cut)
