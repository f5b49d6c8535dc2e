-- Answers of a dispatcher that do not reply once, whatever stands before or after them.
use Rattle.lsp_message.specs.Id.{Id}
use Rattle.lsp_message.specs.Message.{ErrorObject, request, response}
use Rattle.lsp_dispatch.specs.DispatchAnswers.{Answer, work, cancelled_work, finished_work}
use Rattle.lsp_dispatch.specs.DispatchLaw.{RepliesOnce, RepliesTo, reply_in, work_in}
use Rattle.lsp_dispatch.proofs.Lists.{nothing_in}
use Rattle.serde_json.specs.Data.{Data}
use Rattle.std.proofs.Common.{◌≡◌, refl, sym, ◌∙◌, ap, ℕ, List, [], ◌∷◌, ◌++◌, Option, Some, None}
use Rattle.std.specs.Prelude.{◌≢◌, Result}

-- a request that is to be worked on
abbrev asking : Id → List ℕ → Data → ℕ → Answer
asking id method params ticket = work (request id method params) ticket

-- the work of a request is done
abbrev done : Id → Result Data ErrorObject → ℕ → Answer
done id outcome ticket = finished_work (response id outcome) ticket

-- if one answer came before, it is the work of the reply
only_one : (a : Answer) (id : Id) (ticket : ℕ) → RepliesTo (a ∷ []) id ticket → work_in a ≡ Some (Some id, ticket)
only_one a id ticket to = at to.earlier to.asked to.since to.place to.its_work
  where
    at : (earlier : List Answer) (asked : Answer) (since : List Answer) → a ∷ [] ≡ earlier ++ asked ∷ since
        → work_in asked ≡ Some (Some id, ticket)
        → work_in a ≡ Some (Some id, ticket)
    at [] asked since place its_work = let first : a ≡ asked = cc (place) in ap (λ (x : Answer). work_in x) first
        ∙ its_work
    at (e ∷ earlier) asked since place its_work = let rest : [] ≡ earlier ++ asked ∷ since = cc (place) in absurd
        (nothing_in earlier asked since rest)

-- work is done that nobody asked for
pub done_unasked : (id : Id) (outcome : Result Data ErrorObject) (ticket : ℕ) (after : List Answer)
    → RepliesOnce (done id outcome ticket ∷ after) → ⊥
done_unasked id outcome ticket after once =
    let to = once [] after (done id outcome ticket) id ticket refl refl in
    nothing_in to.earlier to.asked to.since to.place

-- a request that was never asked is cancelled
pub cancelled_unasked : (id : Id) (outcome : Result Data ErrorObject) (ticket : ℕ) (after : List Answer)
    → RepliesOnce (cancelled_work (response id outcome) ticket ∷ after) → ⊥
cancelled_unasked id outcome ticket after once =
    let to = once [] after (cancelled_work (response id outcome) ticket) id ticket refl refl in
    nothing_in to.earlier to.asked to.since to.place

-- a reply goes out under another id than its request's, or with the ticket of another
pub done_for_another : (i j : Id) (method : List ℕ) (params : Data) (outcome : Result Data ErrorObject) (s t : ℕ)
    (after : List Answer)
    → ((i ≡ j) × (s ≡ t) → ⊥) → RepliesOnce (asking i method params s ∷ done j outcome t ∷ after) → ⊥
done_for_another i j method params outcome s t after other once =
    let to = once (asking i method params s ∷ []) after (done j outcome t) j t refl refl in
    let its : Some (Some i, s) ≡ Some (Some j, t) = only_one (asking i method params s) j t to in
    let both : (Some i, s) ≡ (Some j, t) = cc (its) in
    let named : Some i ≡ Some j = ap (λ (p : Option Id × ℕ). p.0) both in
    other (cc (named), ap (λ (p : Option Id × ℕ). p.1) both)

-- one request is answered twice: cancelled, and done after that
pub done_twice : (id : Id) (method : List ℕ) (params : Data) (first second : Result Data ErrorObject) (ticket : ℕ)
    (after : List Answer)
    → RepliesOnce (asking id method params ticket ∷ cancelled_work (response id first) ticket ∷ done id second ticket
    ∷ after) → ⊥
done_twice id method params first second ticket after once =
    let to = once (asking id method params ticket ∷ cancelled_work (response id first) ticket ∷ []) after
    (done id second ticket) id ticket refl refl in
    at to.earlier to.asked to.since to.place to.its_work to.once
  where
    at : (earlier : List Answer) (one : Answer) (since : List Answer)
        → asking id method params ticket ∷ cancelled_work (response id first) ticket ∷ [] ≡ earlier ++ one ∷ since
        → work_in one ≡ Some (Some id, ticket)
        → ((x y : List Answer) (a : Answer) (i : Option Id) → since ≡ x ++ a ∷ y → reply_in a ≢ Some (i, ticket)) → ⊥
    at [] one since place its_work once =
        let rest : since ≡ cancelled_work (response id first) ticket ∷ [] = cc (place) in
        once [] [] (cancelled_work (response id first) ticket) (Some id) rest refl
    at (e ∷ []) one since place its_work once =
        let is : one ≡ cancelled_work (response id first) ticket = cc (place) in
        let never : None ≡ Some (Some id, ticket) = ap (λ (x : Answer). work_in x) (sym is) ∙ its_work in
        cc (never)
    at (e ∷ f ∷ earlier) one since place its_work once = let rest : [] ≡ earlier ++ one ∷ since = cc (place) in
        nothing_in earlier one since rest
