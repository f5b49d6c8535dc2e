-- What shows diagnostics is sent by an act that shows them.
use Rattle.serde_json.specs.Data.{Data}
use Rattle.std.proofs.Common.{◌≡◌, ◌⊎◌, ap, inl, inr, ℕ, Bool, true, false, List, [], ◌∷◌, ◌++◌}
use Rattle.std.specs.FinMap as map
use Rattle.std.specs.Prelude.{pos, if◌then◌else◌}
use Rattle.lsp_message.specs.Id.{Id, number}
use Rattle.lsp_message.specs.Message.{Message, request, notification, response}
use Rattle.lsp_queue.specs.Queue.{count_of, pending_of, ids_where}
use Rattle.lsp_acts.specs.Acts.{Act, Queues, tells, asks, replies, cancels, does, is_spent}
use Rattle.lsp_acts.specs.Acts.{cancel_all, cancel_method, cancel_params}
use Rattle.lsp_acts.specs.SentByActs.{all_sends}
use Rattle.lsp_diagnostics.proofs.Lists.{not_empty}
use Rattle.lsp_diagnostics.specs.Shown.{shows_method}

abbrev pub Has : {A : Type 0} → A → List A → Type 0
Has {A} x all = (xs : List A) × (ys : List A) × (all ≡ xs ++ x ∷ ys)

has_later : {A : Type 0} (x y : A) (all : List A) → Has x all → Has x (y ∷ all)
has_later {A} x y all has = (y ∷ has.0, has.1, ap (λ (l : List A). y ∷ l) has.2)

-- a message is the first of these, or follows it
first_or_later : {A : Type 0} (m r : A) (rest before after : List A) → m ∷ rest ≡ before ++ r ∷ after → (m ≡ r)
    ⊎ ((more : List A) × (rest ≡ more ++ r ∷ after))
first_or_later m r rest [] after e = inl (cc (e))
first_or_later m r rest (b ∷ before) after e = inr (before, cc (e))

sent_or_later : (b : Bool) (m r : Message) (rest before after : List Message) → (if b then m ∷ [] else []) ++ rest
    ≡ before ++ r ∷ after → (m ≡ r) ⊎ ((more : List Message) × (rest ≡ more ++ r ∷ after))
sent_or_later true m r rest before after e = first_or_later m r rest before after e
sent_or_later false m r rest before after e = inr (before, e)

asked_or_later : (b : Bool) (m r : Message) (rest before after : List Message) → (if b then [] else m ∷ []) ++ rest
    ≡ before ++ r ∷ after → (m ≡ r) ⊎ ((more : List Message) × (rest ≡ more ++ r ∷ after))
asked_or_later true m r rest before after e = inr (before, e)
asked_or_later false m r rest before after e = first_or_later m r rest before after e

no_request : {A : Type 0} (i : Id) (m : List ℕ) (p : Data) (method : List ℕ) (params : Data)
    → request i m p ≡ notification method params → A
no_request i m p method params e = absurd (cc (e))

no_cancellation : {A : Type 0} (id : Id) (params : Data)
    → notification cancel_method (cancel_params id) ≡ notification shows_method params → A
no_cancellation id params e = let no : cancel_method ≡ shows_method = cc (e) in absurd (cc (no))

cancelled_before : (ids : List Id) (params : Data) (rest before after : List Message) → cancel_all ids ++ rest
    ≡ before ++ notification shows_method params ∷ after
    → (more : List Message) × (rest ≡ more ++ notification shows_method params ∷ after)
cancelled_before [] params rest before after e = (before, e)
cancelled_before (i ∷ ids) params rest before after e =
    elim (first_or_later (notification cancel_method (cancel_params i)) (notification shows_method params)
    (cancel_all ids ++ rest) before after e) [
      | inl wrong ↦ no_cancellation i params wrong
      | inr later ↦ cancelled_before ids params rest later.0 after later.1
    ]

module _ {P : Type 0} where
  pub by_an_act : (acts : List (Act P)) (d : Queues P) (params : Data) (before after : List Message)
      → all_sends d acts ≡ before ++ notification shows_method params ∷ after → Has (tells shows_method params) acts
  by_an_act [] d params before after e = absurd (not_empty before after (notification shows_method params) e)
  by_an_act (tells m p ∷ acts) d params before after e =
      elim (first_or_later (notification m p) (notification shows_method params) _ before after e) [
        | inl is ↦
            let the : m ≡ shows_method = cc (is) in
            let it : p ≡ params = cc (is) in
            ([], acts, λ k. tells (the k) (it k) ∷ acts)
        | inr later ↦ has_later _ _ acts (by_an_act acts (does d (tells m p)) params later.0 after later.1)
      ]
  by_an_act (asks m p payload ∷ acts) d params before after e =
      elim (asked_or_later (is_spent (count_of d.asked)) (request (number (pos (count_of d.asked))) m p)
      (notification shows_method params) _ before after e) [
        | inl wrong ↦ no_request _ m p shows_method params wrong
        | inr later ↦ has_later _ _ acts (by_an_act acts (does d (asks m p payload)) params later.0 after later.1)
      ]
  by_an_act (replies i o ∷ acts) d params before after e =
      elim (sent_or_later (map.contains_key d.held i) (response i o) (notification shows_method params) _ before
      after e) [
        | inl wrong ↦ absurd (cc (wrong))
        | inr later ↦ has_later _ _ acts (by_an_act acts (does d (replies i o)) params later.0 after later.1)
      ]
  by_an_act (cancels such ∷ acts) d params before after e =
      let later = cancelled_before (ids_where such (pending_of d.asked)) params _ before after e in
      has_later _ _ acts (by_an_act acts (does d (cancels such)) params later.0 after later.1)
