-- Each row of the table gives the answer that its place in the list asks for, and keeps that exactly the live tickets
-- are pending.
use Rattle.std.proofs.Common.{◌≡◌, ◌≢◌, ℕ, ◌+◌, ◌==◌, List, [], ◌∷◌, ◌++◌, length, Bool, true, false, Option, None}
use Rattle.std.proofs.Common.{Some, Result, refl, sym, ap, ◌∙◌, subst, inl, inr, ⊎_elim, length-append, arith}
use Rattle.std.proofs.Common.{true≢false, append-nil, ◌&&◌}
use Rattle.std.proofs.lemmas.Bool.{cases_Bool, cond-true, cond-false, eq-eqb, eqb-true}
use Rattle.std.specs.FinMap as map
use Rattle.std.specs.FinMap.{get-empty}
use Rattle.std.specs.Prelude.{codes}
use Rattle.std.specs.Str.{bytes_eq}
use Rattle.serde_json.specs.Data.{Data}
use Rattle.lsp_message.specs.Id.{Id, id_cmp, same_id}
use Rattle.lsp_message.specs.Message.{Message, ErrorObject, request, notification, response}
use Rattle.lsp_queue.specs.Queue.{pending_of, count_of, cancelled_id}
use Rattle.lsp_dispatch.proofs.Agreement.{Agrees}
use Rattle.lsp_dispatch.specs.DispatchAnswers.{Answer, work}
use Rattle.lsp_dispatch.specs.DispatchCalls.{Call, delivers, finishes, is_own, asked_by, cancelled_by, is_finished_by}
use Rattle.lsp_dispatch.specs.DispatchCalls.{is_id, ends}
use Rattle.lsp_dispatch.specs.Dispatch.{asked, IsLive, CancelAnswer, CallAnswer}
use Rattle.lsp_dispatch.specs.DispatchPending.{Held, without, cancelling_at, cancelling, is_pending_with, answered}
use Rattle.lsp_message.proofs.Choices.{match_true, match_false}
use Rattle.lsp_message.proofs.Ids.{same_own, same_other, same_is, cases_id}
use Rattle.lsp_queue.proofs.AtIds.{insert_here, insert_other, remove_here, remove_other}
use Rattle.lsp_dispatch.proofs.Live.{asked_push, ends_asked, ends_cancelled, ends_finished, ends_none, stays, begins}
use Rattle.lsp_dispatch.proofs.Live.{comes_from}
use Rattle.lsp_dispatch.proofs.Lists.{nothing_in, none_some}

-- the answer that the call's place asks for, and what is pending then
pub record CallCase (before : List Call) (c : Call) (r : Answer × Held) : Type 0 where
  pub right : CallAnswer before c r.0
  pub agrees : Agrees (before ++ c ∷ []) r.1

-- nothing is pending, and nothing is live
pub new_agrees : (held : Held) → held ≡ (map.empty, 0) → Agrees [] held
new_agrees held new = record {
  count = ap (λ (h : Held). count_of h) new;
  sound = λ id t there. absurd (none_some _ t (ap (λ (h : Held). map.get (pending_of h) id) new ∙ get-empty id_cmp id)
      there);
  complete = λ id t live. absurd (nothing_in live.earlier live.call live.since live.place);
}

module _ (before : List Call) (held : Held) (agrees : Agrees before held) (c : Call) where
  -- no request came
  same_count : asked_by c ≡ None → count_of held ≡ length (asked (before ++ c ∷ []))
  same_count none = agrees.count ∙ sym (ap (λ l. length l) (asked_push before c None none ∙ append-nil (asked before)))

  -- the call ends nothing that is pending
  unchanged : asked_by c ≡ None → ((id : Id) (t : ℕ) → map.get (pending_of held) id ≡ Some t → ends id t c ≡ false)
      → Agrees (before ++ c ∷ []) held
  unchanged none on = record {
    count = same_count none;
    sound = λ id t there. stays before c id t (agrees.sound id t there) (on id t there);
    complete = λ id t live. ⊎_elim (λ new. absurd (none_some (asked_by c) id none new.0)) (λ old. agrees.complete id t
        old.0) (comes_from before c id t live);
  }

  -- the call ends what is pending under an id, and nothing else
  removed : (key : Id) → asked_by c ≡ None → ((id : Id) (t : ℕ) → id ≢ key → ends id t c ≡ false)
      → ((t : ℕ) → map.get (pending_of held) key ≡ Some t → ends key t c ≡ true) → Agrees (before ++ c ∷ [])
      (without held key)
  removed key none on off = record {
    count = same_count none;
    sound = λ id t there.
        ⊎_elim
        (λ same. absurd (none_some (map.get (map.remove (pending_of held) key) id) t
        (ap (λ (q : Id). map.get (map.remove (pending_of held) key) q) same ∙ remove_here (pending_of held) key)
        there))
        (λ apart. stays before c id t (agrees.sound id t (sym (remove_other (pending_of held) key id apart) ∙ there))
        (on id t apart))
        (cases_id id key);
    complete = λ id t live.
        ⊎_elim
        (λ new. absurd (none_some (asked_by c) id none new.0))
        (λ old.
        ⊎_elim
        (λ same.
        let there : map.get (pending_of held) key ≡ Some t = ap (λ (q : Id). map.get (pending_of held) q) (sym same)
        ∙ agrees.complete id t old.0 in
        absurd (true≢false (sym (off t there) ∙ ap (λ (q : Id). ends q t c) (sym same) ∙ old.1)))
        (λ apart. remove_other (pending_of held) key id apart ∙ agrees.complete id t old.0)
        (cases_id id key))
        (comes_from before c id t live);
  }

  -- a request came
  inserted : (key : Id) → asked_by c ≡ Some key → ((id : Id) (t : ℕ) → id ≢ key → ends id t c ≡ false) → Agrees (before
      ++ c ∷ []) (map.insert (pending_of held) key (count_of held), count_of held + 1)
  inserted key some on = record {
    count = omega (
      arith,
      agrees.count,
      ap (λ l. length l) (asked_push before c (Some key) some),
      length-append (asked before) (key ∷ []),
    );
    sound = λ id t there.
        ⊎_elim
        (λ same.
        let here : map.get (map.insert (pending_of held) key (count_of held)) id ≡ Some (count_of held) = ap
        (λ (q : Id). map.get (map.insert (pending_of held) key (count_of held)) q) same
        ∙ insert_here (pending_of held) key (count_of held) in
        let is : length (asked before) ≡ t = sym agrees.count ∙ cc in
        subst (λ (n : ℕ). IsLive (before ++ c ∷ []) id n) is (begins before c id (some ∙ ap (λ (q : Id). Some q)
        (sym same))))
        (λ apart. stays before c id t (agrees.sound id t (sym (insert_other (pending_of held) key (count_of held) id
        apart) ∙ there)) (on id t apart))
        (cases_id id key);
    complete = λ id t live.
        ⊎_elim
        (λ new.
        let same : id ≡ key = cc in
        ap (λ (q : Id). map.get (map.insert (pending_of held) key (count_of held)) q) same
        ∙ insert_here (pending_of held) key (count_of held) ∙ ap (λ (n : ℕ). Some n) (agrees.count ∙ new.1))
        (λ old.
        ⊎_elim
        (λ same. absurd (true≢false (sym (ends_asked key t c some) ∙ ap (λ (q : Id). ends q t c) (sym same) ∙ old.1)))
        (λ apart. insert_other (pending_of held) key (count_of held) id apart ∙ agrees.complete id t old.0)
        (cases_id id key))
        (comes_from before c id t live);
  }

  is_id_none : (id : Id) (o : Option Id) → o ≡ None → is_id id o ≡ false
  is_id_none id o e = ap (is_id id) e

  is_id_other : (id key : Id) (o : Option Id) → o ≡ Some key → id ≢ key → is_id id o ≡ false
  is_id_other id key o e apart = ap (is_id id) e ∙ same_other key id (λ same. apart (sym same))

  -- a call that neither asks nor cancels nor finishes
  silent : asked_by c ≡ None → cancelled_by c ≡ None → ((id : Id) (t : ℕ) → is_finished_by id t c ≡ false)
      → Agrees (before ++ c ∷ []) held
  silent none nor never = unchanged none (λ id t there. ends_none id t c (is_id_none id _ none) (is_id_none id _ nor)
      (never id t))

  asks : (key : Id) → asked_by c ≡ Some key → cancelled_by c ≡ None → ((id : Id) (t : ℕ) → is_finished_by id t c
      ≡ false) → Agrees (before ++ c ∷ []) (map.insert (pending_of held) key (count_of held), count_of held + 1)
  asks key some nor never = inserted key some (λ id t apart. ends_none id t c (is_id_other id key _ some apart)
      (is_id_none id _ nor) (never id t))

  -- a cancellation
  pub record Cancels (o : Option Id) (r : Answer × Held) : Type 0 where
    pub right : CancelAnswer before o r.0
    pub keeps : Agrees (before ++ c ∷ []) r.1

  cancels_at : (key : Id) (o : Option ℕ) → asked_by c ≡ None → cancelled_by c ≡ Some key → ((id : Id) (t : ℕ)
      → is_finished_by id t c ≡ false) → map.get (pending_of held) key ≡ o → Cancels (Some key) (cancelling_at held key
      o)
  cancels_at key None none some never absent = record {
    right = inr (λ t live. none_some _ t absent (agrees.complete key t live), refl);
    keeps = unchanged none (λ id t there.
        ⊎_elim
        (λ same. absurd (none_some _ t absent (ap (λ (q : Id). map.get (pending_of held) q) (sym same) ∙ there)))
        (λ apart. ends_none id t c (is_id_none id _ none) (is_id_other id key _ some apart) (never id t))
        (cases_id id key));
  }
  cancels_at key (Some t) none some never there = record {
    right = inl (t, agrees.sound key t there, refl);
    keeps = removed key none (λ id u apart. ends_none id u c (is_id_none id _ none) (is_id_other id key _ some apart)
        (never id u)) (λ u is. ends_cancelled key u c some);
  }

  cancels_row : (o : Option Id) → asked_by c ≡ None → cancelled_by c ≡ o → ((id : Id) (t : ℕ) → is_finished_by id t c
      ≡ false) → Cancels o (cancelling held o)
  cancels_row None none nor never = record { right = refl; keeps = silent none nor never }
  cancels_row (Some key) none some never = cancels_at key (map.get (pending_of held) key) none some never refl

pending_is : (t : ℕ) (o : Option ℕ) → is_pending_with t o ≡ true → o ≡ Some t
pending_is t None e = cc
pending_is t (Some u) e = ap (λ (n : ℕ). Some n) (eqb-true u t e)

pending_at : (t : ℕ) (o : Option ℕ) → o ≡ Some t → is_pending_with t o ≡ true
pending_at t o e = ap (is_pending_with t) e ∙ eq-eqb t t refl

and_true : (a b : Bool) → (a && b) ≡ true → (a ≡ true) × (b ≡ true)
and_true true true e = (refl, refl)
and_true true false e = cc
and_true false b e = cc

module _ (before : List Call) (held : Held) (agrees : Agrees before held) where
  request_case : (id : Id) (method : List ℕ) (params : Data) → CallCase before (delivers (request id method params))
      (answered held (delivers (request id method params)))
  request_case id method params =
      let c : Call = delivers (request id method params) in
      ⊎_elim
      (λ own. subst (λ (r : Answer × Held). CallCase before c r) (sym (cond-true _ _ _ own)) (record {
        right = sym (cond-true _ _ _ own);
        agrees = silent before held agrees c (cond-true _ _ _ own) refl (λ q t. refl);
      }))
      (λ other. subst (λ (r : Answer × Held). CallCase before c r) (sym (cond-false _ _ _ other)) (record {
        right = ap (λ (n : ℕ). work (request id method params) n) agrees.count ∙ sym (cond-false _ _ _ other);
        agrees = asks before held agrees c id (cond-false _ _ _ other) refl (λ q t. refl);
      }))
      (cases_Bool (is_own method))

  notification_case : (method : List ℕ) (params : Data) → CallCase before (delivers (notification method params))
      (answered held (delivers (notification method params)))
  notification_case method params =
      let c : Call = delivers (notification method params) in
      ⊎_elim
      (λ cancel.
      let made = cancels_row before held agrees c (cancelled_id params) refl (cond-true _ _ _ cancel) (λ q t. refl) in
      subst (λ (r : Answer × Held). CallCase before c r) (sym (cond-true _ _ _ cancel)) (record {
        right = match_true _ _
            _ cancel made.right;
        agrees = made.keeps;
      }))
      (λ other.
      let quiet : Agrees (before ++ c ∷ []) held = silent before held agrees c refl (cond-false _ _ _ other)
      (λ q t. refl) in
      subst (λ (r : Answer × Held). CallCase before c r) (sym (cond-false _ _ _ other))
      (⊎_elim
      (λ own. subst (λ (r : Answer × Held). CallCase before c r) (sym (cond-true _ _ _ own))
      (record { right = match_false _ _ _ other (sym (cond-true _ _ _ own)); agrees = quiet }))
      (λ foreign. subst (λ (r : Answer × Held). CallCase before c r) (sym (cond-false _ _ _ foreign))
      (record { right = match_false _ _ _ other (sym (cond-false _ _ _ foreign)); agrees = quiet }))
      (cases_Bool (is_own method))))
      (cases_Bool (bytes_eq method (codes "$/cancelRequest")))

  finish_case : (key : Id) (ticket : ℕ) (outcome : Result Data ErrorObject) → CallCase before (finishes key ticket
      outcome) (answered held (finishes key ticket outcome))
  finish_case key ticket outcome =
      let c : Call = finishes key ticket outcome in
      ⊎_elim
      (λ here.
      let there = pending_is ticket (map.get (pending_of held) key) here in
      subst (λ (r : Answer × Held). CallCase before c r) (sym (cond-true _ _ _ here)) (record {
        right = inl (agrees.sound key ticket there, refl);
        agrees = removed before held agrees c key refl
            (λ id t apart. ends_none id t c refl refl (ap (λ b. b && (ticket == t)) (same_other key id (λ same. apart
            (sym same)))))
            (λ t is. let e : ticket ≡ t = cc in ends_finished key t c (ap (λ b. b && (ticket == t)) (same_own key)
            ∙ eq-eqb ticket t e));
      }))
      (λ absent. subst (λ (r : Answer × Held). CallCase before c r) (sym (cond-false _ _ _ absent)) (record {
        right = inr (λ live. true≢false (sym (pending_at ticket _ (agrees.complete key ticket live)) ∙ absent), refl);
        agrees = unchanged before held agrees c refl (λ id t there.
            ends_none id t c refl refl (⊎_elim
            (λ e.
            let both = and_true (same_id key id) (ticket == t) e in
            let is : map.get (pending_of held) key ≡ Some ticket = ap (λ (q : Id). map.get (pending_of held) q)
            (same_is key id both.0) ∙ there ∙ ap (λ (n : ℕ). Some n) (sym (eqb-true ticket t both.1)) in
            absurd (true≢false (sym (pending_at ticket _ is) ∙ absent)))
            (λ e. e)
            (cases_Bool (same_id key id && (ticket == t)))));
      }))
      (cases_Bool (is_pending_with ticket (map.get (pending_of held) key)))

  message_case : (m : Message) → CallCase before (delivers m) (answered held (delivers m))
  message_case (request id method params) = request_case id method params
  message_case (notification method params) = notification_case method params
  message_case (response id outcome) = record {
    right = refl;
    agrees = silent before held agrees
        (delivers (response id outcome)) refl refl (λ q t. refl);
  }

  pub call_case : (c : Call) → CallCase before c (answered held c)
  call_case (delivers m) = message_case m
  call_case (finishes id ticket outcome) = finish_case id ticket outcome
