-- Which tickets are live after one more call.
use Rattle.std.proofs.Common.{◌≡◌, ℕ, List, [], ◌∷◌, ◌++◌, length, Bool, true, false, Option, None, Some, refl, ap, ◌∙◌}
use Rattle.std.proofs.Common.{subst, ◌⊎◌, inl, inr, ⊎_elim, append_assoc, ◌||◌}
use Rattle.std.proofs.lemmas.List.Elements.{filter_map-append}
use Rattle.lsp_message.specs.Id.{Id}
use Rattle.lsp_dispatch.specs.DispatchCalls.{Call, asked_by, cancelled_by, is_finished_by, is_id, ends}
use Rattle.lsp_dispatch.specs.Dispatch.{asked, IsLive}
use Rattle.lsp_message.proofs.Ids.{same_own}
use Rattle.lsp_dispatch.proofs.Lists.{nothing_in, split_push}

-- the id of a request, as a list
abbrev pub one : Option Id → List Id
one None = []
one (Some id) = id ∷ []

one_asked : (o : Option Id) (c : Call) → asked_by c ≡ o → asked (c ∷ []) ≡ one o
one_asked None c e = rw e refl
one_asked (Some id) c e = rw e refl

pub asked_push : (calls : List Call) (c : Call) (o : Option Id) → asked_by c ≡ o → asked (calls ++ c ∷ []) ≡ asked calls
    ++ one o
asked_push calls c o e = filter_map-append asked_by calls (c ∷ []) ∙ ap (λ l. asked calls ++ l) (one_asked o c e)

pub ends_asked : (id : Id) (t : ℕ) (c : Call) → asked_by c ≡ Some id → ends id t c ≡ true
ends_asked id t c e = (λ i. is_id id (e i) || (is_id id (cancelled_by c) || is_finished_by id t c))
    ∙ ap (λ b. b || (is_id id (cancelled_by c) || is_finished_by id t c)) (same_own id)

or_true : (b : Bool) → (b || true) ≡ true
or_true true = refl
or_true false = refl

pub ends_cancelled : (id : Id) (t : ℕ) (c : Call) → cancelled_by c ≡ Some id → ends id t c ≡ true
ends_cancelled id t c e =
    (λ i. is_id id (asked_by c) || (is_id id (e i) || is_finished_by id t c)) ∙ ap (λ b. is_id id (asked_by c)
    || (b || is_finished_by id t c)) (same_own id)
    ∙ or_true (is_id id (asked_by c))

pub ends_finished : (id : Id) (t : ℕ) (c : Call) → is_finished_by id t c ≡ true → ends id t c ≡ true
ends_finished id t c e =
    ap (λ b. is_id id (asked_by c) || (is_id id (cancelled_by c) || b)) e ∙ ap (λ b. is_id id (asked_by c) || b)
    (or_true (is_id id (cancelled_by c)))
    ∙ or_true (is_id id (asked_by c))

pub ends_none : (id : Id) (t : ℕ) (c : Call) → is_id id (asked_by c) ≡ false → is_id id (cancelled_by c) ≡ false
    → is_finished_by id t c ≡ false → ends id t c ≡ false
ends_none id t c a b f = λ i. a i || (b i || f i)

module _ (before : List Call) (c : Call) where
  -- a live ticket that the call does not end
  pub stays : (id : Id) (t : ℕ) → IsLive before id t → ends id t c ≡ false → IsLive (before ++ c ∷ []) id t
  stays id t live on = record {
    earlier = live.earlier;
    call = live.call;
    since = live.since ++ c ∷ [];
    place = ap (λ l. l ++ c ∷ []) live.place ∙ append_assoc live.earlier (live.call ∷ live.since) (c ∷ []);
    counted = live.counted;
    brings = live.brings;
    unended = λ x y d e.
        ⊎_elim
        (λ last. subst (λ (k : Call). ends id t k ≡ false) last.2 on)
        (λ more. live.unended x more.0 d more.2)
        (split_push live.since c x d y e);
  }

  -- the call brings a request
  pub begins : (id : Id) → asked_by c ≡ Some id → IsLive (before ++ c ∷ []) id (length (asked before))
  begins id brings = record {
    earlier = before;
    call = c;
    since = [];
    place = refl;
    counted = refl;
    brings = brings;
    unended = λ x y d e. absurd (nothing_in x d y e);
  }

  -- what is live after the call
  pub comes_from : (id : Id) (t : ℕ) → IsLive (before ++ c ∷ []) id t → ((asked_by c ≡ Some id) × (length (asked before)
      ≡ t)) ⊎ (IsLive before id t × (ends id t c ≡ false))
  comes_from id t live =
      ⊎_elim
      (λ none. inl (ap asked_by none.2 ∙ live.brings, ap (λ l. length (asked l)) none.1 ∙ live.counted))
      (λ more. inr (
        record {
          earlier = live.earlier;
          call = live.call;
          since = more.0;
          place = more.2;
          counted = live.counted;
          brings = live.brings;
          unended = λ x y d e. live.unended x (y ++ c ∷ []) d (more.1 ∙ ap (λ l. l ++ c ∷ []) e ∙ append_assoc x (d ∷ y)
              (c ∷ []));
        },
        live.unended more.0 [] c more.1,
      ))
      (split_push before c live.earlier live.call live.since live.place)
