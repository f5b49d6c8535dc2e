-- Each step keeps the rule of the relay.
use Rattle.std.proofs.Common.{◌≡◌, ◌≢◌, ℕ, zero, suc, ◌+◌, true, false, true≢false, List, [], ◌∷◌, ◌++◌, length, set}
use Rattle.std.proofs.Common.{sym, refl, ap, ◌∙◌, subst, ◌⊎◌, ⊎_elim, inl, inr, append_assoc, append-nil, Option, Some}
use Rattle.std.proofs.Common.{None, Bool}
use mathlib.Core.Option.{some, some-ne-none}
use lib.ListN.{get_elem?}
use Rattle.crossbeam_channel.specs.Fifo.{Pushes, Pops, Forks, Merges}
use Rattle.atomic_table.proofs.Lists.{at_set, at_snoc}
use Rattle.std.proofs.lemmas.List.Elements.{filter_map-append}
use Rattle.lsp_relay.specs.declared.account.Account.{Account}
use Rattle.lsp_relay.specs.declared.ends.Parcel.{Parcel}
use Rattle.lsp_relay.specs.declared.ends.Parcel.TheVariants as parcel
use Rattle.lsp_relay.specs.Relay.{sender_account, receiver_account, both_account, no_account, waker_account}
use Rattle.lsp_relay.specs.Relay.{HoldsNoWake, parcels_of, sends_one, takes_one, gives_wake, wakes_with, Agrees, IsOpen}
use Rattle.lsp_relay.specs.Relay.{has_end, EndsAtMostOnce, TakenThenHeldIsSent, Source, Follows, IsLearned}

-- no pass may do what the flag is false for
never : {A : Type 0} → false ≡ true → A
never p = absurd (true≢false (sym p))

module _ {M : Type 0} (may_send : Source → List (Parcel M) → Type 0) where
  -- a place that the longer list has and the shorter one lacks is the last
  at_end : (l : List (Account M)) (a b : Account M) (j : ℕ) → get_elem? l j ≢ some b → get_elem? (l ++ a ∷ []) j
      ≡ some b → j ≡ length l
  at_end [] a b zero n e = refl
  at_end [] a b (suc j) n e = absurd (some-ne-none b (sym e))
  at_end (x ∷ xs) a b zero n e = absurd (n e)
  at_end (x ∷ xs) a b (suc j) n e = ap suc (at_end xs a b j n e)

  abbrev Each : (ℕ → Account M → Type 0) → List (Account M) → Type 0
  Each F accounts = (pass : ℕ) (account : Account M) → get_elem? accounts pass ≡ some account → F pass account

  each_set : (F : ℕ → Account M → Type 0) (accounts : List (Account M)) (pass : ℕ) (new : Account M) → F pass new
      → ((j : ℕ) (u : Account M) → j ≢ pass → get_elem? accounts j ≡ some u → F j u) → Each F (set accounts pass new)
  each_set F accounts pass new mine others j u e = ⊎_elim (λ (x : (j ≡ pass) × (new ≡ u)). subst
      (λ (y : ℕ × Account M). F y.0 y.1) (λ i. (sym x.0 i, x.1 i)) mine)
      (λ (x : (j ≢ pass) × (get_elem? accounts j ≡ some u)). others j u x.0 x.1) (at_set accounts pass j new u e)

  pub begins : TakenThenHeldIsSent may_send [] (both_account [] [] 0 false None ∷ [])
  begins = record {
    sender = 0;
    receiver = 0;
    sent = [];
    taken = [];
    wakes = 0;
    wakeable = false;
    source = None;
    kept = λ before after e known is. absurd (cc (is));
    whole = refl;
    unwoken = λ _. (refl, tt);
    agree = each_set (Agrees 0 0 [] [] 0 false None) (both_account [] [] 0 false None ∷ []) 0 (both_account [] [] 0
        false None) ((λ _. (refl, refl, refl, refl)), (λ _. (refl, refl, refl, refl, λ known is. refl)), λ p. never p)
        (λ j u other e. absurd (other (at_end [] _ u j (λ x. some-ne-none u (sym x)) e)));
  }

  parcels_append : (held more : List (Option (Parcel M))) → parcels_of (held ++ more) ≡ parcels_of held
      ++ parcels_of more
  parcels_append held more = filter_map-append (λ (item : Option (Parcel M)). item) held more

  -- a parcel is no wake
  no_wake_push : (held : List (Option (Parcel M))) (x : Parcel M) → HoldsNoWake held → HoldsNoWake (held ++ Some x ∷ [])
  no_wake_push [] x h = tt
  no_wake_push (None ∷ held) x h = absurd h
  no_wake_push (Some y ∷ held) x h = no_wake_push held x h

  no_wake_taken : (item : Option (Parcel M)) (held : List (Option (Parcel M))) (wakes : ℕ) → (wakes ≡ 0)
      × HoldsNoWake (item ∷ held) → (wakes_with item wakes ≡ 0) × HoldsNoWake held
  no_wake_taken None held wakes h = absurd h.1
  no_wake_taken (Some x) held wakes h = h

  -- a beginning of a list and one more is one of the list, or all of it
  beginning : (sent : List (Parcel M)) (x : Parcel M) (before after : List (Parcel M)) → sent ++ x ∷ [] ≡ before
      ++ after
      → ((rest : List (Parcel M)) × (sent ≡ before ++ rest)) ⊎ (sent ++ x ∷ [] ≡ before)
  beginning sent x [] after e = inl (sent, refl)
  beginning [] x (y ∷ []) after e = inr cc
  beginning [] x (y ∷ z ∷ before) after e = absurd (cc (e))
  beginning (s ∷ sent) x (y ∷ before) after e =
      let first : s ≡ y = cc in let rest : sent ++ x ∷ [] ≡ before ++ after = cc in elim (beginning sent x before after
      rest) [
        | inl old ↦ inl (old.0, λ i. first i ∷ old.1 i)
        | inr whole ↦ inr (λ i. first i ∷ whole i)
      ]

  -- each beginning of what was sent follows the plan, also with one parcel more
  follows_push : (source : Option Source) (sent : List (Parcel M)) (x : Parcel M) → ((before after : List (Parcel M))
      → sent ≡ before ++ after → Follows may_send source before) → Follows may_send source (sent ++ x ∷ [])
      → (before after : List (Parcel M)) → sent ++ x ∷ [] ≡ before ++ after → Follows may_send source before
  follows_push source sent x kept more before after e = elim (beginning sent x before after e) [
    | inl old ↦ kept before old.0 old.1
    | inr whole ↦ subst (Follows may_send source) whole more
  ]

  pub sends : (room pass : ℕ) (v : Account M) (x : Parcel M) → v.sends ≡ true → Follows may_send v.source (v.sent ++ x
      ∷ []) → Pushes (TakenThenHeldIsSent may_send) room pass v (Some x) (sends_one v (Some x))
  sends room pass v x may follows held accounts _ h at =
      let w : Account M = record v { sent = v.sent ++ x ∷ [] } in let mine = h.agree pass v at in let sent = h.sent ++ x
      ∷ [] in (
        w,
        record {
          sender = h.sender;
          receiver = h.receiver;
          sent = sent;
          taken = h.taken;
          wakes = h.wakes;
          wakeable = h.wakeable;
          source = h.source;
          kept = follows_push h.source h.sent x h.kept (subst (λ (y : Option Source × List (Parcel M)). Follows may_send
              y.0 (y.1 ++ x ∷ [])) (λ i. ((mine.0 may).3 i, (mine.0 may).1 i)) follows);
          whole = ap (λ l. l ++ x ∷ []) h.whole ∙ append_assoc h.taken (parcels_of held) (x ∷ []) ∙ ap (λ l. h.taken
              ++ l) (sym (parcels_append held (Some x ∷ [])));
          unwoken = λ none. ((h.unwoken none).0, no_wake_push held x (h.unwoken none).1);
          agree = each_set (Agrees h.sender h.receiver sent h.taken h.wakes h.wakeable h.source) accounts pass w (
            (λ _. ((mine.0 may).0, ap (λ l. l ++ x ∷ []) (mine.0 may).1, (mine.0 may).2, (mine.0 may).3)),
            mine.1,
            mine.2,
          )
              (λ j u other e. (
                (λ p. absurd (other (((h.agree j u e).0 p).0 ∙ sym (mine.0 may).0))),
                (h.agree j u e).1,
                (h.agree j u e).2,
              ));
        },
        refl,
      )

  -- a wake changes no account of parcels; only a waker gives one
  pub wakes : (room pass : ℕ) (v : Account M) → v.takes ≡ false → v.may_wake ≡ true
      → Pushes (TakenThenHeldIsSent may_send) room pass v None (gives_wake v None)
  wakes room pass v a b held accounts _ h at =
      let w : Account M = record v { wakes = v.wakes + 1 } in let mine = h.agree pass v at in (
        w,
        record {
          sender = h.sender;
          receiver = h.receiver;
          sent = h.sent;
          taken = h.taken;
          wakes = h.wakes;
          wakeable = h.wakeable;
          source = h.source;
          kept = h.kept;
          whole = h.whole ∙ ap (λ l. h.taken ++ l) (sym (parcels_append held (None ∷ [])
              ∙ append-nil (parcels_of held)));
          unwoken = λ none. absurd (true≢false (sym (mine.2 b) ∙ none));
          agree = each_set (Agrees h.sender h.receiver h.sent h.taken h.wakes h.wakeable h.source) accounts pass w
              (mine.0, (λ p. never (sym a ∙ p)), mine.2) (λ j u other e. h.agree j u e);
        },
        refl,
      )

  -- what the receiver learns is what the rule says
  learned : (source source' : Option Source) (wakeable wakeable' : Bool) (taken : List (Parcel M)) (wakes : ℕ)
      → source ≡ source' → ((known : Source) → source ≡ Some known → wakeable ≡ wakeable')
      → Follows may_send source' taken → (wakeable' ≡ false → wakes ≡ 0) → IsLearned may_send source wakeable taken
      wakes
  learned source source' wakeable wakeable' taken wakes p q follows unwoken =
      ((λ known is. follows known (sym p ∙ is)), λ known is none. unwoken (sym (q known is) ∙ none))

  pub takes : (pass : ℕ) (v : Account M) → v.takes ≡ true → Pops (TakenThenHeldIsSent may_send) pass v
      (takes_one may_send v)
  takes pass v may item held accounts h at =
      let came = parcels_of (item ∷ []) in let w : Account M = record v {
        taken = v.taken ++ came;
        wakes = wakes_with
            item v.wakes;
      } in let mine = h.agree pass v at in let taken = h.taken ++ came in
      let wakes = wakes_with item h.wakes in
      let whole : h.sent ≡ taken ++ parcels_of held = h.whole ∙ ap (λ l. h.taken ++ l) (parcels_append (item ∷ []) held)
      ∙ sym (append_assoc h.taken came (parcels_of held)) in
      let role = mine.1 may in (
        w,
        record {
          sender = h.sender;
          receiver = h.receiver;
          sent = h.sent;
          taken = taken;
          wakes = wakes;
          wakeable = h.wakeable;
          source = h.source;
          kept = h.kept;
          whole = whole;
          unwoken = λ none. no_wake_taken item held h.wakes (h.unwoken none);
          agree = each_set (Agrees h.sender h.receiver h.sent taken wakes h.wakeable h.source) accounts pass w (
            mine.0,
            (λ _. (
              (mine.1 may).0,
              ap (λ l. l ++ came) (mine.1 may).1,
              ap (wakes_with item) (mine.1 may).2,
              (mine.1 may).3,
              (mine.1 may).4,
            )),
            mine.2,
          )
              (λ j u other e. (
                (h.agree j u e).0,
                (λ p. absurd (other (((h.agree j u e).1 p).0 ∙ sym (mine.1 may).0))),
                (h.agree j u e).2,
              ));
        },
        (
          refl,
          learned v.source h.source v.wakeable h.wakeable w.taken w.wakes role.3 role.4
              (subst (Follows may_send h.source) (ap (λ l. l ++ came) (sym role.1)) (h.kept taken (parcels_of held)
              whole))
              (λ none. ap (wakes_with item) role.2 ∙ (no_wake_taken item held h.wakes (h.unwoken none)).0),
        ),
      )

  -- the sender makes a waker
  pub makes_waker : (pass : ℕ) (v : Account M) → v.sends ≡ true → v.source ≡ None → Forks (TakenThenHeldIsSent may_send)
      pass v (record v { wakeable = true }) (waker_account 0)
  makes_waker pass v may free held accounts h at =
      let left : Account M = record v { wakeable = true } in let new : Account M = waker_account 0 in let now : List
      (Account M) = set accounts pass left in let mine = h.agree pass v at in
      let Now : ℕ → Account M → Type 0 = Agrees h.sender h.receiver h.sent h.taken h.wakes true h.source in
      let same : Each Now now = each_set Now accounts pass left (
        (λ _. (
          (mine.0 may).0,
          (mine.0 may).1,
          refl,
          (mine.0 may).3,
        )),
        (λ p. let role = mine.1 p in (
          role.0,
          role.1,
          role.2,
          role.3,
          λ known is. absurd (cc (
            free,
            is,
          )),
        )),
        λ _. refl,
      )
      (λ j u other e. (
        (λ p. absurd (other (((h.agree j u e).0 p).0 ∙ sym (mine.0 may).0))),
        (λ p. let role = (h.agree j u e).1 p in (
          role.0,
          role.1,
          role.2,
          role.3,
          λ known is. absurd (cc (
            role.3
                ∙ sym (mine.0 may).3 ∙ free,
            is,
          )),
        )),
        λ _. refl,
      )) in record {
        sender = h.sender;
        receiver = h.receiver;
        sent = h.sent;
        taken = h.taken;
        wakes = h.wakes;
        wakeable = true;
        source = h.source;
        kept = h.kept;
        whole = h.whole;
        unwoken = λ none. absurd (true≢false none);
        agree = λ j u e. ⊎_elim (λ x. same j u x)
            (λ (is : new ≡ u). (
              (λ p. never (ap (λ (y : Account M). y.sends) is ∙ p)),
              (λ p. never (ap (λ (y : Account M). y.takes) is ∙ p)),
              λ _. refl,
            ))
            (at_snoc now new u j e);
      }

  -- a waker makes another one
  pub copies_waker : (pass : ℕ) (v : Account M) → v.may_wake ≡ true → Forks (TakenThenHeldIsSent may_send) pass v v
      (waker_account 0)
  copies_waker pass v may held accounts h at =
      let new : Account M = waker_account 0 in let now : List (Account M) = set accounts pass v in let mine = h.agree
      pass v at in
      let Now : ℕ → Account M → Type 0 = Agrees h.sender h.receiver h.sent h.taken h.wakes h.wakeable h.source in
      let same : Each Now now = each_set Now accounts pass v mine (λ j u other e. h.agree j u e) in record {
        sender = h.sender;
        receiver = h.receiver;
        sent = h.sent;
        taken = h.taken;
        wakes = h.wakes;
        wakeable = h.wakeable;
        source = h.source;
        kept = h.kept;
        whole = h.whole;
        unwoken = h.unwoken;
        agree = λ j u e. ⊎_elim (λ x. same j u x)
            (λ (is : new ≡ u). (
              (λ p. never (ap (λ (y : Account M). y.sends) is ∙ p)),
              (λ p. never (ap (λ (y : Account M). y.takes) is ∙ p)),
              λ _. mine.2 may,
            ))
            (at_snoc now new u j e);
      }

  -- one pass with both roles becomes a sender and a receiver
  pub parts : (pass : ℕ) (v : Account M) → v.sends ≡ true → v.takes ≡ true → Forks (TakenThenHeldIsSent may_send) pass v
      (sender_account v.sent v.wakeable v.source) (receiver_account v.taken v.wakes v.wakeable v.source)
  parts pass v a b held accounts h at =
      let left : Account M = sender_account v.sent v.wakeable v.source in let right : Account M = receiver_account
      v.taken v.wakes v.wakeable v.source in let mine = h.agree pass v at in
      let now : List (Account M) = set accounts pass left in
      let Old : ℕ → Account M → Type 0 = λ j u. (u.sends ≡ true → (j ≡ h.sender) × (u.sent ≡ h.sent)
      × (u.wakeable ≡ h.wakeable) × (u.source ≡ h.source)) × (u.takes ≢ true) × (u.may_wake ≡ true → h.wakeable
      ≡ true) in
      let old : Each Old now = each_set Old accounts pass left (
        (λ _. mine.0 a),
        (λ p. true≢false (sym p)),
        λ p. never p,
      )
      (λ j u other e. ((h.agree j u e).0, (λ p. other (((h.agree j u e).1 p).0 ∙ sym (mine.1 b).0)), (h.agree j u e).2))
      in record {
        sender = h.sender;
        receiver = length now;
        sent = h.sent;
        taken = h.taken;
        wakes = h.wakes;
        wakeable = h.wakeable;
        source = h.source;
        kept = h.kept;
        whole = h.whole;
        unwoken = h.unwoken;
        agree = λ j u e. ⊎_elim (λ x. ((old j u x).0, (λ p. absurd ((old j u x).1 p)), (old j u x).2))
            (λ (is : right ≡ u). (
              (λ p. never (ap (λ (y : Account M). y.sends) is ∙ p)),
              (λ p. (
                at_end now right u j (λ x. (old j u x).1 p) e,
                ap (λ (y : Account M). y.taken) (sym is)
                    ∙ (mine.1 b).1,
                ap (λ (y : Account M). y.wakes) (sym is) ∙ (mine.1 b).2,
                ap (λ (y : Account M). y.source) (sym is) ∙ (mine.1 b).3,
                subst (λ (y : Account M). (known : Source)
                    → y.source ≡ Some known → y.wakeable ≡ h.wakeable) is (mine.1 b).4,
              )),
              λ p. never (ap (λ (y : Account M). y.may_wake) is ∙ p),
            ))
            (at_snoc now right u j e);
      }

  empty_beginning : (before after : List (Parcel M)) → [] ≡ before ++ after → before ≡ []
  empty_beginning [] after e = refl
  empty_beginning (x ∷ before) after e = absurd (cc (e))

  -- the same, and the two know what may be sent
  pub plans : (pass : ℕ) (v : Account M) (known : Source) → v.sends ≡ true → v.takes ≡ true → v.sent ≡ []
      → may_send known [] → Forks (TakenThenHeldIsSent may_send) pass v (sender_account v.sent v.wakeable (Some known))
      (receiver_account v.taken v.wakes v.wakeable (Some known))
  plans pass v known a b fresh begins held accounts h at =
      let left : Account M = sender_account v.sent v.wakeable (Some known) in let right : Account M = receiver_account
      v.taken v.wakes v.wakeable (Some known) in let mine = h.agree pass v at in
      let now : List (Account M) = set accounts pass left in
      let Old : ℕ → Account M → Type 0 = λ j u. (u.sends ≡ true → (j ≡ h.sender) × (u.sent ≡ h.sent)
      × (u.wakeable ≡ h.wakeable) × (u.source ≡ Some known)) × (u.takes ≢ true) × (u.may_wake ≡ true → h.wakeable
      ≡ true) in
      let old : Each Old now = each_set Old accounts pass left (
        (λ _. ((mine.0 a).0, (mine.0 a).1, (mine.0 a).2, refl)),
        (λ p. true≢false (sym p)),
        λ p. never p,
      )
      (λ j u other e. (
        (λ p. absurd (other (((h.agree j u e).0 p).0 ∙ sym (mine.0 a).0))),
        (λ p. other (((h.agree j u e).1 p).0 ∙ sym (mine.1 b).0)),
        (h.agree j u e).2,
      )) in record {
        sender = h.sender;
        receiver = length now;
        sent = h.sent;
        taken = h.taken;
        wakes = h.wakes;
        wakeable = h.wakeable;
        source = Some known;
        kept = λ before after e. λ k is. let same : known ≡ k = cc in subst (λ (y : Source × List (Parcel M)). may_send
            y.0 y.1) (λ i. (same i, sym (empty_beginning before after (sym fresh ∙ (mine.0 a).1 ∙ e)) i)) begins;
        whole = h.whole;
        unwoken = h.unwoken;
        agree = λ j u e. ⊎_elim (λ x. ((old j u x).0, (λ p. absurd ((old j u x).1 p)), (old j u x).2))
            (λ (is : right ≡ u). (
              (λ p. never (ap (λ (y : Account M). y.sends) is ∙ p)),
              (λ p. (
                at_end now right u j (λ x. (old j u x).1 p) e,
                ap (λ (y : Account M). y.taken) (sym is)
                    ∙ (mine.1 b).1,
                ap (λ (y : Account M). y.wakes) (sym is) ∙ (mine.1 b).2,
                ap (λ (y : Account M). y.source) (sym is),
                subst (λ (y : Account M). (known : Source) → y.source
                    ≡ Some known → y.wakeable ≡ h.wakeable) is (λ k e. (mine.0 a).2),
              )),
              λ p. never (ap (λ (y : Account M). y.may_wake) is ∙ p),
            ))
            (at_snoc now right u j e);
      }

  -- the receiver's role moves to a new pass
  pub lends : (pass : ℕ) (v : Account M) → v.sends ≡ false → v.takes ≡ true → Forks (TakenThenHeldIsSent may_send) pass
      v no_account (receiver_account v.taken v.wakes v.wakeable v.source)
  lends pass v a b held accounts h at =
      let left : Account M = no_account in let right : Account M = receiver_account v.taken v.wakes v.wakeable v.source
      in let mine = h.agree pass v at in
      let now : List (Account M) = set accounts pass left in
      let Old : ℕ → Account M → Type 0 = λ j u. (u.sends ≡ true → (j ≡ h.sender) × (u.sent ≡ h.sent)
      × (u.wakeable ≡ h.wakeable) × (u.source ≡ h.source)) × (u.takes ≢ true) × (u.may_wake ≡ true → h.wakeable
      ≡ true) in
      let old : Each Old now = each_set Old accounts pass left ((λ p. never p), (λ p. true≢false (sym p)), λ p. never p)
      (λ j u other e. ((h.agree j u e).0, (λ p. other (((h.agree j u e).1 p).0 ∙ sym (mine.1 b).0)), (h.agree j u e).2))
      in record {
        sender = h.sender;
        receiver = length now;
        sent = h.sent;
        taken = h.taken;
        wakes = h.wakes;
        wakeable = h.wakeable;
        source = h.source;
        kept = h.kept;
        whole = h.whole;
        unwoken = h.unwoken;
        agree = λ j u e. ⊎_elim (λ x. ((old j u x).0, (λ p. absurd ((old j u x).1 p)), (old j u x).2))
            (λ (is : right ≡ u). (
              (λ p. never (ap (λ (y : Account M). y.sends) is ∙ p)),
              (λ p. (
                at_end now right u j (λ x. (old j u x).1 p) e,
                ap (λ (y : Account M). y.taken) (sym is)
                    ∙ (mine.1 b).1,
                ap (λ (y : Account M). y.wakes) (sym is) ∙ (mine.1 b).2,
                ap (λ (y : Account M). y.source) (sym is) ∙ (mine.1 b).3,
                subst (λ (y : Account M). (known : Source)
                    → y.source ≡ Some known → y.wakeable ≡ h.wakeable) is (mine.1 b).4,
              )),
              λ p. never (ap (λ (y : Account M). y.may_wake) is ∙ p),
            ))
            (at_snoc now right u j e);
      }

  -- a sender takes in the receiver's role
  pub joins : (pass : ℕ) (v : Account M) (other : ℕ) (u : Account M) → v.sends ≡ true → u.takes ≡ true
      → Merges (TakenThenHeldIsSent may_send) pass v other u (both_account v.sent u.taken u.wakes v.wakeable v.source)
      no_account
  joins pass v other u a b held accounts h at two at' =
      let both : Account M = both_account v.sent u.taken u.wakes v.wakeable v.source in let mine = h.agree pass v at in
      let now : List (Account M) = set accounts pass both in
      let was : get_elem? accounts other ≡ some u = ⊎_elim (λ x. absurd (two x.0)) (λ x. x.1) (at_set accounts pass
      other both u at') in let theirs = (h.agree other u was).1 b in
      let Now : ℕ → Account M → Type 0 = Agrees h.sender pass h.sent h.taken h.wakes h.wakeable h.source in
      let Apart : ℕ → Account M → Type 0 = λ j y. j ≢ other → Now j y in
      let apart : Each Apart now = each_set Apart accounts pass both (λ _. (
        (λ _. mine.0 a),
        (λ _. (refl, theirs.1, theirs.2, (mine.0 a).3, λ known is. (mine.0 a).2)),
        λ p. never p,
      ))
      (λ j y _ e away. (
        (h.agree j y e).0,
        (λ p. absurd (away (((h.agree j y e).1 p).0 ∙ sym theirs.0))),
        (h.agree j y e).2,
      )) in
      record {
        sender = h.sender;
        receiver = pass;
        sent = h.sent;
        taken = h.taken;
        wakes = h.wakes;
        wakeable = h.wakeable;
        source = h.source;
        kept = h.kept;
        whole = h.whole;
        unwoken = h.unwoken;
        agree = each_set Now now other no_account ((λ p. never p), (λ p. never p), λ p. never p) (λ j y away e. apart j
            y e away);
      }

module _ {M : Type 0} where
  taken_empty : (taken rest : List (Parcel M)) → [] ≡ taken ++ rest → taken ≡ []
  taken_empty [] rest e = refl
  taken_empty (x ∷ taken) rest e = absurd (cc (e))

  -- what the receiver knows of a relay that was just given a plan
  pub planned : (may_send : Source → List (Parcel M) → Type 0) (sent : List (Parcel M))
      (held : List (Option (Parcel M))) (known : Source) (w v : Account M)
      → w ≡ receiver_account v.taken v.wakes v.wakeable (Some known) → sent ≡ v.taken ++ parcels_of held → sent ≡ []
      → (v.wakeable ≡ false → v.wakes ≡ 0) → may_send known []
      → IsLearned may_send w.source w.wakeable w.taken w.wakes
  planned may_send sent held known w v is whole fresh unwoken begins =
      rw is (
        (λ k e. let same : known ≡ k = cc in subst (λ (y : Source × List (Parcel M)). may_send y.0 y.1) (λ i. (
          same i,
          sym (taken_empty v.taken (parcels_of held) (sym fresh ∙ whole)) i,
        )) begins),
        λ k e none. unwoken none,
      )

  -- a parcel after messages alone leaves at most one End, in the last place
  pub ends_after : (sent : List (Parcel M)) (x : Parcel M) → IsOpen sent → EndsAtMostOnce (sent ++ x ∷ [])
  ends_after [] (parcel.Message m) h = tt
  ends_after [] parcel.End h = refl
  ends_after (parcel.Message m ∷ rest) x h = ends_after rest x h
  ends_after (parcel.End ∷ rest) x h = absurd h

  -- the sender's account stays one after a send
  pub sender_after : (before after : Account M) (x : Parcel M) → before ≡ sender_account before.sent before.wakeable
      before.source → sends_one before (Some x) after → after ≡ sender_account after.sent after.wakeable after.source
  sender_after before after x is step =
      step ∙ ap (λ (v : Account M). record v { sent = before.sent ++ x ∷ [] }) is
      ∙ (λ i. sender_account (ap (λ (v : Account M). v.sent) (sym step) i) (ap (λ (v : Account M). v.wakeable)
      (sym step) i) (ap (λ (v : Account M). v.source) (sym step) i))

  -- if End was taken, a beginning of what was sent is all of it
  pub end_is_last : (taken rest : List (Parcel M)) → EndsAtMostOnce (taken ++ rest) → has_end taken ≡ true → taken
      ≡ taken ++ rest
  end_is_last [] rest once is = absurd (true≢false (sym is))
  end_is_last (parcel.Message m ∷ taken) rest once is = ap (λ l. parcel.Message m ∷ l) (end_is_last taken rest once is)
  end_is_last (parcel.End ∷ []) rest once is = ap (λ l. parcel.End ∷ l) (sym once)
  end_is_last (parcel.End ∷ x ∷ taken) rest once is = absurd (cc (once))

  pub whole_taken : (taken items sent : List (Parcel M)) → sent ≡ taken ++ items → EndsAtMostOnce sent → has_end taken
      ≡ true → taken ≡ sent
  whole_taken taken items sent is once closed = end_is_last taken items (subst EndsAtMostOnce is once) closed ∙ sym is
