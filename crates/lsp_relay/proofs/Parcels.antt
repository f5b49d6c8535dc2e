-- Lists of parcels.
use Rattle.std.proofs.Common.{◌≡◌, true, List, [], ◌∷◌, ◌++◌, ◌∙◌, ap, sym, refl, map, append_assoc, Option, Some, None}
use Rattle.std.proofs.Common.{IfSome, IfNone}
use mathlib.Core.List.{IsPrefix}
use Rattle.lsp_relay.specs.declared.ends.Parcel.{Parcel}
use Rattle.lsp_relay.specs.declared.ends.Parcel.TheVariants as parcel
use Rattle.lsp_relay.specs.Relay.{ended, has_end, IsOpen}

module _ {M : Type 0} where
  pub open_push : (sent : List (Parcel M)) (m : M) → IsOpen sent → IsOpen (sent ++ parcel.Message m ∷ [])
  open_push [] m h = tt
  open_push (parcel.Message n ∷ rest) m h = open_push rest m h
  open_push (parcel.End ∷ rest) m h = absurd h

  pub has_end_push : (taken : List (Parcel M)) (m : M) → has_end (taken ++ parcel.Message m ∷ []) ≡ has_end taken
  has_end_push [] m = refl
  has_end_push (parcel.Message n ∷ rest) m = has_end_push rest m
  has_end_push (parcel.End ∷ rest) m = refl

  pub has_end_closed : (taken : List (Parcel M)) → has_end (taken ++ parcel.End ∷ []) ≡ true
  has_end_closed [] = refl
  has_end_closed (parcel.Message n ∷ rest) = has_end_closed rest
  has_end_closed (parcel.End ∷ rest) = refl

  pub has_end_messages : (taken : List (Parcel M)) (ms : List M) → has_end (taken ++ map parcel.Message ms)
      ≡ has_end taken
  has_end_messages [] [] = refl
  has_end_messages [] (m ∷ ms) = has_end_messages [] ms
  has_end_messages (parcel.Message n ∷ rest) ms = has_end_messages rest ms
  has_end_messages (parcel.End ∷ rest) ms = refl

  -- of two lists that end in End, one begins the other only if they have the same messages
  pub ended_begins : (ms ns : List M) (more : List (Parcel M)) → ended ms ++ more ≡ ended ns → ms ≡ ns
  ended_begins [] [] more e = refl
  ended_begins [] (n ∷ ns) more e = cc
  ended_begins (m ∷ ms) [] more e = cc
  ended_begins (m ∷ ms) (n ∷ ns) more e =
      let first : m ≡ n = cc in let others : ended ms ++ more ≡ ended ns = cc in let rest = ended_begins ms ns more
      others in λ i. first i ∷ rest i

  -- messages, and then more up to End
  pub ended_more : (ms more : List M) → map parcel.Message ms ++ ended more ≡ ended (ms ++ more)
  ended_more [] more = refl
  ended_more (m ∷ ms) more = ap (λ l. parcel.Message m ∷ l) (ended_more ms more)

  -- what was taken before a take is a beginning of what it ends with
  pub settled_before : (r : Option (Parcel M)) (old new sent : List (Parcel M)) → IfSome r (λ p. new ≡ old ++ p ∷ [])
      → IfNone r (new ≡ old) → IsPrefix new sent → IsPrefix old sent
  settled_before None old new sent some none h = (h.0, ap (λ l. l ++ h.0) (sym none) ∙ h.1)
  settled_before (Some p) old new sent some none h = (
    p ∷ h.0,
    sym (append_assoc old (p ∷ []) h.0) ∙ ap (λ l. l ++ h.0)
        (sym some) ∙ h.1,
  )

  -- if what was taken up to End is a beginning of what was sent up to End, it is the same messages
  pub same_messages : (ms ns : List M) (taken sent : List (Parcel M)) → taken ≡ ended ms → sent ≡ ended ns
      → IsPrefix taken sent → ms ≡ ns
  same_messages ms ns taken sent t s h = ended_begins ms ns h.0 (ap (λ l. l ++ h.0) (sym t) ∙ h.1 ∙ s)
