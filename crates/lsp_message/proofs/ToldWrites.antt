-- Parts that were given to a writer, one after another.
use Rattle.std.proofs.Common.{◌≡◌, ℕ, ◌-◌, true, List, [], ◌∷◌, ◌++◌, length, take, drop, Option, refl, sym, ap}
use Rattle.std.proofs.Common.{subst, ◌∙◌, arith, append_assoc, append-nil, take_all, take-append-drop, length-drop}
use Rattle.std.specs.List.{concat}
use Rattle.std.specs.Io.KnownBytes.{Appends, Keeps}
use Rattle.std.proofs.KnownBytes.{Appends-kept, Appends-nil, Appends-trans}
use Rattle.std.proofs.lemmas.List.Folds.{concat-append}
use Rattle.lsp_message.specs.Told.{Parts, Gives, Given, shows_end}
use Rattle.lsp_message.proofs.Told.{concat-one, end_of_last}

pub Gives-one : (before after : Parts) (part : List ℕ) (a b : Option (List ℕ)) → after ≡ before ++ part ∷ []
    → Appends a b part → Gives (part ∷ []) before after a b
Gives-one before after part a b is given = record {
  added = is;
  appended = subst (Appends a b) (sym (concat-one part))
      given;
}

pub Gives-trans : (ps qs before mid after : Parts) (a b c : Option (List ℕ)) → Gives ps before mid a b
    → Gives qs mid after b c → Gives (ps ++ qs) before after a c
Gives-trans ps qs before mid after a b c first second = record {
  added = second.added ∙ ap (λ l. l ++ qs) first.added ∙ append_assoc before ps qs;
  appended = subst (Appends a c) (sym (concat-append ps qs)) (Appends-trans a b c _ _ first.appended second.appended);
}

module _ (all : List ℕ) (t u : Parts) (a b : Option (List ℕ)) where
  -- what was given of a text, of which the rest is left
  abbrev Left : List ℕ → Type 0
  Left rest = Given (λ parts. all ≡ concat parts ++ rest) t u a b

pub given_more : (all rest : List ℕ) (t u v : Parts) (a b c : Option (List ℕ)) (n : ℕ) → v ≡ u ++ take n rest ∷ []
    → Given (λ parts. all ≡ concat parts ++ rest) t u a b → Appends b c (take n rest)
    → Given (λ parts. all ≡ concat parts ++ take (length rest - n) (drop n rest)) t v a c
given_more all rest t u v a b c n is left more =
    let behind : take (length rest - n) (drop n rest) ≡ drop n rest = take_all _ _ (omega (arith, length-drop n rest))
    in
    let joined : concat (left.0 ++ take n rest ∷ []) ≡ concat left.0 ++ take n rest = concat-append left.0 (take n rest
    ∷ []) ∙ ap (λ l. concat left.0 ++ l) (concat-one (take n rest)) in (
      left.0 ++ take n rest ∷ [],
      Gives-trans left.0 (take n rest ∷ []) t u v a b c left.1 (Gives-one u v (take n rest) b c is more),
      left.2 ∙ ap (λ l. concat left.0 ++ l) (sym (take-append-drop n rest)) ∙ sym (append_assoc (concat left.0)
          (take n rest) (drop n rest))
          ∙ (λ i. sym joined i ++ sym behind i),
    )

-- a text that was given, and then a flush
pub given_flushed : (text all : List ℕ) (t u v : Parts) (a b c : Option (List ℕ)) → all ≡ text → v ≡ u ++ [] ∷ []
    → Given (λ parts. all ≡ concat parts) t u a b → Keeps b c
    → Given (λ parts. (text ≡ concat parts) × (shows_end parts ≡ true)) t v a c
given_flushed text all t u v a b c whole is (parts, gives, same) kept = (
  parts ++ [] ∷ [],
  Gives-trans parts ([] ∷ []) t u v a b c gives (Gives-one u v [] b c is (Appends-kept b b c [] (Appends-nil b) kept)),
  (
    sym whole ∙ same ∙ sym (concat-append parts ([] ∷ []) ∙ append-nil (concat parts)),
    end_of_last parts
        ([] ∷ []) refl,
  ),
)
