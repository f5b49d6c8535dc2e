-- Whether it was the same request is symmetric and transitive.
use Rattle.std.specs.Prelude.{◌≡◌, Bool, true}
use Rattle.std.specs.Cmp.{IsPartialEquivalence, nat_eq_equiv, partial_equiv_from_equiv}
use Rattle.std.proofs.Common.{refl, sym, true≢false}
use Rattle.lsp_jobs.specs.Asking.{same_origin}
use Rattle.lsp_jobs.specs.declared.asking.RequestOrigin.{RequestOrigin}
use Rattle.lsp_jobs.specs.declared.asking.RequestOrigin.TheVariants.{ByServer, ByJob}

module _ {P : Type 0} (same : P → P → Bool) (laws : IsPartialEquivalence same) where
  symmetric : (a b : RequestOrigin P) → same_origin same a b ≡ same_origin same b a
  symmetric (ByServer p) (ByServer q) = laws.symm p q
  symmetric (ByServer p) (ByJob n) = refl
  symmetric (ByJob n) (ByServer q) = refl
  symmetric (ByJob n) (ByJob m) = nat_eq_equiv.symm n m

  transitive : (a b c : RequestOrigin P) → same_origin same a b ≡ true → same_origin same b c ≡ true
      → same_origin same a c ≡ true
  transitive (ByServer p) (ByServer q) (ByServer r) first second = laws.trans p q r first second
  transitive (ByServer p) (ByServer q) (ByJob m) first second = second
  transitive (ByServer p) (ByJob n) (ByServer r) first second = absurd (true≢false (sym first))
  transitive (ByServer p) (ByJob n) (ByJob m) first second = first
  transitive (ByJob n) (ByServer q) (ByServer r) first second = first
  transitive (ByJob n) (ByServer q) (ByJob m) first second = absurd (true≢false (sym first))
  transitive (ByJob n) (ByJob m) (ByServer r) first second = second
  transitive (ByJob n) (ByJob m) (ByJob k) first second = (partial_equiv_from_equiv nat_eq_equiv).trans n m k first
      second

  pub same_origin_laws : IsPartialEquivalence (same_origin same)
  same_origin_laws = record { symm = symmetric; trans = transitive }
