-- Two protocol errors are equal if their texts and their flags are: an equivalence.
use Rattle.std.specs.Bool.{beq}
use Rattle.std.specs.Cmp.{IsEquivalence, bool_eq_equiv, booleans_Decides}
use Rattle.std.specs.Prelude.{◌≡◌, Bool, true, false, ◌&&◌}
use Rattle.std.specs.Str.{bytes_eq}
use Rattle.std.proofs.Common.{refl, ap, ◌∙◌}
use Rattle.std.proofs.lemmas.Cmp.{nat_list_eq_equiv}
use Rattle.std.proofs.lemmas.Slice.Eq.{bytes_eq-Decides}
use Rattle.lsp_session.specs.ProtocolError.{ProtocolFault, fault_eq, fault_text, is_disconnected}

-- both tests hold
both : (a b : Bool) → (a && b) ≡ true → (a ≡ true) × (b ≡ true)
both true b holds = (refl, holds)
both false b holds = absurd (cc)

congr : (a b c : ProtocolFault) → fault_eq a b ≡ true → fault_eq a c ≡ fault_eq b c
congr a b c same =
    let parts = both (bytes_eq (fault_text a) (fault_text b))
    (beq (is_disconnected a) (is_disconnected b)) same in
    let texts = (bytes_eq-Decides (fault_text a) (fault_text b)).0 parts.0 in
    let flags = (booleans_Decides (is_disconnected a) (is_disconnected b)).0 parts.1 in
    ap (λ text. bytes_eq text (fault_text c) && beq (is_disconnected a) (is_disconnected c)) texts
    ∙ ap (λ flag. bytes_eq (fault_text b) (fault_text c) && beq flag (is_disconnected c)) flags

pub fault_equiv : IsEquivalence fault_eq
fault_equiv = record {
  refl = λ a. rw (nat_list_eq_equiv.refl (fault_text a), bool_eq_equiv.refl (is_disconnected a))
      refl;
  symm = λ a b.
      rw (
        nat_list_eq_equiv.symm (fault_text a) (fault_text b),
        bool_eq_equiv.symm
            (is_disconnected a) (is_disconnected b),
      ) refl;
  congr = congr;
}
