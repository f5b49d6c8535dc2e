-- A token whose progress ends, and one whose progress had ended.
use Rattle.std.proofs.Common.{◌≡◌, ℕ, Bool, true, false, cond, Option, Some, refl, sym, ap, ◌∙◌}
use Rattle.lsp_message.proofs.Ids.{same_is}
use Rattle.lsp_message.specs.Id.{Id, same_id}
use Rattle.lsp_watch.specs.Progress.{once_ended, after_end}
use Rattle.lsp_watch.specs.declared.progress.Token.{Token}
use Rattle.lsp_watch.specs.declared.progress.Token.TheVariants.{Live, Ended}

module _ (held : Id → Option Token) (name other : Id) (place : ℕ) where
  at_name : same_id name other ≡ true → held other ≡ held name
  at_name same = ap held (sym (same_is name other same))

  -- a live token ends, and the others stay
  pub ends : held name ≡ Some Live → cond (same_id name other) (Some (Ended place)) (held other)
      ≡ after_end other place (Some name) (held other)
  ends live = by (same_id name other) refl
    where
      by : (b : Bool) → same_id name other ≡ b
          → cond b (Some (Ended place)) (held other) ≡ cond b (once_ended place (held other)) (held other)
      by true same = sym (ap (once_ended place) (at_name same ∙ live))
      by false same = refl

  -- one that is not live stays as it is
  pub stays : once_ended place (held name) ≡ held name → held other ≡ after_end other place (Some name) (held other)
  stays is = by (same_id name other) refl
    where
      by : (b : Bool) → same_id name other ≡ b → held other ≡ cond b (once_ended place (held other)) (held other)
      by true same = at_name same ∙ sym is ∙ sym (ap (once_ended place) (at_name same))
      by false same = refl
