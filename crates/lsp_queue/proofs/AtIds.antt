-- The pending requests at one id.
use Rattle.std.proofs.Common.{◌≡◌, ◌≢◌, None, Some, ◌∙◌}
use Rattle.std.proofs.lemmas.Bool.{cond-true, cond-false}
use Rattle.std.specs.FinMap as map
use Rattle.std.specs.FinMap.{get-insert, get-remove}
use Rattle.lsp_message.specs.Id.{Id, same_id}
use Rattle.lsp_message.specs.IdKeys.{id_antisymmetric}
use Rattle.lsp_message.specs.IdLaws.{id_total}
use Rattle.lsp_message.proofs.Ids.{same_own, same_other}
use Rattle.lsp_queue.specs.Queue.{Pending}
use Rattle.lsp_queue.proofs.Keys.{remove_absent}

module _ {X : Type 0} (m : Pending X) (key : Id) where
  pub insert_here : (x : X) → map.get (map.insert m key x) key ≡ Some x
  insert_here x = get-insert id_total m key x key ∙ cond-true (same_id key key) (Some x) (map.get m key) (same_own key)

  pub insert_other : (x : X) (q : Id) → q ≢ key → map.get (map.insert m key x) q ≡ map.get m q
  insert_other x q apart = get-insert id_total m key x q ∙ cond-false (same_id q key) (Some x) (map.get m q)
      (same_other q key apart)

  pub remove_here : map.get (map.remove m key) key ≡ None
  remove_here = get-remove id_total m key key ∙ cond-true (same_id key key) None (map.get m key) (same_own key)

  pub remove_other : (q : Id) → q ≢ key → map.get (map.remove m key) q ≡ map.get m q
  remove_other q apart = get-remove id_total m key q ∙ cond-false (same_id q key) None (map.get m q) (same_other q key
      apart)

  -- removing an id that is not pending changes nothing
  pub remove_none : map.get m key ≡ None → map.remove m key ≡ m
  remove_none absent = remove_absent id_total id_antisymmetric m key absent
