-- What jobs are called, and what is kept under their names.
use Rattle.std.proofs.Common.{◌≡◌, refl, ◌∙◌, ap, true, false, None, Bool}
use Rattle.std.specs.Bool.{Decides}
use Rattle.std.specs.FinMap.{FinMap, get-empty, get-insert, get-remove}
use Rattle.std.specs.FinMap as map
use Rattle.lsp_message.specs.Id.{Id, id_cmp, same_id}
use Rattle.lsp_message.specs.IdLaws.{id_total, id_decides}
use Rattle.lsp_jobs.specs.Names.{same_name}
use Rattle.lsp_jobs.specs.PendingJobs.{no_jobs, with_job, without}
use Rattle.lsp_jobs.specs.Waiting.{entry_of}
use Rattle.lsp_jobs.specs.declared.entries.Entries.{Entries}
use Rattle.lsp_jobs.specs.declared.names.JobName.{JobName}
use Rattle.lsp_jobs.specs.declared.names.JobName.TheVariants.{Request, Keyed}

abbrev id_in : JobName → Id
id_in (Request id) = id
id_in (Keyed key) = key

abbrev is_request : JobName → Bool
is_request (Request id) = true
is_request (Keyed key) = false

-- the names are told apart
pub name_decides : (a b : JobName) → Decides (same_name a b) (a ≡ b)
name_decides (Request i) (Request j) =
    let same : Decides (same_id i j) (i ≡ j) = id_decides i j in
    (λ e. ap (λ (id : Id). Request id) (same.0 e), λ e. same.1 (ap id_in e))
name_decides (Keyed s) (Keyed t) =
    let same : Decides (same_id s t) (s ≡ t) = id_decides s t in
    (λ e. ap (λ (key : Id). Keyed key) (same.0 e), λ e. same.1 (ap id_in e))
name_decides (Request i) (Keyed t) = (λ e. absurd (cc (e)), λ e. let no = ap is_request e in absurd (cc (no)))
name_decides (Keyed s) (Request j) = (λ e. absurd (cc (e)), λ e. let no = ap is_request e in absurd (cc (no)))

pub name_same : (a : JobName) → same_name a a ≡ true
name_same a = (name_decides a a).1 refl

module _ {E : Type 0} where
  pub none_kept : (all : Entries E) → all.requests ≡ map.empty → all.keys ≡ map.empty → entry_of all ≡ no_jobs
  none_kept all requests keys = λ k name. at name k
    where
      at : (name : JobName) → entry_of all name ≡ None
      at (Request id) = ap (λ (m : FinMap id_cmp E). map.get m id) requests ∙ get-empty id_cmp id
      at (Keyed key) = ap (λ (m : FinMap id_cmp E). map.get m key) keys ∙ get-empty id_cmp key

  pub request_added : (old new : Entries E) (id : Id) (e : E) → new.requests ≡ map.insert old.requests id e → new.keys
      ≡ old.keys → entry_of new ≡ with_job (Request id) e (entry_of old)
  request_added old new id e added same = λ k name. at name k
    where
      at : (name : JobName) → entry_of new name ≡ with_job (Request id) e (entry_of old) name
      at (Request i) = ap (λ (m : FinMap id_cmp E). map.get m i) added ∙ get-insert id_total old.requests id e i
      at (Keyed key) = ap (λ (m : FinMap id_cmp E). map.get m key) same

  pub key_added : (old new : Entries E) (key : Id) (e : E) → new.keys ≡ map.insert old.keys key e → new.requests
      ≡ old.requests → entry_of new ≡ with_job (Keyed key) e (entry_of old)
  key_added old new key e added same = λ k name. at name k
    where
      at : (name : JobName) → entry_of new name ≡ with_job (Keyed key) e (entry_of old) name
      at (Request i) = ap (λ (m : FinMap id_cmp E). map.get m i) same
      at (Keyed s) = ap (λ (m : FinMap id_cmp E). map.get m s) added ∙ get-insert id_total old.keys key e s

  pub request_removed : (old new : Entries E) (id : Id) → new.requests ≡ map.remove old.requests id → new.keys
      ≡ old.keys → entry_of new ≡ without (Request id) (entry_of old)
  request_removed old new id removed same = λ k name. at name k
    where
      at : (name : JobName) → entry_of new name ≡ without (Request id) (entry_of old) name
      at (Request i) = ap (λ (m : FinMap id_cmp E). map.get m i) removed ∙ get-remove id_total old.requests id i
      at (Keyed key) = ap (λ (m : FinMap id_cmp E). map.get m key) same

  pub key_removed : (old new : Entries E) (key : Id) → new.keys ≡ map.remove old.keys key → new.requests
      ≡ old.requests → entry_of new ≡ without (Keyed key) (entry_of old)
  key_removed old new key removed same = λ k name. at name k
    where
      at : (name : JobName) → entry_of new name ≡ without (Keyed key) (entry_of old) name
      at (Request i) = ap (λ (m : FinMap id_cmp E). map.get m i) same
      at (Keyed s) = ap (λ (m : FinMap id_cmp E). map.get m s) removed ∙ get-remove id_total old.keys key s
