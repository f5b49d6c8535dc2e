-- Each pending job has its ticket.
use Rattle.std.proofs.Common.{◌≡◌, sym, ◌∙◌, ap, subst, ℕ, Bool, true, false, cond, List, [], ◌∷◌, ◌++◌, length, ◌+◌}
use Rattle.std.proofs.Common.{Some, None, option_map, Result, Ok, Err, OnErr, OnOk}
use Rattle.std.specs.Prelude.{MatchResult}
use Rattle.std.proofs.lemmas.List.{length-append}
use mathlib.Core.Option.{some, some-injective}
use lib.ListN.{get_elem?}
use Rattle.lsp_jobs.proofs.Tickets.{still, newest}
use Rattle.lsp_jobs.specs.Outcomes.{KnowsAll, IsSaidBy, MaySend, all_jobs}
use Rattle.lsp_jobs.specs.Names.{same_name}
use Rattle.lsp_jobs.specs.PendingJobs.{PendingJobs, no_jobs, with_job, without}
use Rattle.lsp_jobs.specs.Waiting.{HaveTickets, MaySay, job_of}
use Rattle.lsp_jobs.specs.declared.channel.Item.{Item}
use Rattle.lsp_jobs.specs.declared.channel.Known.{Known}
use Rattle.lsp_jobs.specs.declared.channel.Known.TheVariants.{All}
use Rattle.lsp_jobs.specs.declared.job.Job.{Ghosts as OfJob}
use Rattle.lsp_jobs.specs.declared.names.JobName.{JobName}
use Rattle.lsp_jobs.specs.declared.table.Entry.{Entry}

pub known_all : {J : Type 0} (known : Known J) (jobs : List J) → known ≡ All jobs → KnowsAll known
    × (all_jobs known ≡ jobs)
known_all {J} known jobs is = let same : all_jobs known ≡ jobs = ap all_jobs is in (
  is ∙ ap (λ (l : List J). All l)
      (sym same),
  same,
)

-- either way what the pass knows is the same
pub same_view : {T E V : Type 0} (w v : V) (P : T → Type 0) (Q : E → Type 0) (r : Result T E)
    → MatchResult r (λ x. (w ≡ v) × P x) (λ e. (w ≡ v) × Q e) → w ≡ v
same_view w v P Q (Ok x) holds = holds.0
same_view w v P Q (Err e) holds = holds.0

pub one_longer : {J : Type 0} (known : Known J) (jobs : List J) (job : J) (next : ℕ) → known ≡ All (jobs ++ job ∷ [])
    → length jobs ≡ next → length (all_jobs known) ≡ next + 1
one_longer known jobs job next is long = ap (λ (k : Known _). length (all_jobs k)) is ∙ length-append jobs (job ∷ [])
    ∙ ap (λ n. n + 1) long

module _ {J : Type 0} where
  pub none_wait : (jobs : List J) (entries : PendingJobs (Entry J)) → entries ≡ no_jobs → HaveTickets jobs entries
  none_wait jobs entries none name entry found =
      let never : Some entry ≡ None = sym found ∙ ap (λ (m : PendingJobs (Entry J)). m name) none in
      absurd (cc (never))

  -- an entry of a table that has one more
  inserted : (jobs : List J) (entries : PendingJobs (Entry J)) (new e : Entry J) (name : JobName) (b : Bool)
      → HaveTickets jobs entries → get_elem? jobs new.ticket ≡ some new.job.value
      → cond b (Some new) (entries name) ≡ Some e → get_elem? jobs e.ticket ≡ some e.job.value
  inserted jobs entries new e name true have is found = let same : new ≡ e = cc (found) in subst
      (λ (x : Entry J). get_elem? jobs x.ticket ≡ some x.job.value) same is
  inserted jobs entries new e name false have is found = have name e found

  removed : (jobs : List J) (entries : PendingJobs (Entry J)) (e : Entry J) (name : JobName) (b : Bool)
      → HaveTickets jobs entries → cond b None (entries name) ≡ Some e → get_elem? jobs e.ticket ≡ some e.job.value
  removed jobs entries e name true have found = absurd (cc (found))
  removed jobs entries e name false have found = have name e found

  -- a job got a ticket, and is not pending
  pub one_more : (jobs : List J) (job : J) (known : Known J) (entries : PendingJobs (Entry J)) → known
      ≡ All (jobs ++ job ∷ []) → HaveTickets jobs entries → HaveTickets (all_jobs known) entries
  one_more jobs job known entries is have name entry found =
      subst (λ (l : List J). get_elem? l entry.ticket ≡ some entry.job.value) (sym (ap all_jobs is)) (still jobs job
      entry.job.value entry.ticket (have name entry found))

  -- it is pending
  pub entered : (jobs : List J) (job : J) (known : Known J) (entries more : PendingJobs (Entry J)) (name : JobName)
      (new : Entry J) → known ≡ All (jobs ++ job ∷ []) → new.ticket ≡ length jobs → new.job.value ≡ job
      → more ≡ with_job name new entries → HaveTickets jobs entries → HaveTickets (all_jobs known) more
  entered jobs job known entries more name new is ticket named all have n entry found =
      let now : List J = all_jobs known in
      let grown : now ≡ jobs ++ job ∷ [] = ap all_jobs is in
      let mine : get_elem? now new.ticket ≡ some new.job.value = ap (get_elem? now) ticket
      ∙ ap (λ (l : List J). get_elem? l (length jobs)) grown ∙ newest jobs job ∙ ap some (sym named) in
      inserted now entries new entry n (same_name n name) (one_more jobs job known entries is have) mine
      (ap (λ (m : PendingJobs (Entry J)). m n) (sym all) ∙ found)

  -- it is pending, if it was added
  pub registered : {T E : Type 0} (jobs : List J) (job : J) (known : Known J) (entries more : PendingJobs (Entry J))
      (name : JobName) (new : Entry J) (r : Result T E) → known ≡ All (jobs ++ job ∷ []) → new.ticket ≡ length jobs
      → new.job.value ≡ job
      → OnOk r (more ≡ with_job name new entries) → OnErr r (more ≡ entries) → HaveTickets jobs entries
      → HaveTickets (all_jobs known) more
  registered jobs job known entries more name new (Ok x) is ticket named ok err have = entered jobs job known entries
      more name new is ticket named ok have
  registered jobs job known entries more name new (Err e) is ticket named ok err have =
      subst (λ (m : PendingJobs (Entry J)). HaveTickets (all_jobs known) m) (sym err) (one_more jobs job known
      entries is have)

  -- a job is pending no more
  pub fewer : (jobs : List J) (entries less : PendingJobs (Entry J)) (name : JobName) → less ≡ without name entries
      → HaveTickets jobs entries → HaveTickets jobs less
  fewer jobs entries less name is have n entry found =
      removed jobs entries entry n (same_name n name) have (ap (λ (m : PendingJobs (Entry J)). m n) (sym is) ∙ found)

  -- an item is said by the pending job that has its ticket
  pub said_by : {F : Type 0} (may : OfJob J F) (jobs : List J)
      (entries before : PendingJobs (Entry J)) (item : Item F) (entry : Entry J) → entries ≡ before
      → HaveTickets jobs entries → IsSaidBy may jobs item → entries item.name ≡ Some entry
      → entry.ticket ≡ item.ticket
      → MaySay may (λ name. option_map job_of (before name)) item.name item.message
  said_by may jobs entries before item entry is have said found ticket =
      let same : said.0 ≡ entry.job.value = some-injective _ _ (sym said.1 ∙ ap (get_elem? jobs) (sym ticket)
      ∙ have item.name entry found) in (
        entry.job.value,
        ap (λ (m : PendingJobs (Entry J)). option_map job_of (m item.name)) (sym is) ∙ ap (option_map job_of) found,
        subst (λ (job : J). MaySend may job item.message) same said.2,
      )
