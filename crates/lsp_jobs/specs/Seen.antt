-- What is seen of a server with its pool.
use Rattle.std.specs.Prelude.{Bool, List, map}
use Rattle.lsp_acts.specs.Acts.{Act}
use Rattle.lsp_acts.specs.View.{act_view}
use Rattle.lsp_acts.specs.declared.server.Act as rust
use Rattle.lsp_jobs.specs.PoolView.{pending_jobs}
use Rattle.lsp_jobs.specs.PendingJobs.{PendingJobs}
use Rattle.lsp_jobs.specs.declared.pooled_server.PooledServer.{PooledServer}

abbrev pub seen : {T S J F : Type 0} → PooledServer T S J F → S × PendingJobs J
seen pooled = (pooled.server, pending_jobs pooled.pool)

-- the same, with acts that were done before, whose payloads are equal so
abbrev pub seen_with : {T S J F P : Type 0} → (P → P → Bool) → PooledServer T S J F → List (rust.Act P)
    → S × PendingJobs J × List (Act P)
seen_with same pooled acts = (pooled.server, pending_jobs pooled.pool, map (act_view same) acts)
