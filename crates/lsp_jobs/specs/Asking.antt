-- Whose request to the client it was: the server's, or that of a job.
use Rattle.std.specs.Prelude.{◌≡◌, ◌==◌, ℕ, Bool, false, List, map}
use Rattle.lsp_acts.specs.Acts.{Act, tells, asks, replies, cancels}
use Rattle.lsp_jobs.specs.declared.asking.RequestOrigin.{RequestOrigin}
use Rattle.lsp_jobs.specs.declared.asking.RequestOrigin.TheVariants.{ByServer, ByJob}

module _ {P : Type 0} where
  -- the server asked, and keeps such a payload
  abbrev pub of_server : (P → Bool) → RequestOrigin P → Bool
  of_server such (ByServer payload) = such payload
  of_server such (ByJob number) = false

  -- a job asked, which waits under this number
  abbrev pub of_job : ℕ → RequestOrigin P → Bool
  of_job number (ByServer payload) = false
  of_job number (ByJob other) = other == number

  -- whether it was the same request, if payloads of the server are the same so
  abbrev pub same_origin : (P → P → Bool) → RequestOrigin P → RequestOrigin P → Bool
  same_origin same asked (ByServer payload) = of_server (λ kept. same kept payload) asked
  same_origin same asked (ByJob number) = of_job number asked

  -- An act of the server, which keeps this for the reply. It cancels no request of a job.
  abbrev pub by_server : Act P → Act (RequestOrigin P)
  by_server (tells method params) = tells method params
  by_server (asks method params payload) = asks method params (ByServer payload)
  by_server (replies id outcome) = replies id outcome
  by_server (cancels such) = cancels (of_server such)

  -- these are acts of the server, and it may do them
  abbrev pub ByServers : (List (Act P) → Type 0) → List (Act (RequestOrigin P)) → Type 0
  ByServers may all = (acts : List (Act P)) × (all ≡ map by_server acts) × may acts

  -- this holds if the request was the server's, and that if it was a job's
  abbrev pub WhoseAsked : RequestOrigin P → (P → Type 0) → Type 0 → Type 0
  WhoseAsked (ByServer payload) server job = server payload
  WhoseAsked (ByJob number) server job = job
