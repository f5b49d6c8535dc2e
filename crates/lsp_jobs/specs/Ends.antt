-- What a job came to, how it ended, and the errors that a request gets in place of its job's reply.
use Rattle.serde_json.specs.Data.{Data}
use Rattle.std.specs.Prelude.{Err, None, Option, Result, Some, codes}
use Rattle.lsp_message.specs.ErrorCode.{number_of}
use Rattle.lsp_message.specs.Message.{ErrorObject}
use Rattle.lsp_message.specs.declared.msg.code.ErrorCode.TheVariants.{InternalError, RequestFailed}
use Rattle.lsp_acts.specs.Acts.{canceled}
use Rattle.lsp_jobs.specs.declared.job_server.JobEnd.{JobEnd}
use Rattle.lsp_jobs.specs.declared.job_server.JobEnd.TheVariants.{Cancelled, Done, Failed}

-- what a request is answered with
abbrev pub Outcome : Type 0
Outcome = Result Data ErrorObject

-- the answer of a request for whose job there is no room
abbrev pub too_many : ErrorObject
too_many = record {
  code = number_of RequestFailed;
  message = codes "too many requests are waiting";
  details = None;
}

-- the answer of a request where an allocation failed: as its job was made or started, or in the job
abbrev pub no_memory : ErrorObject
no_memory = record { code = number_of InternalError; message = codes "out of memory"; details = None }

-- the answer of a request whose job gave no reply
abbrev pub no_result : ErrorObject
no_result = record { code = number_of InternalError; message = codes "no result"; details = None }

-- what a job came to
pub data Came (F : Type 0) : Type 0 where
  -- the reply to its request, and what its server gets
  gave : Option Outcome → Option F → Came F
  -- an allocation failed in it
  out_of_memory : Came F
  -- it ended as cancelled
  gave_up : Came F

-- how a job ended, as its server sees it
pub data End (F : Type 0) : Type 0 where
  -- its work is done, and it found this for its server
  found : F → End F
  -- so, and it found nothing
  ended : JobEnd → End F

module _ {F : Type 0} where
  -- the reply to the request of a job that came to this
  abbrev pub reply_of : Came F → Outcome
  reply_of (gave (Some outcome) it) = outcome
  reply_of (gave None it) = Err no_result
  reply_of out_of_memory = Err no_memory
  reply_of gave_up = Err canceled

  -- what its server sees of it
  abbrev pub end_of : Came F → End F
  end_of (gave reply (Some it)) = found it
  end_of (gave reply None) = ended Done
  end_of out_of_memory = ended Failed
  end_of gave_up = ended Cancelled

module _ {J F : Type 0} (run_post : J → Option Outcome → Option F → Type 0) where
  -- a job has a result that it may have, or none
  abbrev pub ComesTo : J → Came F → Type 0
  ComesTo job (gave reply it) = run_post job reply it
  ComesTo job came = Unit {0}
