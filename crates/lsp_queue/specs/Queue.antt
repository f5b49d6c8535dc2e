-- The queues of requests that have no reply yet (JSON-RPC 2.0, section 5): two finite maps from ids, and a count.
use Rattle.serde_json.specs.Data.{Data}
use Rattle.serde_json.specs.Find.{get}
use Rattle.std.specs.FinMap.{FinMap, entries}
use Rattle.std.specs.List.{filter}
use Rattle.std.specs.Map.{keys_of}
use Rattle.std.specs.Prelude.{ℕ, ◌^◌, Bool, List, Option, option_and_then, Err, None, codes}
use Rattle.lsp_message.specs.ErrorCode.{number_of}
use Rattle.lsp_message.specs.Id.{Id, id_cmp}
use Rattle.lsp_message.specs.Meaning.{as_id}
use Rattle.lsp_message.specs.Message.{Message, response}
use Rattle.lsp_message.specs.declared.msg.code.ErrorCode.TheVariants.{RequestCanceled}

-- the requests of the other side that are pending, each with its data
abbrev pub Pending : Type 0 → Type 0
Pending D = FinMap id_cmp D

-- the requests of this side that are pending, and how many ids were given out
abbrev pub Asked : Type 0 → Type 0
Asked D = Pending D × ℕ

abbrev pub pending_of : {D : Type 0} → Asked D → Pending D
pending_of q = q.0

abbrev pub count_of : {D : Type 0} → Asked D → ℕ
count_of q = q.1

-- the ids of the requests whose data is such, in ascending order
abbrev pub ids_where : {D : Type 0} → (D → Bool) → Pending D → List Id
ids_where such pending = keys_of (filter (λ e. such e.1) (entries pending))

-- how many ids there are, from 0 to 2147483647
abbrev pub all_ids : ℕ
all_ids = 2 ^ 31

-- the request that the params of `$/cancelRequest` name: they are an object whose `id` is a good one
abbrev pub cancelled_id : Data → Option Id
cancelled_id params = option_and_then as_id (get (codes "id") params)

-- the reply to a request that its client cancelled (LSP 3.17, "Cancellation Support")
abbrev pub cancelled : Id → Message
cancelled id =
    response id (Err
    (record {
      code = number_of RequestCanceled;
      message = codes "canceled by client";
      details = None;
    }))
