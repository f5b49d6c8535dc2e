-- What is seen of an act, and of a server beside its queues.
use Rattle.std.specs.Prelude.{Bool, List, [], ◌∷◌, Ok, Option, Some, None, string_bytes}
use Rattle.serde_json.specs.View.{view}
use Rattle.lsp_message.specs.View.{outcome_view}
use Rattle.lsp_session.specs.OutputView.{sent_view}
use Rattle.lsp_acts.specs.Acts.{Queues, Act, tells, asks, replies, cancels}
use Rattle.lsp_acts.specs.declared.server.Act as rust
use Rattle.lsp_acts.specs.declared.server.Act.TheVariants.{SendNotification, SendRequest, Reply, ReplyText, Cancel}
use Rattle.lsp_acts.specs.declared.server_application.Queues as rust_queues
use Rattle.lsp_acts.specs.declared.server_application.ServerApplication.{ServerApplication}

-- an act of a server whose payloads are equal so
abbrev pub act_view : {P : Type 0} → (P → P → Bool) → rust.Act P → Act P
act_view same (SendNotification n) = tells (string_bytes n.method) (view n.params)
act_view same (SendRequest method params payload) = asks (string_bytes method) (view params) payload
act_view same (Reply id outcome) = replies id (outcome_view outcome)
act_view same (ReplyText id text) = replies id (Ok (view text))
act_view same (Cancel payload) = cancels (λ kept. same kept payload)

-- what is in an option, as a list
abbrev pub listed : {P : Type 0} → Option P → List P
listed None = []
listed (Some payload) = payload ∷ []

abbrev pub queues_of : {P : Type 0} → rust_queues.Queues P → Queues P
queues_of queues =
    record {
      held = queues.requests.incoming;
      asked = queues.requests.outgoing;
      sent =
          sent_view queues.sent.items;
    }

abbrev pub seen : {S P : Type 0} → ServerApplication S P → S × Queues P
seen working = (working.server, queues_of working.queues)
