use Rattle.std.proofs.Common.{ℕ, [], ◌∷◌, ◌++◌, refl, sym, ap, ◌∙◌, subst}
use Rattle.std.proofs.lemmas.Bool.{eqb-true}
use Rattle.std.specs.Prelude.{string_bytes}
use Rattle.serde_json.specs.View.{view}
use Rattle.lsp_message.specs.View.{request_view}
use Rattle.lsp_queue.specs.Queue.{Asked}
use Rattle.lsp_peers.specs.declared.step.Outcome.TheVariants.{Spent}
use Rattle.lsp_peers.specs.declared.step.Step.TheVariants.{Register}
use Rattle.lsp_peers.specs.Delivery.{PeersAfter}
use Rattle.lsp_peers.proofs.PeerLemmas.{far_line, near_line, register_keeps, request_is, idle_keeps, spent_comes}
use Rattle.lsp_peers.proofs.PeerLemmas.{spent_only}
use Rattle.lsp_peers.proofs.Entries.{entry}
use Rattle.lsp_peers.specs.declared.step.Step.{Step}
use Rattle.lsp_peers.proofs.peer.Peer.register.Goals as goal

pub returns-in_ok-written-in-Ok-clause-ok : goal.returns-in_ok-written-in-Ok-clause-ok
returns-in_ok-written-in-Ok-clause-ok c = λ side handed history after shallow.
    let queue = c.in-Ok.ensures in
    let wrote = c.in_ok-written-in-Ok.ensures.ok _ (far_line _ _ side handed history after) in
    let is = request_is _ _ _ _ _ _ queue.id (ap string_bytes queue.method) (ap view queue.params) in
    register_keeps _ _ side handed history after c.args.method c.args.params c.args.payload c.register_value.new.self
    c.write-written.new.self _ (request_view c.in-Ok.request) shallow is queue.room queue.ok wrote
    (c.in-Ok-clone.ensures ∙ queue.id)

pub returns-in-Err-Spent-clause-ok : goal.returns-in-Err-Spent-clause-ok
returns-in-Err-Spent-clause-ok c = λ side handed history after shallow.
    let self = c.args.self.now in
    let step : Step = Register side c.args.method c.args.params c.args.payload in
    let full = eqb-true _ _ (spent_only _ _ _ _ (sym c.in-Err-Spent.field-0-is
    ∙ c.in-Err-Spent.ensures.refused)) in (
      _,
      subst (λ (asked : Asked ℕ). PeersAfter (record {
        queue = record { incoming = self.queue.incoming; outgoing = asked };
        link = self.link;
        taken = self.taken;
      }) c.args.far.now side handed (history ++ entry step Spent [] ∷ [])) (sym c.in-Err-Spent.ensures.err) (idle_keeps
          _
          _ side handed history after step Spent refl shallow (spent_comes _ _ side handed history after c.args.method
          c.args.params c.args.payload full) _ _ (refl, refl, refl, refl, refl, refl, refl) refl (near_line _ _ side
          handed history after)),
    )
