use Rattle.std.proofs.Common.{◌≡◌, refl, sym, ap, ◌∙◌, subst}
use Rattle.std.specs.Prelude.{Result, Ok, Err, OnErr}
use Rattle.std.proofs.lemmas.Result.{err_from_is_err_and}
use Rattle.lsp_message.specs.View.{message_view}
use Rattle.lsp_peers.specs.Post.{Post, Carries, next}
use Rattle.lsp_peers.proofs.Entries.{post_of}
use Rattle.lsp_peers.specs.declared.fault.WorldFault.{WorldFault}
use Rattle.lsp_peers.specs.declared.fault.WorldFault.TheVariants.{Memory}
use Rattle.lsp_peers.specs.declared.step.Outcome.{Outcome}
use Rattle.lsp_peers.specs.declared.step.Outcome.TheVariants.{Waiting}
use Rattle.lsp_peers.specs.declared.step.Step.TheVariants.{Take}
use Rattle.lsp_peers.proofs.PeerLemmas.{own, others, near_line, next_reads, takes_keep, sent_frame_is, after_taken}
use Rattle.lsp_peers.proofs.PeerLemmas.{after_none, idle_keeps, none_of, waiting_comes}
use Rattle.lsp_peers.proofs.peer.Peer.take.Goals as goal

pub returns-in-Ok-push-clause-ok : goal.returns-in-Ok-push-clause-ok
returns-in-Ok-push-clause-ok c = λ side handed history after shallow.
    let post = post_of (own _ _ side handed history after) (others _ _ side handed history after) in
    let took = (rw c.in-Some.is at c.in_ok-message.ensures.ok) post (near_line _ _ side handed history after)
    (next_reads _ _ side handed history after) in
    let found = sent_frame_is (next post) (message_view c.in-Some.message) took.0 in
    let carries = subst (λ (p : Post). Carries c.take.new.self p) (after_taken post found.0 found.1) took.1 in (
      _,
      takes_keep _ _ side handed history after c.args.label c.deliver.new.queue c.take.new.self c.push.new.self found.0
          c.in-Some.message (message_view c.in-Some.message) c.in-Ok.outcome refl found.1 found.2 carries
          c.in-Ok.ensures c.in-Ok-push.ensures.items,
    )

pub returns-in_default-clause-ok : goal.returns-in_default-clause-ok
returns-in_default-clause-ok c = λ side handed history after shallow.
    let post = post_of (own _ _ side handed history after) (others _ _ side handed history after) in
    let line = near_line _ _ side handed history after in
    let none = c.in_ok-message.ensures.comes post line (ap (λ o. Ok o) (none_of c.in_ok-message.field-0
    c.in_default.not-Some)) in
    let took = c.in_ok-message.ensures.ok post line (next_reads _ _ side handed history after) in (
      _,
      idle_keeps _ _ side handed history after (Take side c.args.label) Waiting refl tt (waiting_comes _ _ side handed
          history after c.args.label none) _ c.take.new.self (refl, refl, refl, refl, refl, refl, refl) refl
          (subst (λ (p : Post). Carries c.take.new.self p) (after_none post none) took.1),
    )

pub returns-in_err-message-clause-err : goal.returns-in_err-message-clause-err
returns-in_err-message-clause-err c = λ side handed history after.
    let memory = c.in_err-message.ensures.memory _ (near_line _ _ side handed history after)
    (next_reads _ _ side handed history after) in
    let fault : c.in_err-message.field-0.0 ≡ Memory = cc in
    let err = err_from_is_err_and c.from_residual.result c.from_residual.ensures.1 in
    subst (λ (r : Result Outcome WorldFault). OnErr r (r ≡ Err Memory)) (sym (err.1 ∙ ap (λ f. Err f) (err.2 ∙ fault)))
    refl

pub returns-in_err-message-clause-waits : goal.returns-in_err-message-clause-waits
returns-in_err-message-clause-waits c = λ side handed history after none.
    let idle = c.in_err-message.ensures.idle _ (near_line _ _ side handed history after) none in cc

pub returns-in_default-deliver-clause-waits : goal.returns-in_default-deliver-clause-waits
returns-in_default-deliver-clause-waits c = λ side handed history after none.
    let idle = (rw c.in-Some.is at c.in_ok-message.ensures.idle) _ (near_line _ _ side handed history after) none in cc

pub returns-in-Ok-push-clause-waits : goal.returns-in-Ok-push-clause-waits
returns-in-Ok-push-clause-waits c = λ side handed history after none.
    let idle = (rw c.in-Some.is at c.in_ok-message.ensures.idle) _ (near_line _ _ side handed history after) none in cc

pub returns-in-Err-clause-waits : goal.returns-in-Err-clause-waits
returns-in-Err-clause-waits c = λ side handed history after none.
    let idle = (rw c.in-Some.is at c.in_ok-message.ensures.idle) _ (near_line _ _ side handed history after) none in cc
