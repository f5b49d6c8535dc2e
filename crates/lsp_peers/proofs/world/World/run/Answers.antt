use Rattle.std.proofs.Common.{◌≡◌, List, [], ◌∷◌, ◌++◌, ◌∙◌, refl, sym, ap, subst, append_assoc}
use Rattle.std.proofs.ResultArms.{chosen}
use Rattle.std.proofs.lemmas.Result.{err_from_is_err_and}
use Rattle.std.specs.Prelude.{not, Err, OnErr}
use Rattle.std.specs.Vec.Iter.{into_iter_items}
use Rattle.lsp_peers.specs.Exchange.{IsWholeRun}
use Rattle.lsp_peers.specs.declared.fault.WorldFault.TheVariants.{Memory}
use Rattle.lsp_peers.specs.declared.step.Outcome.{Outcome}
use Rattle.lsp_peers.specs.declared.step.Step.{Step}
use Rattle.lsp_peers.specs.Shallow.{IsShallow}
use Rattle.lsp_peers.proofs.Entries.{all_at}
use Rattle.lsp_peers.proofs.WorldLemmas.{whole_nothing, whole_more, whole_facts}
use Rattle.lsp_message.proofs.Joined.{all_taken}
use Rattle.lsp_peers.proofs.world.World.run.Goals as goal

pub loop-step-init : goal.loop-step-init
loop-step-init c = (
  tt,
  tt,
  c.into_iter-step-iterator.ensures.into_iter_gives.0,
  subst (λ (l : List Outcome). IsWholeRun [] l c.new-world.result) (sym c.new-outcomes.ensures.items) (whole_nothing _
      c.new-world.ensures),
)

pub loop-step-preserved : goal.loop-step-preserved
loop-step-preserved c =
    let before = c.loop-step.invariant in
    let rest : List Step = into_iter_items c.next.new.self in
    let turn : into_iter_items c.loop-step.step-iterator ≡ c.in-Some.step ∷ rest = c.in-Some.ensures.steps.0 in
    let whole : c.loop-step.yielded ++ c.in-Some.step ∷ rest ≡ c.args.steps.items = ap
    (λ (l : List Step). c.loop-step.yielded ++ l) (sym turn) ∙ before.2 in
    let pushed = chosen _ _ _ _ c.push.ensures.items (c.is_err.ensures.negation ∙ ap not c.if-is_err.false) in (
      tt,
      tt,
      append_assoc c.loop-step.yielded (c.in-Some.step ∷ []) rest ∙ whole,
      whole_more _ _ _ _ _ _ _ before.3 pushed (λ handed old after. c.in_ok-outcome.ensures.exchanged handed old after),
    )

pub returns-in_err-outcome-clause-deep : goal.returns-in_err-outcome-clause-deep
returns-in_err-outcome-clause-deep c = λ shallow.
    let before = c.loop-step.invariant in
    let rest : List Step = into_iter_items c.next.new.self in
    let turn : into_iter_items c.loop-step.step-iterator ≡ c.in-Some.step ∷ rest = c.in-Some.ensures.steps.0 in
    let whole : c.loop-step.yielded ++ c.in-Some.step ∷ rest ≡ c.args.steps.items = ap
    (λ (l : List Step). c.loop-step.yielded ++ l) (sym turn) ∙ before.2 in
    let memory = c.in_err-outcome.ensures.err (λ side. []) before.3.0 before.3.3 (all_at IsShallow c.loop-step.yielded
    rest c.args.steps.items c.in-Some.step whole shallow) in
    let fault : c.in_err-outcome.field-0.0 ≡ Memory = cc in
    let told = err_from_is_err_and c.from_residual.result c.from_residual.ensures.1 in
    subst (λ r. OnErr r (r ≡ Err Memory)) (sym (told.1 ∙ ap (λ f. Err f) (told.2 ∙ fault))) refl

pub returns-clause-exchanged : goal.returns-clause-exchanged
returns-clause-exchanged c =
    let none = c.in-None.ensures.steps.0 in
    let all : c.loop-step.yielded ≡ c.args.steps.items = all_taken c.loop-step.yielded (into_iter_items
    c.loop-step.step-iterator) c.args.steps.items c.loop-step.invariant.2 (sym c.loop-step.step-iterator.rest.ok.0
    ∙ none) in
    subst (λ (l : List Step). IsWholeRun l c.loop-step.outcomes.items c.loop-step.world) all c.loop-step.invariant.3

pub returns-clause-facts : goal.returns-clause-facts
returns-clause-facts c = whole_facts _ _ c.loop-step.world (returns-clause-exchanged c)
